use Rattle.std.proofs.Common.{◌≡◌, ◌<◌, length, sym, subst, refl, get_or, arith, pos}
use Rattle.std.specs.Prelude.{IsSomeAnd}
use Rattle.std.proofs.lemmas.List.{length-map}
use Rattle.std.proofs.lemmas.Option.{slice_get-get_or}
use Rattle.sqd_dots.specs.declared.drawing.Dot.{Dot}
use Rattle.sqd_layout.proofs.sqd.place_of.Goals as goal

abbrev none : Dot
none = record { at = 0; site = record { n = pos 0; m = pos 0; l = pos 0 } }

pub returns : goal.returns
returns c =
    let within : c.args.i < length c.args.dots.now = omega (arith, length-map c.args.dots.now (λ d. d.site)) in
    subst (λ o. IsSomeAnd o (λ d. d.at ≡ (get_or c.args.dots.now c.args.i none).at)) (sym (slice_get-get_or c.args.dots.now c.args.i none within)) refl
