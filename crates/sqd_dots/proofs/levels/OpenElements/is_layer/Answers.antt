use Rattle.std.proofs.Common.{◌≡◌, ◌∙◌, sym, ap, arith, true, ◌&&◌}
use Rattle.std.specs.Prelude.{codes}
use Rattle.std.specs.Str.{bytes_eq}
use Rattle.sqd_dots.proofs.LevelLemmas.{layer_by}
use Rattle.sqd_dots.proofs.levels.OpenElements.is_layer.Goals as goal

pub returns-then-is_layer : goal.returns-then-is_layer
returns-then-is_layer c = λ around h.
    let by = layer_by c.args.self.now.inner c.index.result.now c.args.self.now.outer.items around (omega (arith, c.len.ensures)) c.index.ensures h in
    let near : bytes_eq c.args.self.now.inner.name.now (codes "layer") ≡ true = ap (bytes_eq c.args.self.now.inner.name.now) (sym c.as_slice.ensures) ∙ sym c.eq-is_layer.ensures ∙ c.if-is_layer.true in
    let next : c.eq-in_design.result ≡ bytes_eq c.index.result.now.name.now (codes "design") = c.eq-in_design.ensures ∙ ap (bytes_eq c.index.result.now.name.now) c.as_slice-2.ensures in
    next ∙ ap (λ b. b && bytes_eq c.index.result.now.name.now (codes "design")) (sym near) ∙ sym by
