use Rattle.std.proofs.Common.{◌<◌, ◌≤◌, length, get_or, [], refl, sym, subst, ◌∙◌, arith}
use Rattle.std.proofs.lemmas.Bool.{false≢true}
use Rattle.std.proofs.lemmas.List.Elements.{AllWithin-more, at_read}
use Rattle.charge_model.specs.Rules.{Beats}
use Rattle.level_range_laws.specs.Levels.{at_level}
use Rattle.level_candidates.specs.declared.candidate.LevelCandidate.{LevelCandidate}
use Rattle.level_candidates.specs.Candidates.{lists_of_level_candidates}
use Rattle.level_range.proofs.Listing.{IsSetting, measured_at, possible_in, listed_of, listed_when, beats_here, beaten_never, not_lower_never, unbeaten, charges_at}
use Rattle.level_range.proofs.answers.is_listed_at.Goals as goal
use Rattle.level_range.proofs.answers.is_listed_at.Goals.{else-includes-via-then-includes+in_ok-is_lower+else-branch, else-includes-via-else-includes}

pub returns-then-not-includes : goal.returns-then-not-includes
returns-then-not-includes c =
    let p = c.args.problem.now in
    let levels = c.args._levels in
    let xs = c.args.all.now in
    let m = c.args.level.value in
    let x = c.index-all-k.result in
    let measured = measured_at p levels xs c.args.k x c.requires.all c.requires.place c.index-all-k.is in (
      λ e. absurd (false≢true e),
      λ h. absurd (false≢true (sym c.if-not-includes.true ∙ c.includes.ensures.1 ((possible_in p levels m x c.requires.level measured).1 (listed_of p m xs c.args.k x c.requires.place c.index-all-k.is h).possible))),
    )

pub returns-then-branch : goal.returns-then-branch
returns-then-branch c =
    let p = c.args.problem.now in
    let levels = c.args._levels in
    let xs = c.args.all.now in
    let m = c.args.level.value in
    let x = c.index-all-k.result in
    let w = c.index-all-i.result in
    let within : c.loop-i.i < length xs = omega arith in
    let measured = measured_at p levels xs c.loop-i.i w c.requires.all within c.index-all-i.is in (
      λ e. absurd (false≢true e),
      λ h. absurd ((listed_of p m xs c.args.k x c.requires.place c.index-all-k.is h).unbeaten w.charges
          (beats_here p levels m w x.charges c.requires.level measured (c.includes-in-loop-i.ensures.0 c.if-includes.true) (c.in_ok-is_lower.ensures.0 c.if-branch.true))),
    )

pub loop-i-preserved : goal.loop-i-preserved
loop-i-preserved c =
    let p = c.args.problem.now in
    let levels = c.args._levels in
    let xs = c.args.all.now in
    let m = c.args.level.value in
    let x = c.index-all-k.result in
    let w = c.index-all-i.result in
    let own = get_or (lists_of_level_candidates xs) c.args.k [] in
    let within : c.loop-i.i < length xs = omega arith in
    let measured = measured_at p levels xs c.loop-i.i w c.requires.all within c.index-all-i.is in
    let P = λ (y : LevelCandidate). Beats (at_level p m) y.charges own → ⊥ in
    let here : Beats (at_level p m) w.charges own → ⊥ = elim c.else-includes.branch [
      | else-includes-via-then-includes+in_ok-is_lower+else-branch v ↦ λ h. not_lower_never p m w x.charges v.in_ok-is_lower.field-0 v.in_ok-is_lower.ensures v.if-branch.false
          (subst (Beats (at_level p m) w.charges) (charges_at xs c.args.k x c.requires.place c.index-all-k.is []) h)
      | else-includes-via-else-includes v ↦ beaten_never p levels m w own c.includes-in-loop-i.result c.requires.level measured c.includes-in-loop-i.ensures v.if-includes.false
    ] in
    AllWithin-more P xs 0 c.loop-i.i c.loop-i.invariant (at_read xs P c.loop-i.i w within c.index-all-i.is here)

pub returns : goal.returns
returns c =
    let p = c.args.problem.now in
    let levels = c.args._levels in
    let xs = c.args.all.now in
    let m = c.args.level.value in
    let x = c.index-all-k.result in
    let own = get_or (lists_of_level_candidates xs) c.args.k [] in
    let same = charges_at xs c.args.k x c.requires.place c.index-all-k.is [] in
    let set : IsSetting p levels xs m = record { tables = c.problems_have_tables.ensures p c.sites-known.ensures.valid; all = c.requires.all; inside = c.requires.level } in
    let end : length xs ≤ c.loop-i.i = omega arith in (
      λ e. listed_when p levels xs m c.args.k x set c.requires.place c.index-all-k.is (c.includes.ensures.0 c.if-not-includes.false)
          (λ w h. unbeaten p levels xs m c.loop-i.i x own set c.loop-i.invariant end w (subst (Beats (at_level p m) w) (sym same) h)),
      λ h. refl,
    )
