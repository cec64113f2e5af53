use Rattle.std.proofs.Common.{ℕ, ◌<◌, ◌≤◌, length, get_or, [], refl, sym, subst, ◌∙◌, arith}
use Rattle.std.proofs.lemmas.Bool.{false≢true}
use Rattle.std.proofs.lemmas.List.{get_or_default}
use Rattle.std.proofs.lemmas.List.Elements.{AllWithin-more}
use Rattle.level_range_laws.specs.Levels.{IsNeverAbove}
use Rattle.level_candidates.specs.Candidates.{lists_of_level_candidates}
use Rattle.level_range.proofs.Listing.{certain_of, certain_when, not_above_place, charges_at}
use Rattle.level_range.proofs.answers.is_certain_at.Goals as goal

pub returns-then-not-branch : goal.returns-then-not-branch
returns-then-not-branch c =
    let p = c.args.problem.now in
    let xs = c.args.all.now in
    let m = c.args.level.value in
    let ks = c.args.places.now in
    let x = c.index-all-k.result in
    let y = c.index-all-places.result in
    let i = c.loop-i.i in
    let within : i < length ks = omega arith in
    let place = c.requires.places i 0 within in (
      λ e. absurd (false≢true e),
      λ h. absurd (false≢true (sym c.if-not-branch.true ∙ c.in_ok-is_never_above.ensures.1
          (subst (IsNeverAbove p x.charges) (charges_at xs (get_or ks i 0) y place c.index-all-places.is [])
          (not_above_place p m xs ks i 0 x.charges within (certain_of p m xs c.args.k x ks c.requires.place c.index-all-k.is h))))),
    )

pub loop-i-preserved : goal.loop-i-preserved
loop-i-preserved c =
    let p = c.args.problem.now in
    let xs = c.args.all.now in
    let ks = c.args.places.now in
    let x = c.index-all-k.result in
    let y = c.index-all-places.result in
    let i = c.loop-i.i in
    let own = get_or (lists_of_level_candidates xs) c.args.k [] in
    let within : i < length ks = omega arith in
    let place = c.requires.places i 0 within in
    let P = λ (j : ℕ). IsNeverAbove p own (get_or (lists_of_level_candidates xs) j []) in
    let above = c.in_ok-is_never_above.ensures.0 c.if-not-branch.false in
    let first = subst (λ z. IsNeverAbove p z y.charges) (sym (charges_at xs c.args.k x c.requires.place c.index-all-k.is [])) above in
    let here : P (get_or ks i 0) = subst (IsNeverAbove p own) (sym (charges_at xs (get_or ks i 0) y place c.index-all-places.is [])) first in
    AllWithin-more P ks 0 i c.loop-i.invariant (λ d. subst P (get_or_default ks i 0 d within) here)

pub returns : goal.returns
returns c =
    let p = c.args.problem.now in
    let levels = c.args._levels in
    let xs = c.args.all.now in
    let m = c.args.level.value in
    let ks = c.args.places.now in
    let x = c.index-all-k.result in
    let same = charges_at xs c.args.k x c.requires.place c.index-all-k.is [] in
    let end : length ks ≤ c.loop-i.i = omega arith in (
      λ e. certain_when p levels xs m c.args.k x ks c.loop-i.i c.requires.all c.requires.level c.requires.place c.index-all-k.is (c.includes.ensures.0 c.if-not-includes.false)
          (λ j d low high. subst (λ z. IsNeverAbove p z (get_or (lists_of_level_candidates xs) (get_or ks j d) [])) same (c.loop-i.invariant j d low high)) end,
      λ h. refl,
    )
