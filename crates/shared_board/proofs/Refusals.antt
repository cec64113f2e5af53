-- what no round does, and what its words are not
use Rattle.std.proofs.Common.{◌≡◌, ◌∙◌, [], ◌∷◌, refl, ap, arith, sym}
use Rattle.std.proofs.lemmas.Int.{ints}
use Rattle.std.proofs.lemmas.Bool.{false≢true}
use Rattle.std.proofs.lemmas.List.Elements.{Contains-push}
use Rattle.std.specs.Prelude.{pos, negsuc}
use mathlib.Core.Option.{some-injective}
use Rattle.shared_board.specs.declared.view.View.{View}
use Rattle.shared_board.specs.Core.{claim, enter, make, Allowed, opening_core, first_view}
use Rattle.shared_board.specs.Rule.{Rule, IsPlan}
use Rattle.shared_board.specs.Seating.{EndsRound}
use Rattle.shared_board.proofs.StandardFacts.{small_plan, last_view, last_core}

no_limit : IsPlan (record small_plan { limit = 0 }) → ⊥
no_limit is = let some = is.some_limit in omega (arith, some)

no_worker : IsPlan (record small_plan { workers = 0 }) → ⊥
no_worker is = let some = is.some_worker in omega (arith, some)

too_many_tasks : IsPlan (record small_plan { tasks = 82 }) → ⊥
too_many_tasks is = let few = is.tasks in omega (arith, few)

-- a bound above the threshold's, or above what was published, a count, a claim of a task that is none
high_bound : Rule small_plan (record last_core { bound = pos 2 }) → ⊥
high_bound rule = let high = rule.high in omega (arith, ints, high)

third_entered : Rule small_plan (record last_core { entered = 3 }) → ⊥
third_entered rule = let count = rule.entered in omega (arith, count)

above_published : EndsRound small_plan (last_view ∷ []) (record { bound = negsuc 3; entered = 2; claimed = 2 }) → ⊥
above_published ends = let least = ends.at_most_each 0 last_view (negsuc 4) refl in let below = least (Contains-push [] (negsuc 4)) in omega (arith, ints, below)

never_entered : EndsRound small_plan (last_view ∷ []) (record { bound = negsuc 4; entered = 1; claimed = 2 }) → ⊥
never_entered ends = let count = ends.entered in omega (arith, count)

-- no entering before a look, none at what was seen, and no claim after there was no task
no_look_before : Allowed (opening_core small_plan) (enter 0 (pos 0)) → ⊥
no_look_before (v, has, fresh, under, within) = false≢true (ap (λ (w : View). w.fresh) (some-injective (first_view small_plan) v has.0) ∙ fresh)

not_below : Allowed last_core (enter 0 (negsuc 4)) → ⊥
not_below (v, has, fresh, under, within) = let seen : negsuc 4 ≡ v.seen = ap (λ (w : View). w.seen) (some-injective last_view v has.0) in omega (arith, ints, under, seen)

no_more_claims : Allowed last_core (claim 0) → ⊥
no_more_claims (v, has, none) = false≢true (sym none ∙ sym (ap (λ (w : View). w.got_none) (some-injective last_view v has.0)))

-- no seat is split off by a seat that has one share
no_share_left : Allowed (opening_core small_plan) (make 0) → ⊥
no_share_left (v, has, two, spent, none) = let one : 1 ≡ v.shares = ap (λ (w : View). w.shares) (some-injective (first_view small_plan) v has.0) in omega (arith, two, one)
