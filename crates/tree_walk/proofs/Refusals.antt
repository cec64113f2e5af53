-- what is not done
use Rattle.std.proofs.Common.{ℕ, [], ◌∷◌, arith}
use Rattle.std.specs.Prelude.{Ok, Err}
use Rattle.charge_model.specs.declared.charge.Charge.TheVariants.{Neg}
use Rattle.tree_walk.specs.Visiting.{AreDone}
use Rattle.tree_walk.proofs.StandardFacts.{IsCounted}

nothing_changes_unseen : AreDone IsCounted [] (Ok tt) 4 5 → ⊥
nothing_changes_unseen done = omega (arith, done)

nothing_stops_unseen : (stop : ℕ) → AreDone IsCounted [] (Err stop) 4 4 → ⊥
nothing_stops_unseen stop done = done

not_passed_over : AreDone IsCounted (Neg ∷ []) (Ok tt) 4 4 → ⊥
not_passed_over (mid, first, rest) = omega (arith, first, rest)
