-- charges of a base, and what is done for them in turn, by hand
use Rattle.std.proofs.Common.{◌≡◌, ◌+◌, ℕ, [], ◌∷◌, refl}
use Rattle.std.specs.Prelude.{Result, Ok, Err}
use Rattle.charge_model.specs.declared.charge.Charge.{Charge}
use Rattle.charge_model.specs.declared.charge.Charge.TheVariants.{Neg, Neutral, Pos}
use Rattle.charge_model.specs.Charges.{rank_of}
use Rattle.tree_walk.specs.Visiting.{base_charges, AreDone}

two_of_base_2 : base_charges 2 ≡ Neg ∷ (Neutral ∷ [])
two_of_base_2 = refl

three_of_base_3 : base_charges 3 ≡ Neg ∷ (Neutral ∷ (Pos ∷ []))
three_of_base_3 = refl

-- each charge adds its rank and one, and a stop leaves the rest undone
abbrev pub IsCounted : Charge → Result (Unit {0}) ℕ → ℕ → ℕ → Type 0
IsCounted x (Ok u) old new = new ≡ old + rank_of x + 1
IsCounted x (Err stop) old new = new ≡ old

all_counted : AreDone IsCounted (base_charges 3) (Ok tt) 0 6
all_counted = (1, refl, (3, refl, (6, refl, refl)))

none_counted : AreDone IsCounted [] (Ok tt) 4 4
none_counted = refl
