-- charges that are gone through in turn
use Rattle.std.proofs.Common.{◌≡◌, ◌≢◌, ℕ, refl, inl, inr}
use Rattle.std.specs.Prelude.{Result, Ok, Err}
use Rattle.std.proofs.lemmas.Bool.{eq-eqb, ne_eqb}
use Rattle.charge_model.specs.declared.charge.Charge.{Charge}
use Rattle.charge_model.specs.declared.charge.Charge.TheVariants.{Neg, Neutral, Pos}
use Rattle.tree_walk.specs.Visiting.{base_charges, AreDone}

pub chain_two : {S E : Type 0} (done : Charge → Result (Unit {0}) E → S → S → Type 0) (base : ℕ) (a b c : S) → base ≡ 2
    → done Neg (Ok tt) a b → done Neutral (Ok tt) b c → AreDone done (base_charges base) (Ok tt) a c
chain_two done base a b c two first second = rw (eq-eqb base 2 two) (b, first, (c, second, refl))

pub chain_three : {S E : Type 0} (done : Charge → Result (Unit {0}) E → S → S → Type 0) (base : ℕ) (r : Result (Unit {0}) E) (a b c d : S) → base ≢ 2
    → done Neg (Ok tt) a b → done Neutral (Ok tt) b c → done Pos r c d → AreDone done (base_charges base) r a d
chain_three done base (Ok u) a b c d three first second third = rw (ne_eqb base 2 three) (b, first, (c, second, (d, third, refl)))
chain_three done base (Err e) a b c d three first second third = rw (ne_eqb base 2 three) (inr (b, first, inr (c, second, inl third)))
