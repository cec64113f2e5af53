-- charge lists that grow at their end
use Rattle.std.proofs.Common.{◌≡◌, ◌≢◌, ℕ, ◌+◌, List, [], ◌∷◌, ◌++◌, length, refl, ap, arith}
use Rattle.std.proofs.lemmas.List.{length-append}
use Rattle.charge_model.specs.declared.charge.Charge.{Charge}
use Rattle.charge_model.specs.declared.charge.Charge.TheVariants.{Pos}
use Rattle.charge_model.specs.Charges.{IsOfBase}
use Rattle.prefix_bound.specs.Tables.{HasLast}

-- a list of the base with one more charge of the base
pub of_base_more : (base : ℕ) (q : List Charge) (c : Charge) → IsOfBase base q → (base ≡ 2 → c ≢ Pos) → IsOfBase base (q ++ c ∷ [])
of_base_more base [] c of allowed = (allowed, tt)
of_base_more base (x ∷ q) c of allowed = (of.0, of_base_more base q c of.1 allowed)

-- one more charge adds one to the length
pub length_more : (q : List Charge) (c : Charge) → length (q ++ c ∷ []) ≡ length q + 1
length_more q c = length-append q (c ∷ [])

-- taking a charge off takes one from it
pub length_less : (old new : List Charge) → HasLast old new → length old ≡ length new + 1
length_less old new last = let e = ap length last.1 in omega (arith, e, length_more new last.0)

-- a list of length 0 is empty, and one that has a length is not
pub is_empty : (q : List Charge) → length q ≡ 0 → q ≡ []
is_empty [] e = refl
is_empty (x ∷ q) e = absurd (omega (arith, e))

pub not_empty : (q : List Charge) → q ≡ [] → length q ≡ 0
not_empty q e = ap length e
