-- lists in order that are put together, and lists that branch after a prefix
use Rattle.std.proofs.Common.{◌≡◌, ◌≢◌, ℕ, suc, ◌<◌, List, [], ◌∷◌, ◌++◌, refl, arith, inl, inr}
use Rattle.std.specs.Prelude.{All, AllPairs, Contains}
use Rattle.std.proofs.lemmas.List.Elements.{All-append}
use Rattle.std.proofs.lemmas.List.Kept.{AllPairs-cons}
use Rattle.charge_model.specs.declared.charge.Charge.{Charge}
use Rattle.charge_model.specs.declared.charge.Charge.TheVariants.{Pos}
use Rattle.charge_model.specs.Charges.{IsBefore, IsOfBase, rank_of}

pub pairs_append : {X : Type 0} (R : X → X → Type 0) (xs ys : List X) → AllPairs R xs → AllPairs R ys → ((x : X) → Contains xs x → All (R x) ys) → AllPairs R (xs ++ ys)
pairs_append R [] ys h k across = k
pairs_append R (x ∷ xs) ys h k across = AllPairs-cons R x (xs ++ ys)
    (All-append (R x) xs ys (λ j d l. h 0 (suc j) d (omega arith) (omega arith)) (across x (0, (omega arith), refl)))
    (pairs_append R xs ys (λ i j d lt w. h (suc i) (suc j) d (omega arith) (omega arith)) k (λ z c. across z (suc c.0, (omega (arith, c.1)), c.2)))

-- a charge of lower rank after a prefix comes first
pub before_branch : (q : List Charge) (a b : Charge) (r s : List Charge) → rank_of a < rank_of b → IsBefore ((q ++ a ∷ []) ++ r) ((q ++ b ∷ []) ++ s)
before_branch [] a b r s h = inl h
before_branch (x ∷ q) a b r s h = inr (refl, before_branch q a b r s h)

-- the charge after a prefix is of the base
pub branch_of_base : (base : ℕ) (q : List Charge) (x : Charge) (r : List Charge) → IsOfBase base (q ++ x ∷ r) → base ≡ 2 → x ≢ Pos
branch_of_base base [] x r h = h.0
branch_of_base base (y ∷ q) x r h = branch_of_base base q x r h.1

pub of_base-push : (base : ℕ) (q : List Charge) (x : Charge) → IsOfBase base q → (base ≡ 2 → x ≢ Pos) → IsOfBase base (q ++ x ∷ [])
of_base-push base [] x h allowed = (allowed, tt)
of_base-push base (y ∷ q) x h allowed = (h.0, of_base-push base q x h.1 allowed)
