-- an ascending list of lists of another is no longer
use Rattle.std.proofs.Common.{◌≡◌, zero, suc, ◌≤◌, List, [], ◌∷◌, length, ◌⊎◌, inl, inr, refl, sym, subst, arith}
use Rattle.std.specs.Prelude.{AllPairs, Contains}
use Rattle.charge_model.specs.declared.charge.Charge.{Charge}
use Rattle.charge_model.specs.Charges.{IsBefore}
use Rattle.charge_model.specs.Problem.{Problem}
use Rattle.charge_model.specs.GroundList.{IsGroundList}
use Rattle.charge_model.proofs.Order.{IsBefore-trans, IsBefore-irrefl}
use Rattle.narrower_laws.specs.Narrower.{IsNarrower}
use Rattle.narrower_laws.proofs.NarrowerLemmas.{listed_in_both}

in_tail : (x c : List Charge) (xs : List (List Charge)) → Contains (x ∷ xs) c → (x ≡ c) ⊎ Contains xs c
in_tail x c xs (zero, lt, e) = inl e
in_tail x c xs (suc k, lt, e) = inr (k, omega (arith, lt), e)

in_more : (x c : List Charge) (xs : List (List Charge)) → Contains xs c → Contains (x ∷ xs) c
in_more x c xs (k, lt, e) = (suc k, omega (arith, lt), e)

rest_ascends : (x : List Charge) (xs : List (List Charge)) → AllPairs IsBefore (x ∷ xs) → AllPairs IsBefore xs
rest_ascends x xs pairs = λ i j d h l. pairs (suc i) (suc j) d (omega (arith, h)) (omega (arith, l))

head_first : (x c : List Charge) (xs : List (List Charge)) → AllPairs IsBefore (x ∷ xs) → Contains xs c → IsBefore x c
head_first x c xs pairs (k, lt, e) = subst (IsBefore x) e (pairs 0 (suc k) c (omega arith) (omega (arith, lt)))

-- what comes after the head of a list that it is in is in the rest
past_head : (x c : List Charge) (xs : List (List Charge)) → IsBefore x c → Contains (x ∷ xs) c → Contains xs c
past_head x c xs after held = by (in_tail x c xs held)
  where
    by : (x ≡ c) ⊎ Contains xs c → Contains xs c
    by (inl e) = absurd (IsBefore-irrefl x (subst (IsBefore x) (sym e) after))
    by (inr h) = h

no_longer : (xs ys : List (List Charge)) → AllPairs IsBefore xs → AllPairs IsBefore ys → ((c : List Charge) → Contains ys c → Contains xs c) → length ys ≤ length xs
no_longer xs [] p q within = omega arith
no_longer [] (y ∷ ys) p q within = absurd (omega (arith, (within y (0, omega arith, refl)).1))
no_longer (x ∷ xs) (y ∷ ys) p q within = by (in_tail x y xs (within y (0, omega arith, refl))) (no_longer xs ys (rest_ascends x xs p) (rest_ascends y ys q)) (no_longer xs (y ∷ ys) (rest_ascends x xs p) q)
  where
    after_both : IsBefore x y → (c : List Charge) → (y ≡ c) ⊎ Contains ys c → IsBefore x c
    after_both less c (inl e) = subst (IsBefore x) e less
    after_both less c (inr h) = IsBefore-trans x y c less (head_first y c ys q h)

    by : (x ≡ y) ⊎ Contains xs y → (((c : List Charge) → Contains ys c → Contains xs c) → length ys ≤ length xs) → (((c : List Charge) → Contains (y ∷ ys) c → Contains xs c) → length (y ∷ ys) ≤ length xs)
        → length (y ∷ ys) ≤ length (x ∷ xs)
    by (inl e) rest whole =
        let shorter = rest (λ c held. past_head x c xs (subst (λ z. IsBefore z c) (sym e) (head_first y c ys q held)) (within c (in_more y c ys held))) in omega (arith, shorter)
    by (inr h) rest whole =
        let shorter = whole (λ c held. past_head x c xs (after_both (head_first x y xs p h) c (in_tail y c ys held)) (within c held)) in omega (arith, shorter)

pub no_longer_list : (wide narrow : Problem) (l m : List (List Charge)) → IsNarrower wide narrow → IsGroundList wide l → IsGroundList narrow m → length m ≤ length l
no_longer_list wide narrow l m is list part = no_longer l m list.in_order part.in_order (λ c held. listed_in_both wide narrow l m c is list part held)
