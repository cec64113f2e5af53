-- the order of charge lists, and lists of charge lists that keep it
use Rattle.std.proofs.Common.{◌≡◌, zero, suc, ◌<◌, List, [], ◌∷◌, length, ◌⊎◌, inl, inr, refl, sym, subst, ◌∙◌, arith}
use Rattle.std.specs.Prelude.{AllPairs, Contains}
use Rattle.std.proofs.lemmas.Bool.{cases_order}
use Rattle.charge_model.specs.declared.charge.Charge.{Charge}
use Rattle.charge_model.specs.declared.charge.Charge.TheVariants.{Neg, Neutral, Pos}
use Rattle.charge_model.specs.Charges.{IsBefore, rank_of}

pub IsBefore-trans : (a b c : List Charge) → IsBefore a b → IsBefore b c → IsBefore a c
IsBefore-trans [] b c p q = absurd p
IsBefore-trans (x ∷ xs) [] c p q = absurd p
IsBefore-trans (x ∷ xs) (y ∷ ys) [] p q = absurd q
IsBefore-trans (x ∷ xs) (y ∷ ys) (z ∷ zs) (inl p) (inl q) = inl (omega (arith, p, q))
IsBefore-trans (x ∷ xs) (y ∷ ys) (z ∷ zs) (inl p) (inr q) = inl (subst (λ w. rank_of x < rank_of w) q.0 p)
IsBefore-trans (x ∷ xs) (y ∷ ys) (z ∷ zs) (inr p) (inl q) = inl (subst (λ w. rank_of w < rank_of z) (sym p.0) q)
IsBefore-trans (x ∷ xs) (y ∷ ys) (z ∷ zs) (inr p) (inr q) = inr (p.0 ∙ q.0, IsBefore-trans xs ys zs p.1 q.1)

pub IsBefore-irrefl : (a : List Charge) → IsBefore a a → ⊥
IsBefore-irrefl [] p = p
IsBefore-irrefl (x ∷ xs) (inl p) = omega (arith, p)
IsBefore-irrefl (x ∷ xs) (inr p) = IsBefore-irrefl xs p.1

-- charges of one rank are the same
pub same_rank : (x y : Charge) → rank_of x ≡ rank_of y → x ≡ y
same_rank Neg Neg e = refl
same_rank Neg Neutral e = absurd (omega arith)
same_rank Neg Pos e = absurd (omega arith)
same_rank Neutral Neg e = absurd (omega arith)
same_rank Neutral Neutral e = refl
same_rank Neutral Pos e = absurd (omega arith)
same_rank Pos Neg e = absurd (omega arith)
same_rank Pos Neutral e = absurd (omega arith)
same_rank Pos Pos e = refl

-- the order is total on lists of one length
pub order_cases : (c e : List Charge) → length e ≡ length c → (e ≡ c) ⊎ (IsBefore e c ⊎ IsBefore c e)
order_cases [] [] same = inl refl
order_cases [] (y ∷ ys) same = absurd (omega (arith, same))
order_cases (x ∷ xs) [] same = absurd (omega (arith, same))
order_cases (x ∷ xs) (y ∷ ys) same = by (cases_order (rank_of y) (rank_of x)) (order_cases xs ys (omega (arith, same)))
  where
    by : (rank_of y ≡ rank_of x) ⊎ ((rank_of y < rank_of x) ⊎ (rank_of x < rank_of y)) → (ys ≡ xs) ⊎ (IsBefore ys xs ⊎ IsBefore xs ys)
        → (y ∷ ys ≡ x ∷ xs) ⊎ (((rank_of y < rank_of x) ⊎ ((y ≡ x) × IsBefore ys xs)) ⊎ ((rank_of x < rank_of y) ⊎ ((x ≡ y) × IsBefore xs ys)))
    by (inl e) (inl f) = let g = same_rank y x e in inl (cc (f, g))
    by (inl e) (inr (inl h)) = inr (inl (inr (same_rank y x e, h)))
    by (inl e) (inr (inr h)) = inr (inr (inr (sym (same_rank y x e), h)))
    by (inr (inl l)) h = inr (inl (inl l))
    by (inr (inr l)) h = inr (inr (inl l))

head_before : (x y : List Charge) (xs : List (List Charge)) → AllPairs IsBefore (x ∷ xs) → Contains (x ∷ xs) y → (y ≡ x) ⊎ IsBefore x y
head_before x y xs pairs (zero, lt, e) = inl (sym e)
head_before x y xs pairs (suc k, lt, e) = inr (subst (IsBefore x) e (pairs 0 (suc k) y (omega arith) lt))

pairs_tail : (x : List Charge) (xs : List (List Charge)) → AllPairs IsBefore (x ∷ xs) → AllPairs IsBefore xs
pairs_tail x xs pairs = λ i j d h l. pairs (suc i) (suc j) d (omega (arith, h)) (omega (arith, l))

contains_tail : (x c : List Charge) (xs : List (List Charge)) → Contains xs c → Contains (x ∷ xs) c
contains_tail x c xs (k, lt, e) = (suc k, omega (arith, lt), e)

contains_cases : (x c : List Charge) (xs : List (List Charge)) → Contains (x ∷ xs) c → (x ≡ c) ⊎ Contains xs c
contains_cases x c xs (zero, lt, e) = inl e
contains_cases x c xs (suc k, lt, e) = inr (k, omega (arith, lt), e)

same_heads : (x y : List Charge) → (y ≡ x) ⊎ IsBefore x y → (x ≡ y) ⊎ IsBefore y x → x ≡ y
same_heads x y (inl e) h = sym e
same_heads x y (inr b) (inl e) = e
same_heads x y (inr b) (inr c) = absurd (IsBefore-irrefl x (IsBefore-trans x y x b c))

tail_within : (x y : List Charge) (xs ys : List (List Charge)) → x ≡ y → AllPairs IsBefore (x ∷ xs) → ((c : List Charge) → Contains (x ∷ xs) c → Contains (y ∷ ys) c)
    → (c : List Charge) → Contains xs c → Contains ys c
tail_within x y xs ys e pairs within c held = by (contains_cases y c ys (within c (contains_tail x c xs held)))
  where
    by : (y ≡ c) ⊎ Contains ys c → Contains ys c
    by (inl f) = absurd (IsBefore-irrefl x (subst (IsBefore x) (sym (e ∙ f)) (subst (IsBefore x) held.2 (pairs 0 (suc held.0) c (omega arith) (omega (arith, held.1))))))
    by (inr h) = h

-- ascending lists of the same charge lists are the same
pub same_ascending : (xs ys : List (List Charge)) → AllPairs IsBefore xs → AllPairs IsBefore ys
    → ((c : List Charge) → Contains xs c → Contains ys c) → ((c : List Charge) → Contains ys c → Contains xs c) → xs ≡ ys
same_ascending [] [] p q there back = refl
same_ascending [] (y ∷ ys) p q there back = absurd (omega (arith, (back y (0, omega arith, refl)).1))
same_ascending (x ∷ xs) [] p q there back = absurd (omega (arith, (there x (0, omega arith, refl)).1))
same_ascending (x ∷ xs) (y ∷ ys) p q there back =
    let e : x ≡ y = same_heads x y (head_before x y xs p (back y (0, omega arith, refl))) (head_before y x ys q (there x (0, omega arith, refl))) in
    let rest = same_ascending xs ys (pairs_tail x xs p) (pairs_tail y ys q) (tail_within x y xs ys e p there) (tail_within y x ys xs (sym e) q back) in
    cc
