-- the order of charge lists, and the next one
use Rattle.std.proofs.Common.{◌≡◌, ◌≢◌, ℕ, zero, suc, ◌+◌, ◌-◌, ◌*◌, ◌^◌, ◌<◌, ◌≤◌, List, [], ◌∷◌, ◌++◌, length, replicate, Some, None, cond, eqb, ◌⊎◌, inl, inr, refl, sym, ap, subst, ◌∙◌, arith}
use Rattle.std.proofs.Math.Nat.{mul-le-mul_right, pow-suc}
use Rattle.std.proofs.lemmas.Bool.{cases_eq, eq-eqb, ne_eqb}
use Rattle.std.proofs.lemmas.List.{length-append, length-replicate, append_assoc}
use Rattle.charge_model.specs.declared.charge.Charge.{Charge}
use Rattle.charge_model.specs.declared.charge.Charge.TheVariants.{Neg, Neutral, Pos}
use Rattle.charge_model.specs.Charges.{charge_at, rank_of, IsBefore, IsOfBase, IsNext, IsLast}
use Rattle.charge_state.specs.Order.{successor_of}
use Rattle.charge_model.proofs.Order.{same_rank, IsBefore-trans, IsBefore-irrefl}

-- each charge of the list is the last of the base
abbrev pub AllLast : ℕ → List Charge → Type 0
AllLast b [] = Unit {0}
AllLast b (c ∷ cs) = (successor_of b c ≡ None) × AllLast b cs

-- no allowed charge is above the last
last-rank : (b : ℕ) (x y : Charge) → successor_of b x ≡ None → (b ≡ 2 → y ≢ Pos) → rank_of y ≤ rank_of x
last-rank b Neg y e a = absurd (cc)
last-rank b Neutral Neg e a = omega arith
last-rank b Neutral Neutral e a = omega arith
last-rank b Neutral Pos e a = by (cases_eq b 2)
  where
    by : (b ≡ 2) ⊎ (b ≢ 2) → 2 ≤ 1
    by (inl two) = absurd (a two refl)
    by (inr other) = let f : cond (eqb b 2) None (Some Pos) ≡ Some Pos = rw (ne_eqb b 2 other) refl in absurd (cc)
last-rank b Pos Neg e a = omega arith
last-rank b Pos Neutral e a = omega arith
last-rank b Pos Pos e a = omega arith

-- the successor is one above
successor-rank : (b : ℕ) (x d : Charge) → successor_of b x ≡ Some d → rank_of d ≡ suc (rank_of x)
successor-rank b Neg d e = let f : d ≡ Neutral = cc in rw f refl
successor-rank b Neutral d e = by (cases_eq b 2)
  where
    by : (b ≡ 2) ⊎ (b ≢ 2) → rank_of d ≡ 2
    by (inl two) = let f : cond (eqb b 2) None (Some Pos) ≡ None = rw (eq-eqb b 2 two) refl in absurd (cc)
    by (inr other) = let f : cond (eqb b 2) None (Some Pos) ≡ Some Pos = rw (ne_eqb b 2 other) refl in let g : d ≡ Pos = cc in rw g refl
successor-rank b Pos d e = absurd (cc)

successor-allowed : (b : ℕ) (x d : Charge) → successor_of b x ≡ Some d → b ≡ 2 → d ≢ Pos
successor-allowed b Neg d e two = λ f. let g : Some Neutral ≡ Some Pos = e ∙ ap (λ z. Some z) f in absurd (cc)
successor-allowed b Neutral d e two = λ f. let g : cond (eqb b 2) None (Some Pos) ≡ None = rw (eq-eqb b 2 two) refl in absurd (cc)
successor-allowed b Pos d e two = absurd (cc)

-- a list of last charges has none after it
pub none_after_last : (b : ℕ) (cs : List Charge) → AllLast b cs → IsLast b cs
none_after_last b [] a e same of before = before
none_after_last b (x ∷ xs) a [] same of before = before
none_after_last b (x ∷ xs) a (y ∷ ys) same of (inl lower) = let le = last-rank b x y a.0 of.0 in omega (arith, lower, le)
none_after_last b (x ∷ xs) a (y ∷ ys) same of (inr rest) = none_after_last b xs a.1 ys (omega (arith, same)) of.1 rest.1

-- a list of `Neg` is first
pub first-least : (k : ℕ) (e : List Charge) → length e ≡ k → (e ≡ replicate k Neg) ⊎ IsBefore (replicate k Neg) e
first-least zero [] same = inl refl
first-least zero (y ∷ ys) same = absurd (omega (arith, same))
first-least (suc k) [] same = absurd (omega (arith, same))
first-least (suc k) (Neg ∷ ys) same = by (first-least k ys (omega (arith, same)))
  where
    by : (ys ≡ replicate k Neg) ⊎ IsBefore (replicate k Neg) ys → (Neg ∷ ys ≡ Neg ∷ replicate k Neg) ⊎ ((0 < 0) ⊎ ((Neg ≡ Neg) × IsBefore (replicate k Neg) ys))
    by (inl e) = inl (ap (λ z. Neg ∷ z) e)
    by (inr h) = inr (inr (refl, h))
first-least (suc k) (Neutral ∷ ys) same = inr (inl (omega arith))
first-least (suc k) (Pos ∷ ys) same = inr (inl (omega arith))

pub fill_of_base : (b k : ℕ) → IsOfBase b (replicate k Neg)
fill_of_base b zero = tt
fill_of_base b (suc k) = ((λ two e. absurd (cc)), fill_of_base b k)

next_of_base : (b : ℕ) (pre : List Charge) (x d : Charge) (rest : List Charge) → successor_of b x ≡ Some d → IsOfBase b (pre ++ x ∷ rest) → IsOfBase b (pre ++ d ∷ replicate (length rest) Neg)
next_of_base b [] x d rest s of = (successor-allowed b x d s, fill_of_base b (length rest))
next_of_base b (y ∷ ys) x d rest s of = (of.0, next_of_base b ys x d rest s of.1)

next_after : (b : ℕ) (pre : List Charge) (x d : Charge) (rest : List Charge) → successor_of b x ≡ Some d → IsBefore (pre ++ x ∷ rest) (pre ++ d ∷ replicate (length rest) Neg)
next_after b [] x d rest s = inl (let e = successor-rank b x d s in omega (arith, e))
next_after b (y ∷ ys) x d rest s = inr (refl, next_after b ys x d rest s)

next_whole : (pre : List Charge) (x d : Charge) (rest : List Charge) → length (pre ++ d ∷ replicate (length rest) Neg) ≡ length (pre ++ x ∷ rest)
next_whole [] x d rest = ap suc (length-replicate (length rest) Neg)
next_whole (y ∷ ys) x d rest = ap suc (next_whole ys x d rest)

next_none_between : (b : ℕ) (pre : List Charge) (x d : Charge) (rest : List Charge) → successor_of b x ≡ Some d → AllLast b rest
    → (e : List Charge) → length e ≡ length (pre ++ x ∷ rest) → IsOfBase b e → IsBefore (pre ++ x ∷ rest) e
    → (e ≡ pre ++ d ∷ replicate (length rest) Neg) ⊎ IsBefore (pre ++ d ∷ replicate (length rest) Neg) e
next_none_between b [] x d rest s last [] same of before = absurd before
next_none_between b [] x d rest s last (y ∷ ys) same of (inl lower) = by (cases_eq (rank_of y) (rank_of d)) (first-least (length rest) ys (omega (arith, same)))
  where
    above : rank_of d ≡ suc (rank_of x)
    above = successor-rank b x d s

    by : (rank_of y ≡ rank_of d) ⊎ (rank_of y ≢ rank_of d) → (ys ≡ replicate (length rest) Neg) ⊎ IsBefore (replicate (length rest) Neg) ys
        → (y ∷ ys ≡ d ∷ replicate (length rest) Neg) ⊎ ((rank_of d < rank_of y) ⊎ ((d ≡ y) × IsBefore (replicate (length rest) Neg) ys))
    by (inl e) (inl f) = let g = same_rank y d e in inl (cc (f, g))
    by (inl e) (inr h) = inr (inr (sym (same_rank y d e), h))
    by (inr ne) h = inr (inl (omega (arith, above, lower, ne)))
next_none_between b [] x d rest s last (y ∷ ys) same of (inr h) = absurd (none_after_last b rest last ys (omega (arith, same)) of.1 h.1)
next_none_between b (z ∷ zs) x d rest s last [] same of before = absurd before
next_none_between b (z ∷ zs) x d rest s last (y ∷ ys) same of (inl lower) = inr (inl lower)
next_none_between b (z ∷ zs) x d rest s last (y ∷ ys) same of (inr h) = by (next_none_between b zs x d rest s last ys (omega (arith, same)) of.1 h.1)
  where
    by : (ys ≡ zs ++ d ∷ replicate (length rest) Neg) ⊎ IsBefore (zs ++ d ∷ replicate (length rest) Neg) ys
        → (y ∷ ys ≡ z ∷ (zs ++ d ∷ replicate (length rest) Neg)) ⊎ ((rank_of z < rank_of y) ⊎ ((z ≡ y) × IsBefore (zs ++ d ∷ replicate (length rest) Neg) ys))
    by (inl e) = let g = h.0 in inl (cc (e, g))
    by (inr i) = inr (inr (h.0, i))

pub next_is : (b : ℕ) (pre : List Charge) (x d : Charge) (rest : List Charge) → successor_of b x ≡ Some d → AllLast b rest → IsOfBase b (pre ++ x ∷ rest)
    → IsNext b (pre ++ x ∷ rest) (pre ++ d ∷ replicate (length rest) Neg)
next_is b pre x d rest s last of = record {
  whole = next_whole pre x d rest;
  of_base = next_of_base b pre x d rest s of;
  after = next_after b pre x d rest s;
  none_between = next_none_between b pre x d rest s last;
}

-- what the code makes of the front that is left
pub next_made : (b : ℕ) (cs next pre rest pushed filled : List Charge) (x d : Charge) (n : ℕ)
    → cs ≡ next ++ rest → next ≡ pre ++ x ∷ [] → AllLast b rest → successor_of b x ≡ Some d
    → pushed ≡ pre ++ d ∷ [] → n ≡ length cs → filled ≡ pushed ++ replicate (n - length pushed) Neg
    → IsOfBase b cs → IsNext b cs filled
next_made b cs next pre rest pushed filled x d n split popped last s push whole fill of =
    let list : cs ≡ pre ++ x ∷ rest = split ∙ ap (λ z. z ++ rest) popped ∙ append_assoc pre (x ∷ []) rest in
    let count : n - length pushed ≡ length rest = omega (arith, whole, ap length list, ap length push, length-append pre (x ∷ rest), length-append pre (d ∷ [])) in
    let made : filled ≡ pre ++ d ∷ replicate (length rest) Neg =
    fill ∙ ap (λ z. pushed ++ replicate z Neg) count ∙ ap (λ z. z ++ replicate (length rest) Neg) push ∙ append_assoc pre (d ∷ []) (replicate (length rest) Neg) in
    rw (list, made) (next_is b pre x d rest s last (subst (IsOfBase b) list of))

rank-le : (c : Charge) → rank_of c ≤ 2
rank-le Neg = omega arith
rank-le Neutral = omega arith
rank-le Pos = omega arith

-- the number of a list, as a measure
pub numeral : List Charge → ℕ
numeral [] = 0
numeral (c ∷ cs) = rank_of c * 3 ^ length cs + numeral cs

pub numeral-lt : (cs : List Charge) → numeral cs < 3 ^ length cs
unfolding numeral
numeral-lt [] = omega arith
numeral-lt (c ∷ cs) =
    let top = rank-le c in
    let power = pow-suc 3 (length cs) in
    omega (arith, numeral-lt cs, power, mul-le-mul_right (3 ^ length cs) top)

pub numeral-mono : (cs ds : List Charge) → length ds ≡ length cs → IsBefore cs ds → numeral cs < numeral ds
unfolding numeral
numeral-mono [] ds same h = absurd h
numeral-mono (c ∷ cs) [] same h = absurd h
numeral-mono (c ∷ cs) (d ∷ ds) same (inl lower) =
    let same' : length ds ≡ length cs = omega (arith, same) in
    rw same' (omega (arith, numeral-lt cs, mul-le-mul_right (3 ^ length cs) lower))
numeral-mono (c ∷ cs) (d ∷ ds) same (inr h) =
    let same' : length ds ≡ length cs = omega (arith, same) in
    rw (same', h.0) (omega (arith, numeral-mono cs ds same' h.1))

-- a list that has a next one is not the last
pub next_not_last : (b : ℕ) (c d : List Charge) → IsNext b c d → IsLast b c → ⊥
next_not_last b c d next last = last d next.whole next.of_base next.after

-- lists that agree before place i are ordered by their charges there
pub before_at : (i : ℕ) (a b : List Charge) → length a ≡ length b → i < length a
    → ((k : ℕ) → k < i → charge_at a k ≡ charge_at b k) → rank_of (charge_at a i) < rank_of (charge_at b i) → IsBefore a b
before_at i [] b same lt agree lower = absurd (omega (arith, lt))
before_at i (x ∷ xs) [] same lt agree lower = absurd (omega (arith, same))
before_at zero (x ∷ xs) (y ∷ ys) same lt agree lower = inl lower
before_at (suc i) (x ∷ xs) (y ∷ ys) same lt agree lower =
    inr (agree 0 (omega arith), before_at i xs ys (omega (arith, same)) (omega (arith, lt)) (λ k below. agree (suc k) (omega (arith, below))) lower)

-- lists of one length with equal charges are equal
pub same_charges : (a b : List Charge) → length a ≡ length b
    → ((k : ℕ) → k < length a → charge_at a k ≡ charge_at b k) → a ≡ b
same_charges [] [] same agree = refl
same_charges [] (y ∷ ys) same agree = absurd (omega (arith, same))
same_charges (x ∷ xs) [] same agree = absurd (omega (arith, same))
same_charges (x ∷ xs) (y ∷ ys) same agree =
    let head : x ≡ y = agree 0 (omega arith) in
    let tail : xs ≡ ys = same_charges xs ys (omega (arith, same)) (λ k below. agree (suc k) (omega (arith, below))) in
    cc (head, tail)

-- the order has no circle
pub IsBefore-asym : (a b : List Charge) → IsBefore a b → IsBefore b a → ⊥
IsBefore-asym a b p q = IsBefore-irrefl a (IsBefore-trans a b a p q)
