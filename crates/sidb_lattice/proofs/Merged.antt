-- the numbers of two lists in rising order, and the places of numbers in a list
use Rattle.std.proofs.Common.{◌≡◌, ◌∙◌, sym, refl, ℕ, zero, suc, ◌<◌, ◌≤◌, ◌⊎◌, inl, inr, List, [], ◌∷◌, ◌++◌, length, length-append, get_or, add-one, arith}
use Rattle.std.specs.Prelude.{All, Contains}
use Rattle.std.specs.List.Sorted.{IsStrictlyIncreasing}
use Rattle.std.proofs.lemmas.Bool.{cases_order}
use Rattle.std.proofs.lemmas.List.{get_or_default}
use Rattle.std.proofs.lemmas.List.Elements.{All-nil, All-cons, All-head, All-tail, Contains-get_or, Contains-append_left, Contains-append_right, Contains-append_cases}
use Rattle.std.proofs.lemmas.List.Kept.{AllPairs-from_increasing}
use Rattle.sidb_lattice.specs.Measured.{AreRising, ArePlaces}

-- a number of a list is its first one, or one behind it
first_or_later : (y x : ℕ) (xs : List ℕ) → Contains (y ∷ xs) x → (x ≡ y) ⊎ Contains xs x
first_or_later y x xs (zero, within, at) = inl (sym at)
first_or_later y x xs (suc k, within, at) = inr (k, omega (arith, within), at)

-- the first number of a list is in it
contains_first : (x : ℕ) (xs : List ℕ) → Contains (x ∷ xs) x
contains_first x xs = (zero, omega arith, refl)

-- and so is one behind it
contains_later : (y x : ℕ) (xs : List ℕ) → Contains xs x → Contains (y ∷ xs) x
contains_later y x xs (k, within, at) = (suc k, omega (arith, within), at)

-- one more number in front of a rising list
rises_from : (x : ℕ) (s : List ℕ) → ((e : ℕ) → Contains s e → x < e) → IsStrictlyIncreasing s → IsStrictlyIncreasing (x ∷ s)
rises_from x s below rises zero within = below (get_or s 0 0) (Contains-get_or s 0 0 (omega (arith, within)))
rises_from x s below rises (suc k) within =
    let step = rises k (omega (arith, within)) in
    rw add-one (rw add-one at step)

-- what is behind the first number of a rising list
rises_behind : (x : ℕ) (r : List ℕ) → IsStrictlyIncreasing (x ∷ r) → IsStrictlyIncreasing r
rises_behind x r rises k within =
    let step = rises (suc k) (omega (arith, within)) in
    rw add-one (rw add-one at step)

-- the numbers behind the first of a rising list are above it
above_first : (x : ℕ) (r : List ℕ) → IsStrictlyIncreasing (x ∷ r) → (e : ℕ) → Contains r e → x < e
above_first x r rises e (k, within, at) =
    let less : x < get_or r k 0 = AllPairs-from_increasing (x ∷ r) rises zero (suc k) 0 (omega arith) (omega (arith, within)) in
    let is : get_or r k 0 ≡ e = get_or_default r k 0 e within ∙ at in
    omega (arith, less, is)

-- the list s has the numbers of r and d, in rising order
record IsInserted (d : ℕ) (r s : List ℕ) : Type 0 where
  rises : IsStrictlyIncreasing s
  few : length s ≤ suc (length r)
  from : (e : ℕ) → Contains s e → (e ≡ d) ⊎ Contains r e
  here : Contains s d
  kept : (e : ℕ) → Contains r e → Contains s e

-- one number in an empty list
alone : (d : ℕ) → IsInserted d [] (d ∷ [])
alone d = record {
  rises = λ k within. absurd (omega (arith, within));
  few = omega arith;
  from = λ e h. first_or_later d e [] h;
  here = contains_first d [];
  kept = λ e h. contains_later d e [] h;
}

-- a number that is below the first
in_front : (d x : ℕ) (r : List ℕ) → IsStrictlyIncreasing (x ∷ r) → d < x → IsInserted d (x ∷ r) (d ∷ x ∷ r)
in_front d x r rises less = record {
  rises = rises_from d (x ∷ r) (λ e h. below e (first_or_later x e r h)) rises;
  few = omega arith;
  from = λ e h. first_or_later d e (x ∷ r) h;
  here = contains_first d (x ∷ r);
  kept = λ e h. contains_later d e (x ∷ r) h;
}
  where
    below : (e : ℕ) → (e ≡ x) ⊎ Contains r e → d < e
    below e (inl is) = omega (arith, is, less)
    below e (inr h) = omega (arith, less, above_first x r rises e h)

-- a number that is the first
already : (d x : ℕ) (r : List ℕ) → IsStrictlyIncreasing (x ∷ r) → d ≡ x → IsInserted d (x ∷ r) (x ∷ r)
already d x r rises same = record {
  rises = rises;
  few = omega arith;
  from = λ e h. inr h;
  here = rw same (contains_first x r);
  kept = λ e h. h;
}

-- a number that is above the first
behind : (d x : ℕ) (r s : List ℕ) → IsStrictlyIncreasing (x ∷ r) → x < d → IsInserted d r s → IsInserted d (x ∷ r) (x ∷ s)
behind d x r s rises less is = record {
  rises = rises_from x s (λ e h. below e (is.from e h)) is.rises;
  few = omega (arith, is.few);
  from = λ e h. from e (first_or_later x e s h);
  here = contains_later x d s is.here;
  kept = λ e h. kept e (first_or_later x e r h);
}
  where
    below : (e : ℕ) → (e ≡ d) ⊎ Contains r e → x < e
    below e (inl same) = omega (arith, same, less)
    below e (inr h) = above_first x r rises e h

    from : (e : ℕ) → (e ≡ x) ⊎ Contains s e → (e ≡ d) ⊎ Contains (x ∷ r) e
    from e (inl same) = inr (rw same (contains_first x r))
    from e (inr h) = by (is.from e h)
      where
        by : (e ≡ d) ⊎ Contains r e → (e ≡ d) ⊎ Contains (x ∷ r) e
        by (inl same) = inl same
        by (inr h) = inr (contains_later x e r h)

    kept : (e : ℕ) → (e ≡ x) ⊎ Contains r e → Contains (x ∷ s) e
    kept e (inl same) = rw same (contains_first x s)
    kept e (inr h) = contains_later x e s (is.kept e h)

-- one more number in a rising list
inserted : (d : ℕ) (r : List ℕ) → IsStrictlyIncreasing r → (s : List ℕ) × IsInserted d r s
inserted d [] rises = (d ∷ [], alone d)
inserted d (x ∷ r) rises = by (cases_order d x) (inserted d r (rises_behind x r rises))
  where
    by : (d ≡ x) ⊎ ((d < x) ⊎ (x < d)) → ((s : List ℕ) × IsInserted d r s) → (s : List ℕ) × IsInserted d (x ∷ r) s
    by (inl same) rest = (x ∷ r, already d x r rises same)
    by (inr (inl less)) rest = (d ∷ x ∷ r, in_front d x r rises less)
    by (inr (inr more)) rest = (x ∷ rest.0, behind d x r rest.0 rises more rest.1)

-- the list r has the numbers of zs, in rising order
record IsRisingOf (zs r : List ℕ) : Type 0 where
  rises : IsStrictlyIncreasing r
  few : length r ≤ length zs
  from : (e : ℕ) → Contains r e → Contains zs e
  all : (e : ℕ) → Contains zs e → Contains r e

-- one more number in front of those that are in order
one_more : (z : ℕ) (zs r s : List ℕ) → IsRisingOf zs r → IsInserted z r s → IsRisingOf (z ∷ zs) s
one_more z zs r s before is = record {
  rises = is.rises;
  few = omega (arith, is.few, before.few);
  from = λ e h. from e (is.from e h);
  all = λ e h. all e (first_or_later z e zs h);
}
  where
    from : (e : ℕ) → (e ≡ z) ⊎ Contains r e → Contains (z ∷ zs) e
    from e (inl same) = rw same (contains_first z zs)
    from e (inr h) = contains_later z e zs (before.from e h)

    all : (e : ℕ) → (e ≡ z) ⊎ Contains zs e → Contains s e
    all e (inl same) = rw same is.here
    all e (inr h) = is.kept e (before.all e h)

-- the numbers of a list have a rising order
rising_of : (zs : List ℕ) → (r : List ℕ) × IsRisingOf zs r
rising_of [] = ([], record { rises = λ k within. absurd (omega (arith, within)); few = omega arith; from = λ e h. h; all = λ e h. h })
rising_of (z ∷ zs) =
    let before = rising_of zs in
    let more = inserted z before.0 before.1.rises in
    (more.0, one_more z zs before.0 more.0 before.1 more.1)

-- the numbers of two lists have a rising order
pub some_rising : (xs ys : List ℕ) → (ds : List ℕ) × AreRising xs ys ds
some_rising xs ys =
    let made = rising_of (xs ++ ys) in
    let is = made.1 in (
      made.0,
      record {
        rises = is.rises;
        few = omega (arith, is.few, length-append xs ys);
        from = λ d h. Contains-append_cases xs ys d (is.from d h);
        first = λ d h. is.all d (Contains-append_left xs ys d h);
        second = λ d h. is.all d (Contains-append_right xs ys d h);
      },
    )

-- numbers that a list has are at places of it
pub some_places : (ds wanted : List ℕ) → All (Contains ds) wanted → (places : List ℕ) × ArePlaces ds wanted places
some_places ds [] present = ([], record { whole = refl; within = All-nil (λ k. k < length ds); found = λ k within. absurd (omega (arith, within)) })
some_places ds (w ∷ ws) present = more (All-head (Contains ds) w ws present) (some_places ds ws (All-tail (Contains ds) w ws present))
  where
    more : Contains ds w → ((places : List ℕ) × ArePlaces ds ws places) → (places : List ℕ) × ArePlaces ds (w ∷ ws) places
    more (k, within, at) (places, are) = (
      k ∷ places,
      record {
        whole = omega (arith, are.whole);
        within = All-cons (λ k. k < length ds) k places within are.within;
        found = found;
      },
    )
      where
        found : (i : ℕ) → i < length (w ∷ ws) → get_or ds (get_or (k ∷ places) i 0) 0 ≡ get_or (w ∷ ws) i 0
        found zero l = get_or_default ds k 0 w within ∙ at
        found (suc i) l = are.found i (omega (arith, l))
