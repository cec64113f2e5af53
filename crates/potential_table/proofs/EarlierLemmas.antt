-- Places in order, and the line of one more place.
use Rattle.std.proofs.Common.{◌≡◌, ◌∙◌, sym, ap, refl, ℕ, pos, suc, ◌+◌, ◌<◌, ◌≤◌, Bool, true, false, ◌&&◌, arith, inl, inr, ◌⊎◌}
use Rattle.std.specs.Ordering.{int_eq}
use Rattle.std.proofs.lemmas.Int.{ints}
use Rattle.std.proofs.lemmas.Bool.{cases_lt}
use Rattle.text_rows.proofs.RowLemmas.{and_both}
use Rattle.table_reading.specs.Reading.{IsEarlierPair}
use Rattle.potential_table.proofs.StageLemmas.{same_int, other_int}

and_false : (b : Bool) → (b && false) ≡ false
and_false true = refl
and_false false = refl

-- no pair is before the first, and no place before the first
pub none_before_pairs : (k l : ℕ) → k < l → IsEarlierPair k l 0 1 → ⊥
none_before_pairs k l h (inl e) = absurd (omega (arith, e))
none_before_pairs k l h (inr e) = absurd (omega (arith, h, e.1))

pub none_before : (k l : ℕ) → IsEarlierPair k l 0 0 → ⊥
none_before k l (inl e) = absurd (omega (arith, e))
none_before k l (inr e) = absurd (omega (arith, e.1))

pub not_itself : (k l i j : ℕ) → k ≡ i → l ≡ j → IsEarlierPair k l i j → ⊥
not_itself k l i j e f (inl h) = absurd (omega (arith, e, h))
not_itself k l i j e f (inr h) = absurd (omega (arith, f, h.1))

-- before the next place: before this one, or this one
earlier_by : (k l i j : ℕ) → k ≡ i → (l < j) ⊎ (j ≤ l) → l < j + 1 → IsEarlierPair k l i j ⊎ ((k ≡ i) × (l ≡ j))
earlier_by k l i j e (inl less) h = inl (inr (e, less))
earlier_by k l i j e (inr more) h = inr (e, omega (arith, more, h))

pub earlier_or_same : (k l i j : ℕ) → IsEarlierPair k l i (j + 1) → IsEarlierPair k l i j ⊎ ((k ≡ i) × (l ≡ j))
earlier_or_same k l i j (inl h) = inl (inl h)
earlier_or_same k l i j (inr h) = earlier_by k l i j h.0 (cases_lt l j) h.1

pub earlier_on : (k l i j : ℕ) → IsEarlierPair k l i j → IsEarlierPair k l i (j + 1)
earlier_on k l i j (inl h) = inl h
earlier_on k l i j (inr h) = inr (h.0, omega (arith, h.1))

-- before the next row: before the end of this one
in_row : (k l i n : ℕ) → k < i + 1 → l < n → (k < i) ⊎ (i ≤ k) → IsEarlierPair k l i n
in_row k l i n h below (inl less) = inl less
in_row k l i n h below (inr more) = inr (omega (arith, h, more), below)

pub pair_in_row : (k l i n : ℕ) → k < l → l < n → IsEarlierPair k l (i + 1) (suc (i + 1)) → IsEarlierPair k l i n
pair_in_row k l i n order below (inl h) = in_row k l i n h below (cases_lt k i)
pair_in_row k l i n order below (inr h) = absurd (omega (arith, order, h.0, h.1))

pub near_in_row : (k l i n : ℕ) → l < n → IsEarlierPair k l (i + 1) 0 → IsEarlierPair k l i n
near_in_row k l i n below (inl h) = in_row k l i n h below (cases_lt k i)
near_in_row k l i n below (inr h) = absurd (omega (arith, h.1))

pub before_next_row : (k l i n j : ℕ) → IsEarlierPair k l i n → IsEarlierPair k l (i + 1) j
before_next_row k l i n j (inl h) = inl (omega (arith, h))
before_next_row k l i n j (inr h) = inl (omega (arith, h.0))

-- a place that is not before the next one is another place
distinct : (m n : ℕ) → m < n → int_eq (pos m) (pos n) ≡ false
distinct m n h = other_int (pos m) (pos n) (λ e. absurd (omega (arith, ints, e, h)))

apart_at : (i j k l : ℕ) → (IsEarlierPair k l i (j + 1) → ⊥) → (k < i) ⊎ (i ≤ k) → k ≤ i → l ≤ j → ⊥
apart_at i j k l later (inl less) h g = later (inl less)
apart_at i j k l later (inr more) h g = later (inr (omega (arith, more, h), omega (arith, g)))

apart_by : (i j k l : ℕ) → (IsEarlierPair k l i (j + 1) → ⊥) → (i < k) ⊎ (k ≤ i) → (j < l) ⊎ (l ≤ j) → (int_eq (pos i) (pos k) && int_eq (pos j) (pos l)) ≡ false
apart_by i j k l later (inl h) g = ap (λ b. b && int_eq (pos j) (pos l)) (distinct i k h)
apart_by i j k l later (inr h) (inl g) = ap (λ b. int_eq (pos i) (pos k) && b) (distinct j l g) ∙ and_false (int_eq (pos i) (pos k))
apart_by i j k l later (inr h) (inr g) = absurd (apart_at i j k l later (cases_lt k i) h g)

pub apart : (i j k l : ℕ) → (IsEarlierPair k l i (j + 1) → ⊥) → (int_eq (pos i) (pos k) && int_eq (pos j) (pos l)) ≡ false
apart i j k l later = apart_by i j k l later (cases_lt i k) (cases_lt j l)

pub alike : (i j k l : ℕ) → k ≡ i → l ≡ j → (int_eq (pos i) (pos k) && int_eq (pos j) (pos l)) ≡ true
alike i j k l e f = and_both _ _ (same_int (pos i) (pos k) (ap pos (sym e))) (same_int (pos j) (pos l) (ap pos (sym f)))
