-- a row with one more site written, and the assigned parts after one more charge
use Rattle.std.proofs.Common.{replicate, ◌≡◌, ◌≢◌, ℕ, zero, suc, ◌+◌, ◌*◌, ◌^◌, ◌<◌, ◌≤◌, List, [], ◌∷◌, ◌++◌, length, set, get_or, ℤ, pos, negsuc, neg_ℤ, ◌≤ℤ◌, ◌+ℤ◌, ◌*ℤ◌, refl, sym, ap, subst, ◌∙◌, arith, ◌⊎◌, inl, inr, eqb, cond, unsigned_abs, Bool, true, false}
use Rattle.std.proofs.lemmas.Int.{ints}
use Rattle.std.proofs.lemmas.Bool.{cases_eq}
use Rattle.std.proofs.lemmas.List.{get_or-set_same, get_or-set_other, get_or_append_left}
use Rattle.charge_model.specs.declared.charge.Charge.{Charge}
use Rattle.charge_model.specs.declared.charge.Charge.TheVariants.{Neutral}
use Rattle.charge_model.specs.Charges.{charge_at}
use Rattle.charge_model.specs.Charges.{number_of}
use Rattle.charge_model.specs.Problem.{Problem, class_of, lo_in, hi_in}
use Rattle.charge_model.specs.Prefixes.{lesser, greater, least_product, greatest_product, least_fixed, greatest_fixed}
use Rattle.prefix_extremes.specs.Parts.{least_assigned, greatest_assigned, least_term, greatest_term}
use Rattle.charge_model.specs.Rules.{sum_below}
use Rattle.prefix_extremes.specs.declared.extremes.Extremes.{Extremes}
use Rattle.prefix_rows.specs.declared.row.Row.{Row}
use Rattle.prefix_extremes.specs.Known.{IsAssigned, AreSmall}
use Rattle.prefix_rows.specs.Rows.{IsRow, IsSpanOfPair, IsRowWritten, extremes_at}

-- sums
pub sum_same : (n : ℕ) (f g : ℕ → ℤ) → ((k : ℕ) → k < n → f k ≡ g k) → sum_below n f ≡ sum_below n g
sum_same zero f g same = refl
sum_same (suc n) f g same =
    let rest = sum_same n f g (λ k h. same k (omega arith)) in
    let here = same n (omega arith) in cc

-- one more term of a sum after a first part
one_more : (first : ℤ) (n : ℕ) (f : ℕ → ℤ) (total term sum : ℤ) → total ≡ first +ℤ sum_below n f → term ≡ f n → sum ≡ total +ℤ term
    → sum ≡ first +ℤ sum_below (n + 1) f
one_more first n f total term sum before now is =
    let next : n + 1 ≡ suc n = omega arith in
    rw next (omega (arith, ints, before, now, is))

size_more : (n : ℕ) (total term sum : ℤ) → unsigned_abs total ≤ (24 + n) * 10 ^ 13 → unsigned_abs term ≤ 10 ^ 13 → sum ≡ total +ℤ term
    → unsigned_abs sum ≤ (24 + (n + 1)) * 10 ^ 13
size_more n total term sum before now is = omega (arith, ints, before, now, is)

-- the extremes of one site are written
pub written : (row : Row) (k : ℕ) (e : Extremes) → k < length row.least → k < length row.greatest → IsRowWritten row k e (record { least = set row.least k e.least; greatest = set row.greatest k e.greatest })
written row k e l g = record {
  here = rw (get_or-set_same row.least k e.least (record { value = pos 0 }) l, get_or-set_same row.greatest k e.greatest (record { value = pos 0 }) g) refl;
  others = λ i ne. rw (get_or-set_other row.least k i e.least (record { value = pos 0 }) ne, get_or-set_other row.greatest k i e.greatest (record { value = pos 0 }) ne) refl;
}

-- one more site is written
pub row_more : (k : ℕ) (P : ℕ → Extremes → Type 0) (old new : Row) (e : Extremes) → IsRowWritten old k e new → IsRow k P old → P k e → IsRow (k + 1) P new
row_more k P old new e is before here i h = by (cases_eq i k)
  where
    by : (i ≡ k) ⊎ (i ≢ k) → P i (extremes_at new i)
    by (inl same) = subst (λ j. P j (extremes_at new j)) (sym same) (subst (P k) (sym is.here) here)
    by (inr ne) = subst (P i) (sym (is.others i ne)) (before i (omega arith))

pub row_none : (P : ℕ → Extremes → Type 0) (row : Row) → IsRow 0 P row
row_none P row i h = absurd (omega arith)

pub row_whole : (k n : ℕ) (P : ℕ → Extremes → Type 0) (row : Row) → n ≤ k → IsRow k P row → IsRow n P row
row_whole k n P row h is i l = is i (omega arith)

-- the charge of a site of the prefix, and of the one pushed
pub charge_before : (q : List Charge) (c : Charge) (j : ℕ) → j < length q → charge_at (q ++ c ∷ []) j ≡ charge_at q j
charge_before q c j h = get_or_append_left q (c ∷ []) Neutral j h

pub charge_pushed : (q : List Charge) (c : Charge) → charge_at (q ++ c ∷ []) (length q) ≡ c
charge_pushed [] c = refl
charge_pushed (x ∷ q) c = charge_pushed q c

-- the parts of the first d sites are the same after a push
pub least_before : (p : Problem) (q : List Charge) (c : Charge) (k d : ℕ) → d ≤ length q → least_assigned p (q ++ c ∷ []) k d ≡ least_assigned p q k d
least_before p q c k d h = ap (λ z. least_fixed p k +ℤ z) (sum_same d (least_term p (q ++ c ∷ []) k) (least_term p q k)
    (λ j l. ap (λ x. cond (eqb j k) (pos 0) (least_product p (class_of p k j) (number_of x))) (charge_before q c j (omega arith))))

pub greatest_before : (p : Problem) (q : List Charge) (c : Charge) (k d : ℕ) → d ≤ length q → greatest_assigned p (q ++ c ∷ []) k d ≡ greatest_assigned p q k d
greatest_before p q c k d h = ap (λ z. greatest_fixed p k +ℤ z) (sum_same d (greatest_term p (q ++ c ∷ []) k) (greatest_term p q k)
    (λ j l. ap (λ x. cond (eqb j k) (pos 0) (greatest_product p (class_of p k j) (number_of x))) (charge_before q c j (omega arith))))

-- a product of zeros
zero_product : (n : ℤ) → n *ℤ pos 0 ≡ pos 0
zero_product n = omega (arith, ints)

-- the term of the pushed charge
least_turned : (b : Bool) (n lo hi : ℤ) → lesser (n *ℤ cond b (pos 0) lo) (n *ℤ cond b (pos 0) hi) ≡ cond b (pos 0) (lesser (n *ℤ lo) (n *ℤ hi))
least_turned true n lo hi = rw (zero_product n) refl
least_turned false n lo hi = refl

greatest_turned : (b : Bool) (n lo hi : ℤ) → greater (n *ℤ cond b (pos 0) lo) (n *ℤ cond b (pos 0) hi) ≡ cond b (pos 0) (greater (n *ℤ lo) (n *ℤ hi))
greatest_turned true n lo hi = rw (zero_product n) refl
greatest_turned false n lo hi = refl

-- a charge times a quantity, by its ends
pub ordered_products : (lo hi : ℤ) → lo ≤ℤ hi → (neg_ℤ hi ≡ lesser (negsuc 0 *ℤ lo) (negsuc 0 *ℤ hi)) × (neg_ℤ lo ≡ greater (negsuc 0 *ℤ lo) (negsuc 0 *ℤ hi))
ordered_products lo hi order = (grind (arith, ints), grind (arith, ints))

pub assigned_pushed : (p : Problem) (q : List Charge) (c : Charge) (k : ℕ) (before span term sum : Extremes) → IsAssigned p q (length q) k before → IsSpanOfPair p (length q) k span
    → term.least.value ≡ lesser (number_of c *ℤ span.least.value) (number_of c *ℤ span.greatest.value)
    → term.greatest.value ≡ greater (number_of c *ℤ span.least.value) (number_of c *ℤ span.greatest.value)
    → AreSmall (10 ^ 13) term
    → sum.least.value ≡ before.least.value +ℤ term.least.value → sum.greatest.value ≡ before.greatest.value +ℤ term.greatest.value
    → IsAssigned p (q ++ c ∷ []) (length q + 1) k sum
assigned_pushed p q c k before span term sum is at least_of greatest_of small least_is greatest_is =
    let d = length q in
    let lo = lo_in p.spans (class_of p k d) in
    let hi = hi_in p.spans (class_of p k d) in
    let least_here : term.least.value ≡ least_term p (q ++ c ∷ []) k d = least_of ∙ rw (at.lo, at.hi, charge_pushed q c) (least_turned (eqb d k) (number_of c) lo hi) in
    let greatest_here : term.greatest.value ≡ greatest_term p (q ++ c ∷ []) k d = greatest_of ∙ rw (at.lo, at.hi, charge_pushed q c) (greatest_turned (eqb d k) (number_of c) lo hi) in
    record {
      least = one_more (least_fixed p k) d (least_term p (q ++ c ∷ []) k) before.least.value term.least.value sum.least.value (is.least ∙ sym (least_before p q c k d (omega arith))) least_here least_is;
      greatest = one_more (greatest_fixed p k) d (greatest_term p (q ++ c ∷ []) k) before.greatest.value term.greatest.value sum.greatest.value (is.greatest ∙ sym (greatest_before p q c k d (omega arith))) greatest_here greatest_is;
      small = record {
        least = size_more d before.least.value term.least.value sum.least.value is.small.least small.least least_is;
        greatest = size_more d before.greatest.value term.greatest.value sum.greatest.value is.small.greatest small.greatest greatest_is;
      };
    }

pub get_or_of_same : {X : Type 0} (n k : ℕ) (x : X) → get_or (replicate n x) k x ≡ x
get_or_of_same zero k x = refl
get_or_of_same (suc n) zero x = refl
get_or_of_same (suc n) (suc k) x = get_or_of_same n k x
