-- the tables of a track after a push and after a pop
use Rattle.std.proofs.Common.{◌≡◌, ◌≢◌, ℕ, ◌+◌, ◌*◌, ◌^◌, ◌<◌, ◌≤◌, List, [], ◌∷◌, ◌++◌, length, set, replicate, ℤ, pos, ◌+ℤ◌, sym, ap, subst, ◌∙◌, arith, add-one, ◌⊎◌, inl, inr, unsigned_abs, length-append}
use Rattle.std.proofs.lemmas.Int.{ints}
use Rattle.std.proofs.lemmas.Bool.{cases_eq}
use Rattle.std.proofs.lemmas.List.{length-set, get_or-set_same, get_or-set_other, get_or-replicate, length-replicate, get_or_append_left}
use Rattle.std.proofs.Math.Seq.{get_or-append_seam}
use Rattle.charge_model.specs.declared.charge.Charge.{Charge}
use Rattle.charge_model.specs.Charges.{charge_at}
use Rattle.charge_model.specs.Problem.{Problem}
use Rattle.prefix_extremes.specs.Parts.{least_assigned, greatest_assigned, assigned_low, cost_of}
use Rattle.prefix_extremes.specs.declared.extremes.Extremes.{Extremes}
use Rattle.prefix_rows.specs.declared.row.Row.{Row}
use Rattle.prefix_extremes.specs.declared.amount.Amount.{Amount}
use Rattle.prefix_extremes.specs.Known.{IsAssigned}
use Rattle.prefix_rows.specs.Rows.{IsRow, row_at}
use Rattle.prefix_rows.specs.Tables.{AreRowsOf, ArePartsOf, IsPrefixPart, part_at}
use Rattle.prefix_rows.proofs.Written.{sum_same, charge_before, charge_pushed, least_before, greatest_before}

assigned_longer : (p : Problem) (q : List Charge) (c : Charge) (d k : ℕ) (e : Extremes) → d ≤ length q → IsAssigned p q d k e → IsAssigned p (q ++ c ∷ []) d k e
assigned_longer p q c d k e h is = record { least = is.least ∙ sym (least_before p q c k d h); greatest = is.greatest ∙ sym (greatest_before p q c k d h); small = is.small }

assigned_shorter : (p : Problem) (q : List Charge) (c : Charge) (d k : ℕ) (e : Extremes) → d ≤ length q → IsAssigned p (q ++ c ∷ []) d k e → IsAssigned p q d k e
assigned_shorter p q c d k e h is = record { least = is.least ∙ least_before p q c k d h; greatest = is.greatest ∙ greatest_before p q c k d h; small = is.small }

low_before : (p : Problem) (q : List Charge) (c : Charge) (d : ℕ) → d ≤ length q → assigned_low p (q ++ c ∷ []) d ≡ assigned_low p q d
low_before p q c d h = sum_same d _ _ (λ j l.
    let first = charge_before q c j (omega arith) in
    let second = least_before p q c j j (omega arith) in
    let third = greatest_before p q c j j (omega arith) in
    ap (λ x. cost_of x (least_assigned p (q ++ c ∷ []) j j) (greatest_assigned p (q ++ c ∷ []) j j)) first
    ∙ ap (λ x. cost_of (charge_at q j) x (greatest_assigned p (q ++ c ∷ []) j j)) second ∙ ap (λ x. cost_of (charge_at q j) (least_assigned p q j j) x) third)

part_longer : (p : Problem) (q : List Charge) (c : Charge) (d : ℕ) (e : Amount) → d ≤ length q → IsPrefixPart p q d e → IsPrefixPart p (q ++ c ∷ []) d e
part_longer p q c d e h is = record { value = is.value ∙ sym (low_before p q c d h); small = is.small }

part_shorter : (p : Problem) (q : List Charge) (c : Charge) (d : ℕ) (e : Amount) → d ≤ length q → IsPrefixPart p (q ++ c ∷ []) d e → IsPrefixPart p q d e
part_shorter p q c d e h is = record { value = is.value ∙ low_before p q c d h; small = is.small }

-- the first part of low with one more charge
pub part_pushed : (p : Problem) (q : List Charge) (c : Charge) (before : Amount) (own : Extremes) (cost sum : ℤ) → IsPrefixPart p q (length q) before → IsAssigned p q (length q) (length q) own
    → cost ≡ cost_of c own.least.value own.greatest.value → unsigned_abs cost ≤ 88 * 10 ^ 13 → sum ≡ before.value +ℤ cost → IsPrefixPart p (q ++ c ∷ []) (length q + 1) (record { value = sum })
part_pushed p q c before own cost sum is at cost_is cost_small sum_is =
    let d = length q in
    let term : cost ≡ cost_of (charge_at (q ++ c ∷ []) d) (least_assigned p (q ++ c ∷ []) d d) (greatest_assigned p (q ++ c ∷ []) d d) =
    rw (charge_pushed q c, least_before p q c d d (omega arith), greatest_before p q c d d (omega arith)) (cost_is ∙ ap (λ x. cost_of c x own.greatest.value) at.least ∙ ap (λ x. cost_of c (least_assigned p q d d) x) at.greatest) in
    let rest = low_before p q c d (omega arith) in
    let before_small : unsigned_abs before.value ≤ d * (88 * 10 ^ 13) = is.small in
    record {
      value = rw add-one (sum_is ∙ ap (λ x. x +ℤ cost) (is.value ∙ sym rest) ∙ ap (λ x. assigned_low p (q ++ c ∷ []) d +ℤ x) term);
      small = omega (arith, ints);
    }

-- the rows after one more charge: the row behind those of the fronts is written
pub rows_advanced : (p : Problem) (q : List Charge) (c : Charge) (done rest : List Row) (next : Row) → length done ≡ length q + 1 → length q < p.sites
    → AreRowsOf p q (done ++ rest) → IsRow p.sites (IsAssigned p (q ++ c ∷ []) (length q + 1)) next → AreRowsOf p (q ++ c ∷ []) (done ++ set rest 0 next)
rows_advanced p q c done [] next depth room are is = absurd (omega (arith, are.whole, length-append done [], depth, room))
rows_advanced p q c done (r ∷ rs) next depth room are is = record {
  whole = length-append done (next ∷ rs) ∙ sym (length-append done (r ∷ rs)) ∙ are.whole;
  each = λ e h. by e (omega (arith, length-append q (c ∷ []), h)) (cases_eq e (length done));
}
  where
    none : Row
    none = record { least = []; greatest = [] }

    by : (e : ℕ) → e ≤ length q + 1 → (e ≡ length done) ⊎ (e ≢ length done) → IsRow p.sites (IsAssigned p (q ++ c ∷ []) e) (row_at (done ++ next ∷ rs) e)
    by e h (inl same) =
        let here : row_at (done ++ next ∷ rs) (length done) ≡ next = get_or-append_seam done next rs none in
        let place : e ≡ length q + 1 = same ∙ depth in
        subst (λ i. IsRow p.sites (IsAssigned p (q ++ c ∷ []) e) (row_at (done ++ next ∷ rs) i)) (sym same)
        (subst (IsRow p.sites (IsAssigned p (q ++ c ∷ []) e)) (sym here) (subst (λ i. IsRow p.sites (IsAssigned p (q ++ c ∷ []) i) next) (sym place) is))
    by e h (inr ne) =
        let inside : e < length done = omega (arith, h, ne, depth) in
        let kept : row_at (done ++ next ∷ rs) e ≡ row_at (done ++ r ∷ rs) e = get_or_append_left done (next ∷ rs) none e inside ∙ sym (get_or_append_left done (r ∷ rs) none e inside) in
        subst (IsRow p.sites (IsAssigned p (q ++ c ∷ []) e)) (sym kept)
        (λ k l. assigned_longer p q c e k _ (omega (arith, inside, depth)) (are.each e (omega (arith, inside, depth)) k l))

pub parts_pushed : (p : Problem) (q : List Charge) (c : Charge) (parts : List Amount) (d : ℕ) (part : Amount) → d ≡ length q → length q < p.sites
    → ArePartsOf p q parts → IsPrefixPart p (q ++ c ∷ []) (length q + 1) part → ArePartsOf p (q ++ c ∷ []) (set parts (d + 1) part)
parts_pushed p q c parts d part depth room are next = record {
  whole = length-set parts (d + 1) part ∙ are.whole;
  each = λ e h. by e (omega (arith, h, length-append q (c ∷ []))) (cases_eq e (d + 1));
}
  where
    by : (e : ℕ) → e ≤ length q + 1 → (e ≡ d + 1) ⊎ (e ≢ d + 1) → IsPrefixPart p (q ++ c ∷ []) e (part_at (set parts (d + 1) part) e)
    by e h (inl same) =
        let here : part_at (set parts (d + 1) part) (d + 1) ≡ part = get_or-set_same parts (d + 1) part _ (omega (arith, are.whole)) in
        let place : e ≡ length q + 1 = omega arith in
        subst (λ i. IsPrefixPart p (q ++ c ∷ []) e (part_at (set parts (d + 1) part) i)) (sym same)
        (subst (IsPrefixPart p (q ++ c ∷ []) e) (sym here) (subst (λ i. IsPrefixPart p (q ++ c ∷ []) i part) (sym place) next))
    by e h (inr ne) = subst (IsPrefixPart p (q ++ c ∷ []) e) (sym (get_or-set_other parts (d + 1) e part _ ne))
        (part_longer p q c e _ (omega arith) (are.each e (omega arith)))

pub rows_popped : (p : Problem) (q : List Charge) (c : Charge) (rows : List Row) → AreRowsOf p (q ++ c ∷ []) rows → AreRowsOf p q rows
rows_popped p q c rows are = record {
  whole = are.whole;
  each = λ d h k l. assigned_shorter p q c d k _ h (are.each d (omega (arith, h, length-append q (c ∷ []))) k l);
}

pub parts_popped : (p : Problem) (q : List Charge) (c : Charge) (parts : List Amount) → ArePartsOf p (q ++ c ∷ []) parts → ArePartsOf p q parts
parts_popped p q c parts are = record {
  whole = are.whole;
  each = λ d h. part_shorter p q c d _ h (are.each d (omega (arith, h, length-append q (c ∷ []))));
}

-- no site is assigned at first
pub rows_first : (p : Problem) (rows : List Row) (n : ℕ) (row : Row) → n ≡ p.sites → rows ≡ replicate (n + 1) row
    → IsRow p.sites (IsAssigned p [] 0) row → AreRowsOf p [] rows
rows_first p rows n row sites same first_is = record {
  whole = ap length same ∙ length-replicate (n + 1) row ∙ ap (λ m. m + 1) sites;
  each = λ d h. at d (omega (arith, h));
}
  where
    first : row_at rows 0 ≡ row
    first = ap (λ r. row_at r 0) same ∙ get_or-replicate (n + 1) 0 row _ (omega arith)

    at : (d : ℕ) → d ≡ 0 → IsRow p.sites (IsAssigned p [] d) (row_at rows d)
    at d e = subst (λ i. IsRow p.sites (IsAssigned p [] i) (row_at rows i)) (sym e) (subst (IsRow p.sites (IsAssigned p [] 0)) (sym first) first_is)

pub parts_first : (p : Problem) (parts : List Amount) (n : ℕ) (z : Amount) → n ≡ p.sites → z.value ≡ pos 0
    → parts ≡ replicate (n + 1) z → ArePartsOf p [] parts
parts_first p parts n z sites nothing same = record {
  whole = ap length same ∙ length-replicate (n + 1) z ∙ ap (λ m. m + 1) sites;
  each = λ d h. at d (omega (arith, h));
}
  where
    first : part_at parts 0 ≡ z
    first = ap (λ r. part_at r 0) same ∙ get_or-replicate (n + 1) 0 z _ (omega arith)

    at : (d : ℕ) → d ≡ 0 → IsPrefixPart p [] d (part_at parts d)
    at d e = subst (λ i. IsPrefixPart p [] i (part_at parts i)) (sym e) (subst (IsPrefixPart p [] 0) (sym first) (record { value = nothing; small = rw nothing (omega arith) }))
