-- the unassigned part of extremes where one more site is assigned
use Rattle.std.proofs.Common.{◌≡◌, ℕ, zero, suc, ◌+◌, ◌-◌, ◌*◌, ◌^◌, ◌<◌, ◌≤◌, length, map, ℤ, pos, neg_ℤ, ◌+ℤ◌, refl, ap, ◌∙◌, arith, unsigned_abs, Bool, true, false, cond, eqb, ◌⊎◌, inl, inr}
use Rattle.std.proofs.lemmas.Int.{ints}
use Rattle.std.proofs.lemmas.Bool.{cases_lt}
use Rattle.std.proofs.lemmas.List.{get_or_past, length-map}
use Rattle.charge_model.specs.Problem.{Problem, IsProblem, AreSpans, hi_in}
use Rattle.charge_model.specs.Rules.{sum_below}
use Rattle.charge_model.specs.Prefixes.{may_be_positive}
use Rattle.prefix_extremes.specs.Parts.{hi_of, least_open_term, greatest_open_term, least_unassigned, greatest_unassigned}
use Rattle.prefix_extremes.specs.Known.{IsUnassigned}
use Rattle.prefix_extremes.specs.declared.extremes.Extremes.{Extremes}
use Rattle.prefix_rows.specs.Rows.{IsSpanOfPair}
use Rattle.prefix_rows.proofs.Written.{sum_same}

-- the first term of a sum
sum_first : (m : ℕ) (g : ℕ → ℤ) → sum_below (suc m) g ≡ g 0 +ℤ sum_below m (λ a. g (suc a))
sum_first zero g = omega (arith, ints)
sum_first (suc m) g = omega (arith, ints, sum_first m g)

sum_fewer : (s d : ℕ) (f : ℕ → ℤ) → d < s → sum_below (s - d) (λ a. f (d + a)) ≡ f d +ℤ sum_below (s - (d + 1)) (λ a. f ((d + 1) + a))
sum_fewer s d f h =
    let m = s - (d + 1) in
    let count : s - d ≡ suc m = omega (arith, h) in
    let here : d + 0 ≡ d = omega arith in
    let rest = sum_same m (λ a. f (d + suc a)) (λ a. f ((d + 1) + a)) (λ a l. let place : d + suc a ≡ (d + 1) + a = omega arith in ap f place) in
    let split = sum_first m (λ a. f (d + a)) in
    ap (λ n. sum_below n (λ a. f (d + a))) count ∙ split ∙ ap (λ n. f n +ℤ sum_below m (λ a. f (d + suc a))) here ∙ ap (λ z. f d +ℤ z) rest

sum_size : (n : ℕ) (f : ℕ → ℤ) → ((k : ℕ) → unsigned_abs (f k) ≤ 10 ^ 13) → unsigned_abs (sum_below n f) ≤ n * 10 ^ 13
sum_size zero f each = omega (arith, ints)
sum_size (suc n) f each = omega (arith, ints, sum_size n f each, each n)

-- no potential is over 10^13
hi_size : (p : Problem) (c : ℕ) → AreSpans p.spans → unsigned_abs (hi_in p.spans c) ≤ 10 ^ 13
hi_size p c spans = by (cases_lt c (length p.spans))
  where
    by : (c < length p.spans) ⊎ (length p.spans ≤ c) → unsigned_abs (hi_in p.spans c) ≤ 10 ^ 13
    by (inl l) = omega (arith, ints, (spans c l).0, (spans c l).1, (spans c l).2)
    by (inr g) =
        let past : hi_in p.spans c ≡ pos 0 = get_or_past (map (λ s. s.hi) p.spans) c (pos 0) (omega (arith, g, length-map p.spans (λ s. s.hi))) in
        omega (arith, ints, past)

least_choice : (same : Bool) (h : ℤ) → unsigned_abs h ≤ 10 ^ 13 → unsigned_abs (cond same (pos 0) (neg_ℤ h)) ≤ 10 ^ 13
least_choice true h small = omega (arith, ints)
least_choice false h small = omega (arith, ints, small)

greatest_choice : (same may : Bool) (h : ℤ) → unsigned_abs h ≤ 10 ^ 13 → unsigned_abs (cond same (pos 0) (cond may h (pos 0))) ≤ 10 ^ 13
greatest_choice true may h small = omega (arith, ints)
greatest_choice false true h small = small
greatest_choice false false h small = omega (arith, ints)

-- what is taken off is what the site added
least_off : (same : Bool) (h first rest before span sum : ℤ) → first ≡ cond same (pos 0) (neg_ℤ h) → span ≡ cond same (pos 0) h → before ≡ first +ℤ rest → sum ≡ before +ℤ span → sum ≡ rest
least_off true h first rest before span sum is at whole added = omega (arith, ints, is, at, whole, added)
least_off false h first rest before span sum is at whole added = omega (arith, ints, is, at, whole, added)

greatest_off : (same may : Bool) (h first rest before span off sum : ℤ) → first ≡ cond same (pos 0) (cond may h (pos 0)) → span ≡ cond same (pos 0) h → off ≡ cond may (neg_ℤ span) (pos 0)
    → before ≡ first +ℤ rest → sum ≡ before +ℤ off → sum ≡ rest
greatest_off true true h first rest before span off sum is at turned whole added = omega (arith, ints, is, at, turned, whole, added)
greatest_off true false h first rest before span off sum is at turned whole added = omega (arith, ints, is, at, turned, whole, added)
greatest_off false true h first rest before span off sum is at turned whole added = omega (arith, ints, is, at, turned, whole, added)
greatest_off false false h first rest before span off sum is at turned whole added = omega (arith, ints, is, at, turned, whole, added)

pub one_fewer : (p : Problem) (d k : ℕ) (before span sum : Extremes) (off : ℤ) (may : Bool) → IsProblem p → d < p.sites → IsUnassigned p d k before → IsSpanOfPair p d k span → may ≡ may_be_positive p d
    → off ≡ cond may (neg_ℤ span.greatest.value) (pos 0) → sum.least.value ≡ before.least.value +ℤ span.greatest.value → sum.greatest.value ≡ before.greatest.value +ℤ off
    → IsUnassigned p (d + 1) k sum
one_fewer p d k before span sum off may valid room is at may_is off_is least_is greatest_is =
    let few : p.sites ≤ 64 = valid.few_sites in
    let m = p.sites - (d + 1) in
    let least_split : before.least.value ≡ least_open_term p k d +ℤ least_unassigned p (d + 1) k m = is.least ∙ sum_fewer p.sites d (least_open_term p k) room in
    let greatest_split : before.greatest.value ≡ greatest_open_term p k d +ℤ greatest_unassigned p (d + 1) k m = is.greatest ∙ sum_fewer p.sites d (greatest_open_term p k) room in
    let least : sum.least.value ≡ least_unassigned p (d + 1) k m = least_off (eqb d k) (hi_of p k d) _ _ _ _ _ refl at.hi least_split least_is in
    let greatest : sum.greatest.value ≡ greatest_unassigned p (d + 1) k m = greatest_off (eqb d k) (may_be_positive p d) (hi_of p k d) _ _ _ _ off _ refl at.hi (off_is ∙ ap (λ b. cond b (neg_ℤ span.greatest.value) (pos 0)) may_is) greatest_split greatest_is in
    let least_size = sum_size m (λ a. least_open_term p k ((d + 1) + a)) (λ a. least_choice _ (hi_of p k ((d + 1) + a)) (hi_size p _ valid.spans)) in
    let greatest_size = sum_size m (λ a. greatest_open_term p k ((d + 1) + a)) (λ a. greatest_choice _ _ (hi_of p k ((d + 1) + a)) (hi_size p _ valid.spans)) in
    record {
      least = least;
      greatest = greatest;
      small = record {
        least = rw least (omega (arith, least_size, few));
        greatest = rw greatest (omega (arith, greatest_size, few));
      };
    }
