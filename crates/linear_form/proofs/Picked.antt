-- the running sum of the picked products
use Rattle.std.proofs.Common.{◌≡◌, ℕ, ◌+◌, ◌*◌, ◌^◌, ◌≤◌, ◌<◌, List, length, take, ℤ, pos, ◌+ℤ◌, ◌*ℤ◌, FitsSigned, w64, unsigned_abs, slice_index_or, sym, ap, ◌∙◌, arith, add-one}
use Rattle.std.proofs.lemmas.Int.{ints, fits_signed_from_abs}
use Rattle.std.proofs.lemmas.List.{get_or-map}
use Rattle.std.proofs.lemmas.List.Sums.{sum_by_more, sum_by_more_le, get_or-le-sum_by}
use Rattle.charge_model.specs.declared.span.Span.{Span}
use Rattle.charge_model.specs.Problem.{lo_in, hi_in, AreSpans}
use Rattle.linear_form.specs.Forms.{coefficient_at, weight_of}
use Rattle.linear_form.specs.Parts.{pick, picked_below}

-- what is known of a span that was read at class c
pub record SpanRead (spans : List Span) (c : ℕ) (s : Span) : Type 0 where
  pub lo : lo_in spans c ≡ s.lo
  pub hi : hi_in spans c ≡ s.hi
  pub lo_size : unsigned_abs s.lo ≤ 10 ^ 13
  pub hi_size : unsigned_abs s.hi ≤ 10 ^ 13
  pub lo_fits : FitsSigned w64 s.lo
  pub hi_fits : FitsSigned w64 s.hi

pub span_read : (spans : List Span) (c : ℕ) (s : Span) → AreSpans spans → c < length spans → s ≡ slice_index_or spans c s → SpanRead spans c s
span_read spans c s are in_range is =
    let lo : lo_in spans c ≡ s.lo = get_or-map (λ z. z.lo) spans c s (pos 0) in_range ∙ ap (λ z. z.lo) (sym is) in
    let hi : hi_in spans c ≡ s.hi = get_or-map (λ z. z.hi) spans c s (pos 0) in_range ∙ ap (λ z. z.hi) (sym is) in
    let facts = are c in_range in
    let lo_size : unsigned_abs s.lo ≤ 10 ^ 13 = omega (arith, ints, lo, hi, facts) in
    let hi_size : unsigned_abs s.hi ≤ 10 ^ 13 = omega (arith, ints, lo, hi, facts) in
    record {
      lo = lo;
      hi = hi;
      lo_size = lo_size;
      hi_size = hi_size;
      lo_fits = fits_signed_from_abs w64 s.lo (omega arith);
      hi_fits = fits_signed_from_abs w64 s.hi (omega arith);
    }

pub coefficient_fits : (ks : List ℤ) (i : ℕ) → i < length ks → weight_of ks ≤ 8192 → FitsSigned w64 (coefficient_at ks i)
coefficient_fits ks i l w = fits_signed_from_abs w64 (coefficient_at ks i) (omega (arith, get_or-le-sum_by unsigned_abs ks i (pos 0) l))

-- the sum with one more product
pub record PickedMore (ks : List ℤ) (i : ℕ) (x y : ℕ → ℤ) (total : ℤ) : Type 0 where
  pub value : total ≡ picked_below (i + 1) ks x y
  pub size : unsigned_abs total ≤ weight_of (take (i + 1) ks) * 10 ^ 13
  pub fits : FitsSigned w64 total

pub picked_more : (ks : List ℤ) (i : ℕ) (x y : ℕ → ℤ) (total r : ℤ) → i < length ks → weight_of ks ≤ 8192
    → total ≡ picked_below i ks x y → unsigned_abs total ≤ weight_of (take i ks) * 10 ^ 13
    → r ≡ coefficient_at ks i *ℤ pick (coefficient_at ks i) (x i) (y i) → unsigned_abs r ≤ unsigned_abs (coefficient_at ks i) * 10 ^ 13
    → PickedMore ks i x y (total +ℤ r)
picked_more ks i x y total r l w before before_size now now_size =
    let more = sum_by_more unsigned_abs ks i (pos 0) l in
    let within = sum_by_more_le unsigned_abs ks i (pos 0) l in
    let size : unsigned_abs (total +ℤ r) ≤ weight_of (take (i + 1) ks) * 10 ^ 13 = omega (arith, ints, more) in
    let bound : unsigned_abs (total +ℤ r) ≤ 8192 * 10 ^ 13 = omega (arith, ints, within) in
    record {
      value = rw add-one (ap (λ a. a +ℤ r) before ∙ ap (λ b. picked_below i ks x y +ℤ b) now);
      size = size;
      fits = fits_signed_from_abs w64 (total +ℤ r) (omega arith);
    }
