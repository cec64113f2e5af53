-- the picked sums are the least and the greatest over all tables
use Rattle.std.proofs.Common.{◌≡◌, ℕ, ◌<◌, List, length, ℤ, pos, negsuc, ◌+ℤ◌, ◌*ℤ◌, ◌≤ℤ◌, refl, sym, ap, ◌∙◌, arith, ◌+◌, ◌*◌, ◌^◌, ◌≤◌, FitsSigned, w64, to_z, of_z, unsigned_abs}
use Rattle.std.proofs.lemmas.Int.{ints, to_z-of_z, fits_signed_from_abs}
use Rattle.std.proofs.Math.IntN.{*ℤ_comm}
use Rattle.charge_model.specs.Problem.{Problem, IsLeast, IsGreatest, AreSpans, lo_in, hi_in}
use Rattle.charge_model.specs.Rules.{sum_below}
use Rattle.charge_model.proofs.Sums.{mul_assoc, mul-add, mul-le, mul_negative-le, sum_below-le, sum_below-mul}
use Rattle.linear_form.specs.Forms.{Linear, coefficient_at, weighed, weight_of}
use Rattle.linear_form.specs.Parts.{pick, picked_below}

mul_left_comm : (a b c : ℤ) → a *ℤ (b *ℤ c) ≡ b *ℤ (a *ℤ c)
mul_left_comm a b c = sym (mul_assoc a b c) ∙ ap (λ z. z *ℤ c) (*ℤ_comm a b) ∙ mul_assoc b a c

picked-le : (a x y u : ℤ) (s : ℕ) → (pos s *ℤ x) ≤ℤ u → u ≤ℤ (pos s *ℤ y) → (pos s *ℤ (a *ℤ pick a x y)) ≤ℤ (a *ℤ u)
picked-le (pos k) x y u s low high = rw (mul_left_comm (pos s) (pos k) x) (mul-le (pos s *ℤ x) u k low)
picked-le (negsuc k) x y u s low high = rw (mul_left_comm (pos s) (negsuc k) y) (mul_negative-le u (pos s *ℤ y) k high)

le-picked : (a x y u : ℤ) (s : ℕ) → (pos s *ℤ x) ≤ℤ u → u ≤ℤ (pos s *ℤ y) → (a *ℤ u) ≤ℤ (pos s *ℤ (a *ℤ pick a y x))
le-picked (pos k) x y u s low high = rw (mul_left_comm (pos s) (pos k) y) (mul-le u (pos s *ℤ y) k high)
le-picked (negsuc k) x y u s low high = rw (mul_left_comm (pos s) (negsuc k) x) (mul_negative-le (pos s *ℤ x) u k low)

pick-within : (a x y : ℤ) → x ≤ℤ y → (x ≤ℤ pick a x y) × (pick a x y ≤ℤ y)
pick-within (pos k) x y h = (omega (arith, ints), h)
pick-within (negsuc k) x y h = (h, omega (arith, ints))

pick_swapped-within : (a x y : ℤ) → x ≤ℤ y → (x ≤ℤ pick a y x) × (pick a y x ≤ℤ y)
pick_swapped-within (pos k) x y h = (h, omega (arith, ints))
pick_swapped-within (negsuc k) x y h = (omega (arith, ints), h)

pub least_is : (p : Problem) (k : ℤ) (ks : List ℤ) → AreSpans p.spans → length ks ≡ length p.spans
    → IsLeast p (λ t. pos t.scale *ℤ k +ℤ weighed ks t.potential) (k +ℤ picked_below (length p.spans) ks (lo_in p.spans) (hi_in p.spans))
least_is p k ks are same = record {
  bounds = λ t is.
      let n = length p.spans in
      let lo = lo_in p.spans in
      let hi = hi_in p.spans in
      let least_term = λ (c : ℕ). coefficient_at ks c *ℤ pick (coefficient_at ks c) (lo c) (hi c) in
      let term = λ (c : ℕ). coefficient_at ks c *ℤ t.potential c in
      let each = λ (c : ℕ) (l : c < n). picked-le (coefficient_at ks c) (lo c) (hi c) (t.potential c) t.scale (is.above c l) (is.below c l) in
      let sums = sum_below-le n (λ c. pos t.scale *ℤ least_term c) term each in
      let scaled = sum_below-mul n (pos t.scale) least_term in
      let spread = mul-add (pos t.scale) k (sum_below n least_term) in
      let whole = ap (λ m. sum_below m term) same in
      omega (arith, ints, sums, scaled, spread, whole);
  reached =
      let n = length p.spans in
      let lo = lo_in p.spans in
      let hi = hi_in p.spans in
      let u = λ (c : ℕ). pick (coefficient_at ks c) (lo c) (hi c) in
      let whole = ap (λ m. sum_below m (λ c. coefficient_at ks c *ℤ u c)) same in (
        record { scale = 1; potential = u },
        record {
          positive = omega arith;
          above = λ c l. let within = pick-within (coefficient_at ks c) (lo c) (hi c) (are c l).1 in omega (arith, ints, within);
          below = λ c l. let within = pick-within (coefficient_at ks c) (lo c) (hi c) (are c l).1 in omega (arith, ints, within);
        },
        (refl, omega (arith, ints, whole)),
      );
}

pub greatest_is : (p : Problem) (k : ℤ) (ks : List ℤ) → AreSpans p.spans → length ks ≡ length p.spans
    → IsGreatest p (λ t. pos t.scale *ℤ k +ℤ weighed ks t.potential) (k +ℤ picked_below (length p.spans) ks (hi_in p.spans) (lo_in p.spans))
greatest_is p k ks are same = record {
  bounds = λ t is.
      let n = length p.spans in
      let lo = lo_in p.spans in
      let hi = hi_in p.spans in
      let greatest_term = λ (c : ℕ). coefficient_at ks c *ℤ pick (coefficient_at ks c) (hi c) (lo c) in
      let term = λ (c : ℕ). coefficient_at ks c *ℤ t.potential c in
      let each = λ (c : ℕ) (l : c < n). le-picked (coefficient_at ks c) (lo c) (hi c) (t.potential c) t.scale (is.above c l) (is.below c l) in
      let sums = sum_below-le n term (λ c. pos t.scale *ℤ greatest_term c) each in
      let scaled = sum_below-mul n (pos t.scale) greatest_term in
      let spread = mul-add (pos t.scale) k (sum_below n greatest_term) in
      let whole = ap (λ m. sum_below m term) same in
      omega (arith, ints, sums, scaled, spread, whole);
  reached =
      let n = length p.spans in
      let lo = lo_in p.spans in
      let hi = hi_in p.spans in
      let u = λ (c : ℕ). pick (coefficient_at ks c) (hi c) (lo c) in
      let whole = ap (λ m. sum_below m (λ c. coefficient_at ks c *ℤ u c)) same in (
        record { scale = 1; potential = u },
        record {
          positive = omega arith;
          above = λ c l. let within = pick_swapped-within (coefficient_at ks c) (lo c) (hi c) (are c l).1 in omega (arith, ints, within);
          below = λ c l. let within = pick_swapped-within (coefficient_at ks c) (lo c) (hi c) (are c l).1 in omega (arith, ints, within);
        },
        (refl, omega (arith, ints, whole)),
      );
}

-- the code's sum of a form's constant and of its picked products
pub record Total (f : Linear) (k r : ℤ) : Type 0 where
  pub value : to_z w64 (of_z w64 (to_z w64 (of_z w64 k) +ℤ to_z w64 (of_z w64 r))) ≡ f.constant +ℤ r
  pub within : unsigned_abs (f.constant +ℤ r) ≤ unsigned_abs f.constant + weight_of f.coefficients * 10 ^ 13

pub total_read : (f : Linear) (k r : ℤ) → k ≡ f.constant → unsigned_abs f.constant ≤ 10 ^ 13 → weight_of f.coefficients ≤ 8192
    → unsigned_abs r ≤ weight_of f.coefficients * 10 ^ 13 → Total f k r
total_read f k r is k_size w r_size =
    let within : unsigned_abs (f.constant +ℤ r) ≤ unsigned_abs f.constant + weight_of f.coefficients * 10 ^ 13 = omega (arith, ints, r_size) in
    let k_fits : FitsSigned w64 f.constant = fits_signed_from_abs w64 f.constant (omega (arith, k_size)) in
    let r_fits : FitsSigned w64 r = fits_signed_from_abs w64 r (omega (arith, r_size, w)) in
    let fits : FitsSigned w64 (f.constant +ℤ r) = fits_signed_from_abs w64 (f.constant +ℤ r) (omega (arith, within, k_size, w)) in
    record { value = rw is (simp to_z-of_z); within = within }
