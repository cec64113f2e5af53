-- the rounded spans hold the distance of their root
use Rattle.std.proofs.Common.{◌≡◌, ℕ, suc, ◌+◌, ◌*◌, ◌^◌, ◌<◌, ◌≤◌, ℤ, pos, nat_lt, if◌then◌else◌, sym, subst, arith}
use Rattle.std.proofs.lemmas.Int.{ints}
use Rattle.std.proofs.lemmas.Grind.{div_ceil_times}
use Rattle.std.proofs.Math.Nat.{div-mul-le_self}
use Rattle.std.proofs.lemmas.Nat.{pow_pos}
use Rattle.root_exp.specs.declared.TheConstants.{UNIT}
use Rattle.root_exp.specs.Root.{IsRoot}
use Rattle.root_exp.specs.Series.{AreSized, closed_divisor, closed_sum, divisor_of, series_sum, Fraction}
use Rattle.model_params.specs.declared.params.Params.{Params}
use Rattle.screened_coulomb.specs.Potential.{HoldsDistance, IsAtLeast, IsAtMost, bottom_of, closed_low, coulomb_of, eps_of, high_at_order, lam_of, low_at_order, top_of}
use Rattle.screened_coulomb.specs.Rounding.{argument_up_of, rounded_hi, rounded_lo, quotient_down_of, quotient_up_of}
use Rattle.screened_coulomb.proofs.OrderLemmas.{above_at, below_at, closed_at, roots}
use Rattle.screened_coulomb.proofs.SizeLemmas.{argument_up_bound, lam_least, quotient_down_bound, quotient_up_bound}

at_most : (lo : ℕ) (f : Fraction) → lo * f.bottom ≤ f.top → IsAtMost (pos lo) f
at_most lo f le = omega (arith, ints, le)

at_least : (hi : ℕ) (f : Fraction) → f.top ≤ hi * f.bottom → IsAtLeast (pos hi) f
at_least hi f le = omega (arith, ints, le)

-- of two fractions, by a test
chosen : (lo a b : ℕ) (x y : Fraction) → a < b → IsAtMost (pos lo) x → IsAtMost (pos lo) (if nat_lt a b then x else y)
chosen lo a b x y less is = grind (arith, is)

module _ (p : Params) (d root f down up : ℕ) (least : 225 * 2 ^ 40 ≤ root) (of_root : IsRoot (d * 4 ^ 40) root) (sized : AreSized f down up) where
  -- the upper end, where the lower sum is contained at an argument of at most the rounded one
  pub high_holds : (x hi : ℕ) → x * lam_of p ≤ 10 * root * 2 ^ 20
      → ((n q k : ℕ) → 96 ≤ k → x * q ≤ n * UNIT → down * divisor_of q k ≤ 2 ^ f * series_sum n q k) → hi ≡ rounded_hi (quotient_up_of p root) f down
      → (k b : ℕ) → 96 ≤ k → IsRoot (d * 4 ^ k) b → IsAtLeast (pos hi) (high_at_order p k b)
  high_holds x hi low contained is k b from of_b =
      let some : 0 < down = omega (arith, sized.one, pow_pos f) in
      let end : quotient_up_of p root * 2 ^ f ≤ hi * (down * 2 ^ 23) = rw is (div_ceil_times (quotient_up_of p root * 2 ^ f) (down * 2 ^ 23) (omega arith)).0 in
      at_least hi (high_at_order p k b) (above_at (coulomb_of p) (eps_of p) (lam_of p) k root b x down (2 ^ f) (quotient_up_of p root) hi (2 ^ k) (roots d k root b from of_root of_b) (pow_pos f) low
      (λ n q. contained n q k from) (quotient_up_bound p root least) end)

  -- the lower end, where the upper sum is contained
  pub low_holds : (lo : ℕ) → argument_up_of p root ≤ 25 * UNIT
      → ((n q k : ℕ) → 96 ≤ k → n * UNIT ≤ argument_up_of p root * q → 2 ^ f * closed_sum n q k ≤ up * closed_divisor n q k) → lo ≡ rounded_lo (quotient_down_of p root) f up
      → (k b : ℕ) → 96 ≤ k → IsRoot (d * 4 ^ k) b → IsAtMost (pos lo) (low_at_order p k b)
  low_holds lo few contained is k b from of_b =
      let end : lo * (up * 2 ^ 23) ≤ quotient_down_of p root * 2 ^ f = rw is (div-mul-le_self (quotient_down_of p root * 2 ^ f) (up * 2 ^ 23)) in
      let are = roots d k root b from of_root of_b in
      let closed = closed_at (lam_of p) k root b (argument_up_of p root) (2 ^ k) from are (omega (arith, lam_least p)) (argument_up_bound p root) few in
      chosen lo (top_of (b + 1)) (suc (suc k) * bottom_of (lam_of p) k) (closed_low (coulomb_of p) (eps_of p) (lam_of p) k b) (record { top = 0; bottom = 1 }) closed
      (at_most lo (closed_low (coulomb_of p) (eps_of p) (lam_of p) k b) (below_at (coulomb_of p) (eps_of p) (lam_of p) k root b (argument_up_of p root) up (2 ^ f) (quotient_down_of p root) lo (2 ^ k) are (pow_pos f) (argument_up_bound p root)
      (λ n q. contained n q k from) (quotient_down_bound p root) end))

-- 0 is at most the least potential
pub zero_holds : (p : Params) (k b : ℕ) → IsAtMost (pos 0) (low_at_order p k b)
zero_holds p k b = nothing (low_at_order p k b) where
  nothing : (f : Fraction) → IsAtMost (pos 0) f
  nothing f = at_most 0 f (omega arith)

-- a span with ends that hold the distance
pub span_holds : (p : Params) (d lo hi : ℕ) (low_end high_end : ℤ) → low_end ≡ pos lo → high_end ≡ pos hi
    → ((k b : ℕ) → 96 ≤ k → IsRoot (d * 4 ^ k) b → IsAtMost (pos lo) (low_at_order p k b))
    → ((k b : ℕ) → 96 ≤ k → IsRoot (d * 4 ^ k) b → IsAtLeast (pos hi) (high_at_order p k b)) → HoldsDistance p d low_end high_end
span_holds p d lo hi low_end high_end lo_is hi_is low high k b from of_b = record {
  low = subst (λ (z : ℤ). IsAtMost z (low_at_order p k b)) (sym lo_is) (low k b from of_b);
  high = subst (λ (z : ℤ). IsAtLeast z (high_at_order p k b)) (sym hi_is) (high k b from of_b);
}
