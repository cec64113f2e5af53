-- each squared distance has a span
use Rattle.std.proofs.Common.{◌≡◌, refl, ℕ, ◌+◌, ◌*◌, ◌^◌, ◌<◌, ◌≤◌, ◌⊎◌, inl, inr, ℤ, pos, nat_lt, if◌then◌else◌, Bool, true, false, arith}
use Rattle.std.proofs.lemmas.Bool.{cases_lt, lt-ltb, ltb-true}
use Rattle.std.proofs.lemmas.Grind.{div_ceil_times}
use Rattle.std.proofs.lemmas.Int.{ints}
use Rattle.std.proofs.lemmas.Nat.{pow_pos}
use Rattle.std.proofs.Math.Nat.{le_trans, mul-le-mul, mul-le-mul_right}
use Rattle.root_exp.specs.declared.TheConstants.{UNIT}
use Rattle.root_exp.specs.Root.{IsRoot}
use Rattle.root_exp.specs.Series.{AreSized, bits_for, closed_divisor, closed_sum, divisor_of, series_sum, sum_to, term_down, term_up, sum_down, sum_up}
use Rattle.model_params.specs.declared.params.Params.{Params}
use Rattle.screened_coulomb.specs.Potential.{HoldsDistance, lam_of}
use Rattle.screened_coulomb.specs.Rounding.{SpanEnds, argument_down_of, argument_up_of, far_from, far_ends, rounded_hi, rounded_lo, near_ends, quotient_down_of, quotient_up_of, rounded_ends}
use Rattle.screened_coulomb.specs.Layouts.{IsClassSpan}
use Rattle.screened_coulomb.proofs.HoldLemmas.{high_holds, low_holds, span_holds, zero_holds}
use Rattle.screened_coulomb.proofs.OrderLemmas.{cancel, square_lt}
use Rattle.screened_coulomb.proofs.SizeLemmas.{argument_down_bound, argument_up_bound, argument_up_small, ends_in_order, lam_least, most, quotient_up_small, quotients_in_order}

-- the laws of roots and of the sums of the series
pub record AreLaws : Type 0 where
  pub root_of : (n : ℕ) → (a : ℕ) × IsRoot n a
  pub sized : (x_down x_up : ℕ) → x_down ≤ x_up → 1 ≤ x_up → x_up ≤ 25 * UNIT → AreSized (bits_for x_up) (sum_down (bits_for x_up) x_down) (sum_up (bits_for x_up) x_up)
  pub down : (first x p q k : ℕ) → 96 ≤ k → x * q ≤ p * UNIT → sum_to (term_down first x) 96 * divisor_of q k ≤ first * series_sum p q k
  pub up : (first x p q k : ℕ) → 96 ≤ k → x ≤ 25 * UNIT → p * UNIT ≤ x * q
      → first * closed_sum p q k ≤ (sum_to (term_up first x) 96 + 2 * term_up first x 97) * closed_divisor p q k

-- the ends are those of a span that holds the squared distance
record AreHolding (p : Params) (d : ℕ) (e : SpanEnds) : Type 0 where
  holds : HoldsDistance p d (pos e.lo) (pos e.hi)
  in_order : e.lo ≤ e.hi
  within : e.hi ≤ most

-- a quotient divided by a sum of at least 1 is no greater
at_most : (h D y m : ℕ) → h * D < y + D → y ≤ m * D → h ≤ m
at_most h D y m over le = below h m D (omega (arith, over, le))
  where
    below : (c m d : ℕ) → c * d < m * d + d → c ≤ m
    below c m d h = grind arith

-- the upper end is at most the greatest one
end_within : (q f down : ℕ) → q ≤ most * 2 ^ 23 → 2 ^ f ≤ down → rounded_hi q f down ≤ most
end_within q f down small one =
    let some : 0 < down = omega (arith, one, pow_pos f) in
    let over = (div_ceil_times (q * 2 ^ f) (down * 2 ^ 23) (omega (arith, some))).1 in
    let product : q * 2 ^ f ≤ (most * 2 ^ 23) * down = mul-le-mul small one in
    at_most (rounded_hi q f down) (down * 2 ^ 23) (q * 2 ^ f) most over (omega (arith, product))

-- the argument rounded down is at most the one rounded up
arguments_in_order : (p : Params) (root : ℕ) → argument_down_of p root ≤ argument_up_of p root
arguments_in_order p root =
    cancel (lam_of p) (argument_down_of p root) (argument_up_of p root) (omega (arith, lam_least p))
    (between (lam_of p) (argument_down_of p root) (argument_up_of p root) root (argument_down_bound p root) (argument_up_bound p root))
  where
    between : (lam x y root : ℕ) → x * lam ≤ 10 * root * 2 ^ 20 → 10 * (root + 1) * 2 ^ 20 ≤ y * lam → lam * x ≤ lam * y
    between lam x y root low high = omega (arith, low, high)

module _ (laws : AreLaws) (p : Params) (d root : ℕ) (least : 225 * 2 ^ 40 ≤ root) (of_root : IsRoot (d * 4 ^ 40) root) where
  -- the ends of a near pair hold its squared distance
  near_holds : argument_down_of p root < far_from → AreHolding p d (near_ends p root)
  near_holds near = by (bits_for (argument_up_of p root)) (laws.sized (argument_down_of p root) (argument_up_of p root) (arguments_in_order p root) (omega arith) few)
    where
      few : argument_up_of p root ≤ 25 * UNIT
      few = argument_up_small p root near

      by : (f : ℕ) → AreSized f (sum_down f (argument_down_of p root)) (sum_up f (argument_up_of p root)) → AreHolding p d (record {
        lo = rounded_lo (quotient_down_of p root) f (sum_up f (argument_up_of p root));
        hi = rounded_hi (quotient_up_of p root) f (sum_down f (argument_down_of p root));
      })
      by f sized =
          let down = sum_down f (argument_down_of p root) in
          let up = sum_up f (argument_up_of p root) in
          let lo = rounded_lo (quotient_down_of p root) f up in
          let hi = rounded_hi (quotient_up_of p root) f down in
          let some : 0 < down = omega (arith, sized.one, pow_pos f) in
          let low = low_holds p d root f down up least of_root sized lo few (λ n q k from arg. laws.up (2 ^ f) (argument_up_of p root) n q k from few arg) refl in
          let high = high_holds p d root f down up least of_root sized (argument_down_of p root) hi (argument_down_bound p root)
          (λ n q k from arg. laws.down (2 ^ f) (argument_down_of p root) n q k from arg) refl in
          record {
            holds = span_holds p d lo hi (pos lo) (pos hi) refl refl low high;
            in_order = ends_in_order (quotient_down_of p root) (quotient_up_of p root) (2 ^ f) down up lo hi (quotients_in_order p root least) some sized.order refl refl;
            within = end_within (quotient_up_of p root) f down (quotient_up_small p root least) sized.one;
          }

  -- those of a far pair do
  far_holds : far_from ≤ argument_down_of p root → AreHolding p d (far_ends p root)
  far_holds beyond = by (bits_for far_from) (laws.sized far_from far_from (omega arith) (omega arith) (omega arith))
    where
      by : (f : ℕ) → AreSized f (sum_down f far_from) (sum_up f far_from) → AreHolding p d (record { lo = 0; hi = rounded_hi (quotient_up_of p root) f (sum_down f far_from) })
      by f sized =
          let down = sum_down f far_from in
          let hi = rounded_hi (quotient_up_of p root) f down in
          let high = high_holds p d root f down (sum_up f far_from) least of_root sized far_from hi (le_trans (mul-le-mul_right (lam_of p) beyond) (argument_down_bound p root))
          (λ n q k from arg. laws.down (2 ^ f) far_from n q k from arg) refl in
          record {
            holds = span_holds p d 0 hi (pos 0) (pos hi) refl refl (λ k b _ _. zero_holds p k b) high;
            in_order = omega arith;
            within = end_within (quotient_up_of p root) f down (quotient_up_small p root least) sized.one;
          }

  -- so those of the rounding rule do
  rounded_hold : AreHolding p d (rounded_ends p root)
  rounded_hold = by (nat_lt (argument_down_of p root) far_from) refl
    where
      by : (t : Bool) → nat_lt (argument_down_of p root) far_from ≡ t → AreHolding p d (if t then near_ends p root else far_ends p root)
      by true is = near_holds (ltb-true (argument_down_of p root) far_from is)
      by false is = far_holds (not_less (cases_lt (argument_down_of p root) far_from))
        where
          not_less : (argument_down_of p root < far_from) ⊎ (far_from ≤ argument_down_of p root) → far_from ≤ argument_down_of p root
          not_less (inl less) = let true_too = lt-ltb (argument_down_of p root) far_from less in absurd (cc (is, true_too))
          not_less (inr more) = more

-- the root of a squared distance of at least 2.25 Å
root_least : (d root : ℕ) → 50625 ≤ d → IsRoot (d * 4 ^ 40) root → 225 * 2 ^ 40 ≤ root
root_least d root apart of_root =
    let below : (225 * 2 ^ 40) * (225 * 2 ^ 40) < (root + 1) * (root + 1) = omega (arith, apart, of_root.greatest) in
    omega (arith, square_lt (225 * 2 ^ 40) (root + 1) below)

-- the span of a squared distance
pub some_span : AreLaws → (p : Params) (d : ℕ) → 50625 ≤ d → (lo : ℤ) × (hi : ℤ) × IsClassSpan p d lo hi
some_span laws p d apart =
    let root = laws.root_of (d * 4 ^ 40) in
    let ends = rounded_ends p root.0 in
    let hold = rounded_hold laws p d root.0 (root_least d root.0 apart root.1) root.1 in (
      pos ends.lo,
      pos ends.hi,
      record {
        rounded = record { root = root.0; root_is = root.1; lo_is = refl; hi_is = refl };
        holds = hold.holds;
        from_zero = omega (arith, ints);
        in_order = omega (arith, ints, hold.in_order);
        within = omega (arith, ints, hold.within);
      },
    )
