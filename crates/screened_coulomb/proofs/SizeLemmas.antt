-- the sizes of the rounding rule's numbers
use Rattle.std.proofs.Common.{◌≡◌, ℕ, ◌+◌, ◌*◌, ◌/◌, ◌^◌, ◌<◌, ◌≤◌, inl, inr, arith}
use Rattle.std.proofs.lemmas.Int.{ints}
use Rattle.std.proofs.Math.Nat.{mul-le-mul_left, mul-le-mul_right, mul-le-mul, div-mul-le_self, lt-div-mul-add}
use Rattle.std.proofs.lemmas.Bool.{cases_lt}
use Rattle.std.proofs.lemmas.Grind.{div_ceil_times}
use Rattle.std.specs.Int.{div_ceil}
use Rattle.root_exp.specs.declared.TheConstants.{UNIT}
use Rattle.model_params.specs.declared.params.Params.{Params}
use Rattle.screened_coulomb.specs.Potential.{coulomb_of, eps_of, lam_of}
use Rattle.screened_coulomb.specs.Rounding.{argument_down_of, argument_up_of, quotient_down_of, quotient_up_of}
use Rattle.screened_coulomb.proofs.OrderLemmas.{cancel}

pub coulomb_most : (p : Params) → coulomb_of p ≤ 15000000 * 10 ^ 12
coulomb_most p = omega (arith, ints, p.in_range.coulomb_within.from, p.in_range.coulomb_within.to)

pub eps_least : (p : Params) → 10000 ≤ eps_of p
eps_least p = omega (arith, ints, p.in_range.eps_within.from)

pub lam_least : (p : Params) → 1000 ≤ lam_of p
lam_least p = omega (arith, ints, p.in_range.lam_within.from)

-- no quotient is above this many units of 2^-23
abbrev pub most : ℕ
most = 6666666666667

pub divisor_least : (p : Params) (root : ℕ) → 225 * 2 ^ 40 ≤ root → 10000 * (225 * 2 ^ 40) ≤ eps_of p * root
divisor_least p root least = mul-le-mul (eps_least p) least

quotient_most : (charge n q : ℕ) → charge ≤ 15000000 * 10 ^ 12 → 10000 * (225 * 2 ^ 40) ≤ n → q * n < charge * 2 ^ 63 + n → q ≤ most * 2 ^ 23
quotient_most charge n q c divisor below =
    elim (cases_lt (most * 2 ^ 23) q) [
      | inl over ↦ absurd (too_much charge n q c divisor over below)
      | inr within ↦ within
    ]
  where
    too_much : (charge n q : ℕ) → charge ≤ 15000000 * 10 ^ 12 → 10000 * (225 * 2 ^ 40) ≤ n → most * 2 ^ 23 < q → q * n < charge * 2 ^ 63 + n → ⊥
    too_much charge n q c divisor over below =
        let big : (most * 2 ^ 23 + 1) * n ≤ q * n = mul-le-mul_right n over in omega arith

pub quotient_up_small : (p : Params) (root : ℕ) → 225 * 2 ^ 40 ≤ root → quotient_up_of p root ≤ most * 2 ^ 23
quotient_up_small p root least =
    let divisor = divisor_least p root least in
    quotient_most (coulomb_of p) (eps_of p * root) (quotient_up_of p root) (coulomb_most p) divisor
    (div_ceil_times (coulomb_of p * 2 ^ 63) (eps_of p * root) (omega arith)).1

-- what the rounded quotients and arguments bound
pub quotient_down_bound : (p : Params) (root : ℕ) → quotient_down_of p root * (eps_of p * (root + 1)) ≤ coulomb_of p * 2 ^ 63
quotient_down_bound p root = div-mul-le_self (coulomb_of p * 2 ^ 63) (eps_of p * (root + 1))

pub quotient_up_bound : (p : Params) (root : ℕ) → 225 * 2 ^ 40 ≤ root → coulomb_of p * 2 ^ 63 ≤ quotient_up_of p root * (eps_of p * root)
quotient_up_bound p root least =
    let divisor = divisor_least p root least in
    (div_ceil_times (coulomb_of p * 2 ^ 63) (eps_of p * root) (omega arith)).0

pub argument_down_bound : (p : Params) (root : ℕ) → argument_down_of p root * lam_of p ≤ 10 * root * 2 ^ 20
argument_down_bound p root = div-mul-le_self (10 * root * 2 ^ 20) (lam_of p)

pub argument_up_bound : (p : Params) (root : ℕ) → 10 * (root + 1) * 2 ^ 20 ≤ argument_up_of p root * lam_of p
argument_up_bound p root = up_rounded (10 * (root + 1) * 2 ^ 20) (lam_of p) (omega (arith, lam_least p)) where
  up_rounded : (n lam : ℕ) → 0 < lam → n ≤ (n / lam + 1) * lam
  up_rounded n lam some = let l = lt-div-mul-add {a = n} some in omega arith

quotients : (charge eps a q q' : ℕ) → 0 < eps → q * (eps * (a + 1)) ≤ charge → charge ≤ q' * (eps * a) → q ≤ q'
quotients charge eps a q q' some low high =
    cancel (eps * (a + 1)) q q' (positive_product eps a some) (omega (arith, mul-le-mul_left (q' * eps) (one_more a)))
  where
    positive_product : (eps a : ℕ) → 0 < eps → 0 < eps * (a + 1)
    positive_product eps a some = omega arith

    one_more : (a : ℕ) → a ≤ a + 1
    one_more a = omega arith

pub quotients_in_order : (p : Params) (root : ℕ) → 225 * 2 ^ 40 ≤ root → quotient_down_of p root ≤ quotient_up_of p root
quotients_in_order p root least =
    quotients (coulomb_of p * 2 ^ 63) (eps_of p) root (quotient_down_of p root) (quotient_up_of p root) (omega (arith, eps_least p)) (quotient_down_bound p root) (quotient_up_bound p root least)

-- the ends are in order
pub ends_in_order : (q q' first down up lo hi : ℕ) → q ≤ q' → 0 < down → down ≤ up → lo ≡ q * first / (up * 2 ^ 23) → hi ≡ div_ceil (q' * first) (down * 2 ^ 23) → lo ≤ hi
ends_in_order q q' first down up lo hi quotient some sums lo_is hi_is =
    let low : lo * (up * 2 ^ 23) ≤ q * first = rw lo_is (div-mul-le_self (q * first) (up * 2 ^ 23)) in
    let high : q' * first ≤ hi * (down * 2 ^ 23) = rw hi_is (div_ceil_times (q' * first) (down * 2 ^ 23) (omega arith)).0 in
    cancel (up * 2 ^ 23) lo hi (omega arith) (omega (arith, mul-le-mul_right first quotient, mul-le-mul_left (hi * 2 ^ 23) sums))

-- where the lower argument is below 24, the upper one is at most 25
pub argument_up_small : (p : Params) (root : ℕ) → argument_down_of p root < 24 * UNIT → argument_up_of p root ≤ 25 * UNIT
argument_up_small p root near =
    let positive : 0 < lam_of p = omega (arith, lam_least p) in
    let low = lt-div-mul-add {a = 10 * root * 2 ^ 20} positive in
    let high = div-mul-le_self (10 * (root + 1) * 2 ^ 20) (lam_of p) in
    small_at (lam_of p) (argument_down_of p root) (10 * (root + 1) * 2 ^ 20 / lam_of p) positive near (omega arith)
  where
    small_at : (lam x y : ℕ) → 0 < lam → x < 24 * UNIT → y * lam < x * lam + lam + 10 * 2 ^ 20 → y + 1 ≤ 25 * UNIT
    small_at lam x y positive near h =
        let wide : 10 * 2 ^ 20 ≤ 10 * 2 ^ 20 * lam = omega (arith, mul-le-mul_left (10 * 2 ^ 20) positive) in
        let l = cancel lam y (x + 1 + 10 * 2 ^ 20) positive (omega arith) in
        omega arith
