-- the rounding rule of a span
use Rattle.std.specs.Prelude.{◌≡◌, ℕ, ℤ, ◌+◌, ◌*◌, ◌/◌, ◌^◌, pos, nat_lt, if◌then◌else◌}
use Rattle.std.specs.Int.{div_ceil}
use Rattle.root_exp.specs.declared.TheConstants.{UNIT}
use Rattle.root_exp.specs.Root.{IsRoot}
use Rattle.root_exp.specs.Series.{bits_for, sum_down, sum_up}
use Rattle.model_params.specs.declared.params.Params.{Params}
use Rattle.screened_coulomb.specs.Potential.{coulomb_of, eps_of, lam_of}

-- the argument 10·√D / lam at the root of 40 bits, in units of 2^-60, rounded down
abbrev pub argument_down_of : Params → ℕ → ℕ
argument_down_of p root = 10 * root * 2 ^ 20 / lam_of p

-- the same rounded up
abbrev pub argument_up_of : Params → ℕ → ℕ
argument_up_of p root = 10 * (root + 1) * 2 ^ 20 / lam_of p + 1

-- K·10^12 / (eps·√D), in units of 2^-23, rounded down
abbrev pub quotient_down_of : Params → ℕ → ℕ
quotient_down_of p root = coulomb_of p * 2 ^ 63 / (eps_of p * (root + 1))

-- the same rounded up
abbrev pub quotient_up_of : Params → ℕ → ℕ
quotient_up_of p root = div_ceil (coulomb_of p * 2 ^ 63) (eps_of p * root)

-- a quotient divided by a sum with f bits, rounded down
abbrev pub rounded_lo : ℕ → ℕ → ℕ → ℕ
rounded_lo quotient f up = quotient * 2 ^ f / (up * 2 ^ 23)

-- the same rounded up
abbrev pub rounded_hi : ℕ → ℕ → ℕ → ℕ
rounded_hi quotient f down = div_ceil (quotient * 2 ^ f) (down * 2 ^ 23)

-- the two ends of a span
pub record SpanEnds : Type 0 where
  pub lo : ℕ
  pub hi : ℕ

-- the ends of a near pair
abbrev pub near_ends : Params → ℕ → SpanEnds
near_ends p root = let f = bits_for (argument_up_of p root) in record {
  lo = rounded_lo (quotient_down_of p root) f (sum_up f (argument_up_of p root));
  hi = rounded_hi (quotient_up_of p root) f (sum_down f (argument_down_of p root));
}

-- the argument from which on a pair is far
abbrev pub far_from : ℕ
far_from = 24 * UNIT

-- the ends of a far pair
abbrev pub far_ends : Params → ℕ → SpanEnds
far_ends p root = record {
  lo = 0;
  hi = rounded_hi (quotient_up_of p root) (bits_for far_from)
      (sum_down (bits_for far_from) far_from);
}

-- the ends at the root of 40 bits
abbrev pub rounded_ends : Params → ℕ → SpanEnds
rounded_ends p root =
    if nat_lt (argument_down_of p root) far_from then near_ends p root else far_ends p root

-- lo and hi are the ends that the rounding rule gives for the squared distance d
pub record IsRoundedSpan (p : Params) (d : ℕ) (lo hi : ℤ) : Type 0 where
  pub root : ℕ
  pub root_is : IsRoot (d * 4 ^ 40) root
  pub lo_is : lo ≡ pos (rounded_ends p root).lo
  pub hi_is : hi ≡ pos (rounded_ends p root).hi
