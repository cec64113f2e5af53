-- sums and multiples of the numbers of a span, and their ends
use Rattle.std.proofs.Common.{◌≡◌, ℕ, suc, ℤ, pos, negsuc, ◌+ℤ◌, ◌*ℤ◌, ◌≤ℤ◌, ◌∙◌, ◌-◌, ◌^◌, w64, to_z, of_z, arith, rules}
use Rattle.std.proofs.lemmas.Int.{ints, to_z-of_z}
use Rattle.std.proofs.Math.Nat.{mul-le-mul_left}
use Rattle.std.specs.Int.{int_max, int_min}
use mir.Val.{SFits}
use borrow.Author.Differences.{le_out}
use Rattle.charge_model.specs.declared.span.Span.{Span}
use Rattle.fixed_enclosure.specs.Hull.{IsHull, IsProduct, IsSum, IsInSpan}

-- the ends of a span are numbers of it
pub lo-within : (s : Span) → IsInSpan s s.lo
lo-within s = record { from_lo = omega (arith, ints); to_hi = s.in_order }

pub hi-within : (s : Span) → IsInSpan s s.hi
hi-within s = record { from_lo = s.in_order; to_hi = omega (arith, ints) }

pub sums_hull : (a b s : Span) → s.lo ≡ a.lo +ℤ b.lo → s.hi ≡ a.hi +ℤ b.hi → IsHull (IsSum a b) s
sums_hull a b s lo hi = record {
  least = record { left = a.lo; right = b.lo; of_a = lo-within a; of_b = lo-within b; sum = lo };
  greatest = record { left = a.hi; right = b.hi; of_a = hi-within a; of_b = hi-within b; sum = hi };
  bounds = λ z is. record {
    from_lo = omega (arith, ints, is.of_a.from_lo, is.of_b.from_lo, is.sum);
    to_hi = omega (arith, ints, is.of_a.to_hi, is.of_b.to_hi, is.sum);
  };
}

-- products keep the order, or turn it
product_rises : (x y : ℤ) (k : ℕ) → x ≤ℤ y → (x *ℤ pos k) ≤ℤ (y *ℤ pos k)
product_rises x y k le = omega (arith, ints, mul-le-mul_left k (le_out x y le))

product_falls : (x y : ℤ) (k : ℕ) → x ≤ℤ y → (y *ℤ negsuc k) ≤ℤ (x *ℤ negsuc k)
product_falls x y k le = omega (arith, ints, mul-le-mul_left (suc k) (le_out x y le))

min-in_order : (p q : ℤ) → p ≤ℤ q → (int_min p q ≡ p) × (int_max p q ≡ q)
min-in_order p q le = (grind (arith, ints), grind (arith, ints))

min-turned : (p q : ℤ) → q ≤ℤ p → (int_min p q ≡ q) × (int_max p q ≡ p)
min-turned p q le = (grind (arith, ints), grind (arith, ints))

min_fits : (p q : ℤ) → negsuc (2 ^ 62 - 1) ≤ℤ int_min p q → int_max p q ≤ℤ pos (2 ^ 62) → SFits w64 p × SFits w64 q
min_fits p q low high = (fits p (grind (arith, ints)) (grind (arith, ints)), fits q (grind (arith, ints)) (grind (arith, ints))) where
  fits : (z : ℤ) → negsuc (2 ^ 62 - 1) ≤ℤ z → z ≤ℤ pos (2 ^ 62) → SFits w64 z
  fits z low high = search (rules, ints)

-- a number as 64 bits hold it
abbrev as_bits : ℤ → ℤ
as_bits z = to_z w64 (of_z w64 z)

-- the ends of the multiples, without the bits
pub ends_of : (a : Span) (k : ℤ) (s : Span) → SFits w64 a.lo → SFits w64 a.hi → SFits w64 k
    → negsuc (2 ^ 62 - 1) ≤ℤ int_min (a.lo *ℤ k) (a.hi *ℤ k) → int_max (a.lo *ℤ k) (a.hi *ℤ k) ≤ℤ pos (2 ^ 62)
    → s.lo ≡ int_min (as_bits (as_bits a.lo *ℤ as_bits k)) (as_bits (as_bits a.hi *ℤ as_bits k))
    → s.hi ≡ int_max (as_bits (as_bits a.lo *ℤ as_bits k)) (as_bits (as_bits a.hi *ℤ as_bits k))
    → (s.lo ≡ int_min (a.lo *ℤ k) (a.hi *ℤ k)) × (s.hi ≡ int_max (a.lo *ℤ k) (a.hi *ℤ k))
ends_of a k s lo hi factor low high least greatest =
    let ends = min_fits (a.lo *ℤ k) (a.hi *ℤ k) low high in
    let from_lo : SFits w64 (a.lo *ℤ k) = ends.0 in
    let from_hi : SFits w64 (a.hi *ℤ k) = ends.1 in
    (simp to_z-of_z at least, simp to_z-of_z at greatest)

pub products_hull : (a s : Span) (k : ℤ) → s.lo ≡ int_min (a.lo *ℤ k) (a.hi *ℤ k) → s.hi ≡ int_max (a.lo *ℤ k) (a.hi *ℤ k) → IsHull (IsProduct a k) s
products_hull a s (pos k) lo hi =
    let ends = min-in_order (a.lo *ℤ pos k) (a.hi *ℤ pos k) (product_rises a.lo a.hi k a.in_order) in
    let lo_is = lo ∙ ends.0 in
    let hi_is = hi ∙ ends.1 in
    record {
      least = record { factor = a.lo; of_a = lo-within a; product = lo_is };
      greatest = record { factor = a.hi; of_a = hi-within a; product = hi_is };
      bounds = λ z is. record {
        from_lo = omega (arith, ints, lo_is, is.product, product_rises a.lo is.factor k is.of_a.from_lo);
        to_hi = omega (arith, ints, hi_is, is.product, product_rises is.factor a.hi k is.of_a.to_hi);
      };
    }
products_hull a s (negsuc k) lo hi =
    let ends = min-turned (a.lo *ℤ negsuc k) (a.hi *ℤ negsuc k) (product_falls a.lo a.hi k a.in_order) in
    let lo_is = lo ∙ ends.0 in
    let hi_is = hi ∙ ends.1 in
    record {
      least = record { factor = a.hi; of_a = hi-within a; product = lo_is };
      greatest = record { factor = a.lo; of_a = lo-within a; product = hi_is };
      bounds = λ z is. record {
        from_lo = omega (arith, ints, lo_is, is.product, product_falls is.factor a.hi k is.of_a.to_hi);
        to_hi = omega (arith, ints, hi_is, is.product, product_falls a.lo is.factor k is.of_a.from_lo);
      };
    }
