-- products of a coefficient and a number of a span
use Rattle.std.proofs.Common.{◌≡◌, ◌*◌, ◌^◌, ◌≤◌, ℤ, pos, negsuc, ◌*ℤ◌, ◌<ℤ◌, FitsSigned, w64, to_z, of_z, unsigned_abs, refl, arith, lit<}
use Rattle.std.proofs.lemmas.Int.{ints, to_z-of_z, fits_signed_mul, unsigned_abs-mul}
use Rattle.std.proofs.Math.Nat.{mul-le-mul_left}
use Rattle.linear_form.specs.Parts.{pick}

pub pick-negative : (a x y : ℤ) → a <ℤ pos 0 → pick a x y ≡ y
pick-negative (pos k) x y h = absurd (omega (arith, ints))
pick-negative (negsuc k) x y h = refl

-- what the code's product is
pub product_read : (a x : ℤ) → FitsSigned w64 a → FitsSigned w64 x → unsigned_abs a ≤ 8192 → unsigned_abs x ≤ 10 ^ 13 → to_z w64 (of_z w64 (to_z w64 (of_z w64 a) *ℤ to_z w64 (of_z w64 x))) ≡ a *ℤ x
product_read a x fa fx ha hx =
    let fits : FitsSigned w64 (a *ℤ x) = fits_signed_mul w64 a x 8192 (10 ^ 13) ha hx (lit< tt) in
    simp to_z-of_z

pub product-size : (a x : ℤ) → unsigned_abs x ≤ 10 ^ 13 → unsigned_abs (a *ℤ x) ≤ unsigned_abs a * 10 ^ 13
product-size a x hx = rw unsigned_abs-mul (mul-le-mul_left (unsigned_abs a) hx)
