-- sizes of positions and of squared distances
use Rattle.std.proofs.Common.{◌≡◌, ℕ, ◌+◌, ◌*◌, ◌≤◌, ◌⊎◌, ℤ, pos, ◌+ℤ◌, ◌-ℤ◌, ◌*ℤ◌, FitsSigned, w64, to_z, of_z, unsigned_abs, arith, lit<}
use Rattle.std.proofs.lemmas.Int.{ints, to_z-of_z, fits_signed_mul, fits_signed_from_abs, unsigned_abs-mul}
use Rattle.std.proofs.Math.Nat.{mul-le-mul_right}

-- the size of a sum, and of a difference
pub size-add : (a b : ℤ) → unsigned_abs (a +ℤ b) ≤ unsigned_abs a + unsigned_abs b
size-add a b = omega (arith, ints)

pub size-sub : (a b : ℤ) → unsigned_abs (a -ℤ b) ≤ unsigned_abs a + unsigned_abs b
size-sub a b = omega (arith, ints)

-- the size of a product, by a bound on the first factor
pub size-mul : (a b : ℤ) (most : ℕ) → unsigned_abs a ≤ most → unsigned_abs (a *ℤ b) ≤ most * unsigned_abs b
size-mul a b most h = rw unsigned_abs-mul (mul-le-mul_right (unsigned_abs b) h)

-- the parts of a position: numbers of a place, and parts of the three vectors in one direction
pub record ArePart (n m l a b c : ℤ) : Type 0 where
  pub column : unsigned_abs n ≤ 5000
  pub row : unsigned_abs m ≤ 5000
  pub atom : unsigned_abs l ≤ 1
  pub steps : unsigned_abs a + unsigned_abs b ≤ 800
  pub offset : unsigned_abs c ≤ 400

-- the size of the first two parts, and of the whole position
pub size-steps : (n m l a b c : ℤ) → ArePart n m l a b c → unsigned_abs ((n *ℤ a) +ℤ (m *ℤ b)) ≤ 4000000
size-steps n m l a b c h =
    let first = size-mul n a 5000 h.column in
    let second = size-mul m b 5000 h.row in
    omega (arith, size-add (n *ℤ a) (m *ℤ b), first, second, h.steps)

pub size-position : (n m l a b c : ℤ) → ArePart n m l a b c
    → unsigned_abs (((n *ℤ a) +ℤ (m *ℤ b)) +ℤ (l *ℤ c)) ≤ 4000400
size-position n m l a b c h =
    let third = size-mul l c 1 h.atom in
    omega (arith, size-add ((n *ℤ a) +ℤ (m *ℤ b)) (l *ℤ c), size-steps n m l a b c h, third, h.offset)

-- what the code's products and sums are
pub record AreRead (n m l a b c : ℤ) : Type 0 where
  pub first_sum : FitsSigned w64 (to_z w64 (of_z w64 (to_z w64 (of_z w64 n) *ℤ to_z w64 (of_z w64 a))) +ℤ to_z w64 (of_z w64 (to_z w64 (of_z w64 m) *ℤ to_z w64 (of_z w64 b))))
  pub second_sum : FitsSigned w64 (to_z w64 (of_z w64 (to_z w64 (of_z w64 (to_z w64 (of_z w64 n) *ℤ to_z w64 (of_z w64 a))) +ℤ to_z w64 (of_z w64 (to_z w64 (of_z w64 m) *ℤ to_z w64 (of_z w64 b))))) +ℤ to_z w64 (of_z w64 (to_z w64 (of_z w64 l) *ℤ to_z w64 (of_z w64 c))))
  pub value : to_z w64 (of_z w64 (to_z w64 (of_z w64 (to_z w64 (of_z w64 (to_z w64 (of_z w64 n) *ℤ to_z w64 (of_z w64 a))) +ℤ to_z w64 (of_z w64 (to_z w64 (of_z w64 m) *ℤ to_z w64 (of_z w64 b))))) +ℤ to_z w64 (of_z w64 (to_z w64 (of_z w64 l) *ℤ to_z w64 (of_z w64 c))))) ≡ ((n *ℤ a) +ℤ (m *ℤ b)) +ℤ (l *ℤ c)

pub are_read : (n m l a b c : ℤ) → ArePart n m l a b c → AreRead n m l a b c
are_read n m l a b c h =
    let fn : FitsSigned w64 n = fits_signed_from_abs w64 n (omega (arith, h.column)) in
    let fm : FitsSigned w64 m = fits_signed_from_abs w64 m (omega (arith, h.row)) in
    let fl : FitsSigned w64 l = fits_signed_from_abs w64 l (omega (arith, h.atom)) in
    let fa : FitsSigned w64 a = fits_signed_from_abs w64 a (omega (arith, h.steps)) in
    let fb : FitsSigned w64 b = fits_signed_from_abs w64 b (omega (arith, h.steps)) in
    let fc : FitsSigned w64 c = fits_signed_from_abs w64 c (omega (arith, h.offset)) in
    let first : FitsSigned w64 (n *ℤ a) = fits_signed_mul w64 n a 5000 800 h.column (omega (arith, h.steps)) (lit< tt) in
    let second : FitsSigned w64 (m *ℤ b) = fits_signed_mul w64 m b 5000 800 h.row (omega (arith, h.steps)) (lit< tt) in
    let third : FitsSigned w64 (l *ℤ c) = fits_signed_mul w64 l c 1 400 h.atom h.offset (lit< tt) in
    let steps : FitsSigned w64 ((n *ℤ a) +ℤ (m *ℤ b)) = fits_signed_from_abs w64 _ (omega (arith, size-steps n m l a b c h)) in
    let whole : FitsSigned w64 (((n *ℤ a) +ℤ (m *ℤ b)) +ℤ (l *ℤ c)) = fits_signed_from_abs w64 _ (omega (arith, size-position n m l a b c h)) in
    record {
      first_sum = simp to_z-of_z steps;
      second_sum = simp to_z-of_z whole;
      value = simp to_z-of_z;
    }

-- an atom's number is small
pub atom_is_small : (l : ℤ) → (l ≡ pos 0) ⊎ (l ≡ pos 1) → unsigned_abs l ≤ 1
atom_is_small l h = grind (arith, ints)

-- the gap between two positions as the code takes it
pub gap_read : (p q : ℤ) → unsigned_abs p ≤ 4000400 → unsigned_abs q ≤ 4000400
    → unsigned_abs (to_z w64 (of_z w64 p) -ℤ to_z w64 (of_z w64 q)) ≡ unsigned_abs (p -ℤ q)
gap_read p q h k =
    let fits_p : FitsSigned w64 p = fits_signed_from_abs w64 p (omega (arith, h)) in
    let fits_q : FitsSigned w64 q = fits_signed_from_abs w64 q (omega (arith, k)) in
    simp to_z-of_z

pub gap_within : (p q : ℤ) (gap : ℕ) → gap ≡ unsigned_abs (p -ℤ q) → unsigned_abs p ≤ 4000400
    → unsigned_abs q ≤ 4000400 → gap ≤ 8000800
gap_within p q gap e h k = omega (arith, size-sub p q, e)

-- the square of a gap
pub square_within : (gap : ℕ) → gap ≤ 8000800 → gap * gap ≤ 64012800640000
square_within gap h =
    let once = mul-le-mul_right gap h in
    omega (arith, once, h)
