-- squared distances of places in range are below 2^47
use Rattle.std.proofs.Common.{ℕ, ◌+◌, ◌*◌, ◌^◌, ◌<◌, ◌≤◌, ◌≡◌, ◌⊎◌, ℤ, pos, ◌+ℤ◌, ◌*ℤ◌, unsigned_abs, arith}
use Rattle.std.proofs.lemmas.Int.{ints, unsigned_abs-mul}
use Rattle.std.proofs.Math.Nat.{mul-le-mul_right}
use Rattle.sidb_layout.specs.declared.site.Site.{Site}
use Rattle.sidb_layout.specs.declared.lattice.Lattice.{Lattice}
use Rattle.sidb_layout.specs.Site.{IsInRange}
use Rattle.sidb_layout.specs.Lattice.{squared_distance, distance_along, x_of, y_of}

-- the size of a product, by a bound on the first factor
size-mul : (a b : ℤ) (most : ℕ) → unsigned_abs a ≤ most → unsigned_abs (a *ℤ b) ≤ most * unsigned_abs b
size-mul a b most h = rw unsigned_abs-mul (mul-le-mul_right (unsigned_abs b) h)

-- the size of a sum of three
size-sum : (a b c : ℤ) → unsigned_abs ((a +ℤ b) +ℤ c) ≤ unsigned_abs a + unsigned_abs b + unsigned_abs c
size-sum a b c = omega (arith, ints)

-- the number of an atom is 0 or 1
small_atom : (l : ℤ) → (l ≡ pos 0) ⊎ (l ≡ pos 1) → unsigned_abs l ≤ 1
small_atom l h = grind (arith, ints)

-- a position along one direction
position_within : (s : Site) (a b c : ℤ) → IsInRange s → unsigned_abs a + unsigned_abs b ≤ 800 → unsigned_abs c ≤ 400
    → unsigned_abs (((s.n *ℤ a) +ℤ (s.m *ℤ b)) +ℤ (s.l *ℤ c)) ≤ 4000400
position_within s a b c h steps offset =
    let column = size-mul s.n a 5000 h.column in
    let row = size-mul s.m b 5000 h.row in
    let atom = size-mul s.l c 1 (small_atom s.l h.atom) in
    omega (arith, size-sum (s.n *ℤ a) (s.m *ℤ b) (s.l *ℤ c), column, row, atom, steps, offset)

-- the square of the gap between two positions
square_within : (p q : ℤ) → unsigned_abs p ≤ 4000400 → unsigned_abs q ≤ 4000400 → distance_along p q * distance_along p q ≤ 64012800640000
square_within p q h k = square (distance_along p q) (omega (arith, ints, h, k))
  where
    square : (gap : ℕ) → gap ≤ 8000800 → gap * gap ≤ 64012800640000
    square gap h = let once = mul-le-mul_right gap h in omega (arith, once, h)

-- the squared distance of two places
pub distance_within : (v : Lattice) (a b : Site) → IsInRange a → IsInRange b → squared_distance v a b < 2 ^ 47
unfolding squared_distance
distance_within v a b in_range other =
    let x = square_within (x_of v a) (x_of v b) (position_within a v.ax v.bx v.cx in_range v.x_steps v.x_offset) (position_within b v.ax v.bx v.cx other v.x_steps v.x_offset) in
    let y = square_within (y_of v a) (y_of v b) (position_within a v.ay v.by v.cy in_range v.y_steps v.y_offset) (position_within b v.ay v.by v.cy other v.y_steps v.y_offset) in
    omega (arith, x, y)
