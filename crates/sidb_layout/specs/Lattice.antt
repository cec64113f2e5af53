-- lattices, positions in hundredths of an ångström, and squared distances
use Rattle.std.specs.Prelude.{◌≡◌, ℕ, ◌+◌, ◌*◌, ◌≤◌, ℤ, pos, ◌+ℤ◌, ◌-ℤ◌, ◌*ℤ◌, unsigned_abs}
use Rattle.std.proofs.Common.{lit≤}
use Rattle.sidb_layout.specs.declared.site.Site.{Site}
use Rattle.sidb_layout.specs.declared.lattice.Lattice.{Lattice}
use Rattle.sidb_layout.specs.declared.TheConstants.{MAX_STEPS, MAX_OFFSET}

-- these numbers are the vectors of a lattice
pub record AreVectors (ax ay bx by cx cy : ℤ) : Type 0 where
  pub x_steps : unsigned_abs ax + unsigned_abs bx ≤ MAX_STEPS
  pub y_steps : unsigned_abs ay + unsigned_abs by ≤ MAX_STEPS
  pub x_offset : unsigned_abs cx ≤ MAX_OFFSET
  pub y_offset : unsigned_abs cy ≤ MAX_OFFSET

-- a lattice has these vectors
pub record HasVectors (ax ay bx by cx cy : ℤ) (v : Lattice) : Type 0 where
  pub column_x : v.ax ≡ ax
  pub column_y : v.ay ≡ ay
  pub row_x : v.bx ≡ bx
  pub row_y : v.by ≡ by
  pub atom_x : v.cx ≡ cx
  pub atom_y : v.cy ≡ cy

-- H-Si(100)-2x1: 3.84 Å along a row, 7.68 Å from row to row, the second atom 2.25 Å below the first
abbrev pub silicon : Lattice
silicon = record {
  ax = pos 384;
  ay = pos 0;
  bx = pos 0;
  by = pos 768;
  cx = pos 0;
  cy = pos 225;
  x_steps = lit≤ tt;
  y_steps = lit≤ tt;
  x_offset = lit≤ tt;
  y_offset = lit≤ tt;
}

-- where a place lies along x, in 10^-2 Å
abbrev pub x_of : Lattice → Site → ℤ
x_of v s = ((s.n *ℤ v.ax) +ℤ (s.m *ℤ v.bx)) +ℤ (s.l *ℤ v.cx)

-- where a place lies along y, in 10^-2 Å
abbrev pub y_of : Lattice → Site → ℤ
y_of v s = ((s.n *ℤ v.ay) +ℤ (s.m *ℤ v.by)) +ℤ (s.l *ℤ v.cy)

-- how far apart two positions along one direction are
abbrev pub distance_along : ℤ → ℤ → ℕ
distance_along p q = unsigned_abs (p -ℤ q)

-- the squared distance of two places: the sum of the squares of the two differences
unfoldable pub squared_distance : Lattice → Site → Site → ℕ
squared_distance v a b =
    distance_along (x_of v a) (x_of v b) * distance_along (x_of v a) (x_of v b)
    + distance_along (y_of v a) (y_of v b) * distance_along (y_of v a) (y_of v b)
