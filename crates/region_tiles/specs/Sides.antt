-- the sides of rectangles, and how they are cut
use Rattle.std.specs.Prelude.{ℕ, pos, ◌≤ℤ◌, ◌≤◌, ◌+◌, ◌-◌, ◌/◌, Bool, nat_lt, if◌then◌else◌, List, [], ◌∷◌, map, unsigned_abs}
use Rattle.std.specs.List.{range_with_len}
use Rattle.model_params.specs.declared.quantity.Quantity.{Quantity}
use Rattle.gate_model.specs.declared.grid.Axis.{Axis}
use Rattle.gate_model.specs.Grids.{point_at}
use Rattle.region_tiles.specs.declared.sides.Side.{Side}

-- the side between two numbers
abbrev pub between : ℕ → ℕ → Side
between from to = record { from = from; to = to }

-- both ends of a side are in the range of a quantity
pub record IsSideWithin (q : Quantity) (s : Side) : Type 0 where
  pub from : q.least ≤ℤ pos s.from
  pub order : s.from ≤ s.to
  pub to : pos s.to ≤ℤ q.greatest

-- a side is cut where a number lies between its ends
abbrev pub is_cut : Side → Bool
is_cut s = nat_lt (s.from + 1) s.to

-- the middle of a side, rounded down
abbrev pub middle_of : Side → ℕ
middle_of s = (s.from + s.to) / 2

-- the halves of a side that is cut, the lesser numbers first; else the side alone
abbrev pub halves_of : Side → List Side
halves_of s =
    if is_cut s
    then between s.from (middle_of s) ∷ between (middle_of s) s.to ∷ []
    else s ∷ []

-- side k of a direction of a grid: from its point k to the next
abbrev pub step_at : Axis → ℕ → Side
step_at axis k = between (unsigned_abs (point_at axis k)) (unsigned_abs (point_at axis (k + 1)))

-- the sides of a direction, one from each of its points
abbrev pub steps_of : Axis → List Side
steps_of axis = map (step_at axis) (range_with_len 0 axis.count)

-- the whole side of a direction, from its first point to its far end
abbrev pub whole_side : Axis → Side
whole_side axis =
    between (unsigned_abs (point_at axis 0)) (unsigned_abs (point_at axis axis.count))

-- how long a side is
abbrev pub length_of : Side → ℕ
length_of s = s.to - s.from
