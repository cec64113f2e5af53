-- which line may stand after the lines so far
use Rattle.std.specs.Prelude.{pos, Bool, true, false, ◌||◌, cond, int_lt, List, length, Option, None, Some}
use Rattle.table_lines.specs.declared.line.TableLine.{TableLine}
use Rattle.table_lines.specs.declared.line.TableLine.TheVariants.{FirstVersion, SecondVersion, Sites, Fixed, Base, Levels, Charge, Class, Pair, Near, End}
use Rattle.table_lines.specs.Kinds.{last_of, has_fixed_part, fixed_of, fixed_charges_in}

-- the line of a version
abbrev pub is_version : TableLine → Bool
is_version FirstVersion = true
is_version SecondVersion = true
is_version _ = false

-- the line of the number of sites
abbrev pub is_sites : TableLine → Bool
is_sites (Sites n) = true
is_sites _ = false

-- the line of the number of fixed charges
abbrev pub is_fixed : TableLine → Bool
is_fixed (Fixed f) = true
is_fixed _ = false

-- the line of the base
abbrev pub is_base : TableLine → Bool
is_base (Base b) = true
is_base _ = false

-- the line of the levels
abbrev pub is_levels : TableLine → Bool
is_levels (Levels m p) = true
is_levels _ = false

-- the line of a fixed charge
abbrev pub is_charge : TableLine → Bool
is_charge (Charge q) = true
is_charge _ = false

-- the line of a class
abbrev pub is_class : TableLine → Bool
is_class (Class lo hi) = true
is_class _ = false

-- a line `pair` or `end`, and in version 2 also `near`
abbrev pub ends_or_places : Bool → TableLine → Bool
ends_or_places second (Pair i j c) = true
ends_or_places second (Near i a c) = second
ends_or_places second End = true
ends_or_places second _ = false

-- behind the levels: first a line for each fixed charge, then any other
abbrev pub may_follow_charges : List TableLine → TableLine → Bool
may_follow_charges before l =
    cond (int_lt (pos (length (fixed_charges_in before))) (fixed_of before)) (is_charge l)
    (is_class l || ends_or_places (has_fixed_part before) l)

-- what may stand behind this last line
abbrev pub may_follow_last : List TableLine → Option TableLine → TableLine → Bool
may_follow_last before None l = is_version l
may_follow_last before (Some FirstVersion) l = is_sites l
may_follow_last before (Some SecondVersion) l = is_sites l
may_follow_last before (Some (Sites n)) l = cond (has_fixed_part before) (is_fixed l) (is_base l)
may_follow_last before (Some (Fixed f)) l = is_base l
may_follow_last before (Some (Base b)) l = is_levels l
may_follow_last before (Some (Levels m p)) l = may_follow_charges before l
may_follow_last before (Some (Charge q)) l = may_follow_charges before l
may_follow_last before (Some (Class lo hi)) l =
    is_class l || ends_or_places (has_fixed_part before) l
may_follow_last before (Some (Pair i j c)) l = ends_or_places (has_fixed_part before) l
may_follow_last before (Some (Near i a c)) l = ends_or_places (has_fixed_part before) l
may_follow_last before (Some End) l = false

-- whether such a line may stand after these
abbrev pub may_follow_lines : List TableLine → TableLine → Bool
may_follow_lines before l = may_follow_last before (last_of before) l
