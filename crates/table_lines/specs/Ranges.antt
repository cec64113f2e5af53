-- the ranges of a line's numbers, and the first fault of a line
use Rattle.std.specs.Prelude.{ℕ, ℤ, pos, Bool, true, false, not, ◌&&◌, cond, int_lt, nat_lt, neg_ℤ, List, length, Option, None, Some, unsigned_abs, is_some}
use Rattle.std.specs.Ordering.{int_eq}
use Rattle.charge_model.specs.declared.TheConstants.{MAX_SITES, MAX_FIXED, MAX_FIXED_CHARGE, MAX_POTENTIAL, MAX_LEVEL}
use Rattle.table_lines.specs.declared.line.TableLine.{TableLine}
use Rattle.table_lines.specs.declared.line.TableLine.TheVariants.{FirstVersion, SecondVersion, Sites, Fixed, Base, Levels, Charge, Class, Pair, Near, End}
use Rattle.table_lines.specs.declared.fault.LineWhy.TheVariants.{Range}
use Rattle.table_lines.specs.declared.fault.TableFault.{TableFault}
use Rattle.table_lines.specs.declared.fault.TableFault.TheVariants.{Line, TooMany, TooManyFixed, BadSpan, TwicePair, TwiceNear}
use Rattle.table_lines.specs.Kinds.{site_count_in, fixed_of, spans_of, pair_class, near_class, most_classes}

-- whether a number is from the first to the last
abbrev pub is_from_to : ℤ → ℤ → ℤ → Bool
is_from_to first last z = not (int_lt z first) && not (int_lt last z)

-- whether a number is from 0 up to below n
abbrev pub is_below : ℤ → ℤ → Bool
is_below n z = not (int_lt z (pos 0)) && int_lt z n

-- whether the line gives more sites than a problem may have
abbrev pub has_many_sites : TableLine → Bool
has_many_sites (Sites n) = int_lt (pos MAX_SITES) n
has_many_sites _ = false

-- whether the line gives more fixed charges than a problem may have
abbrev pub has_many_fixed : TableLine → Bool
has_many_fixed (Fixed f) = int_lt (pos MAX_FIXED) f
has_many_fixed _ = false

-- whether two of n sites are a pair, the lesser one first
abbrev pub is_pair : ℤ → ℤ → ℤ → Bool
is_pair n i j = not (int_lt i (pos 0)) && int_lt i j && int_lt j n

-- whether there may be one more class
abbrev pub has_room : List TableLine → Bool
has_room before =
    nat_lt (length (spans_of before)) (most_classes (site_count_in before) (fixed_of before))

-- whether the line's numbers are in their ranges, and a class line is not one too many
abbrev pub is_table_line_in_range : List TableLine → TableLine → Bool
is_table_line_in_range before FirstVersion = true
is_table_line_in_range before SecondVersion = true
is_table_line_in_range before (Sites n) = not (int_lt n (pos 0))
is_table_line_in_range before (Fixed f) = not (int_lt f (pos 0))
is_table_line_in_range before (Base b) = is_from_to (pos 2) (pos 3) b
is_table_line_in_range before (Levels m p) =
    not (int_lt p (neg_ℤ MAX_LEVEL)) && not (int_lt m p) && not (int_lt MAX_LEVEL m)
is_table_line_in_range before (Charge q) =
    is_from_to (neg_ℤ MAX_FIXED_CHARGE) MAX_FIXED_CHARGE q && not (int_eq q (pos 0))
is_table_line_in_range before (Class lo hi) =
    is_from_to (pos 0) MAX_POTENTIAL lo && is_from_to (pos 0) MAX_POTENTIAL hi && has_room before
is_table_line_in_range before (Pair i j c) =
    is_pair (site_count_in before) i j && is_below (pos (length (spans_of before))) c
is_table_line_in_range before (Near i a c) =
    is_below (site_count_in before) i && is_below (fixed_of before) a
    && is_below (pos (length (spans_of before))) c
is_table_line_in_range before End = true

-- whether a class's least potential is above its greatest
abbrev pub is_reversed : TableLine → Bool
is_reversed (Class lo hi) = int_lt hi lo
is_reversed _ = false

-- the fault of a pair, or of a site and a fixed charge, that came before
abbrev pub twice_in : List TableLine → TableLine → Option TableFault
twice_in before (Pair i j c) =
    cond (is_some (pair_class before i j)) (Some (TwicePair (unsigned_abs i) (unsigned_abs j))) None
twice_in before (Near i a c) =
    cond (is_some (near_class before i a)) (Some (TwiceNear (unsigned_abs i) (unsigned_abs a))) None
twice_in before _ = None

-- the first fault of a line with this number, which stands after these lines
abbrev pub fault_in : List TableLine → ℕ → TableLine → Option TableFault
fault_in before number l =
    cond (has_many_sites l) (Some TooMany)
    (cond (has_many_fixed l) (Some TooManyFixed)
    (cond (not (is_table_line_in_range before l)) (Some (Line number Range))
    (cond (is_reversed l) (Some (BadSpan (length (spans_of before))))
    (twice_in before l))))
