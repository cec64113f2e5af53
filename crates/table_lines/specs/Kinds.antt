-- what the lines of a table text give
use Rattle.std.specs.Prelude.{ℕ, ◌+◌, ◌*◌, ◌-◌, ℤ, pos, Bool, true, false, ◌&&◌, cond, List, [], ◌∷◌, length, Option, None, Some, fold, slice_get, unsigned_abs}
use Rattle.std.specs.List.{list_any, filter_map}
use Rattle.std.specs.Option.{option_or}
use Rattle.std.specs.Ordering.{int_eq}
use Rattle.charge_model.specs.Problem.{pairs_before}
use Rattle.table_lines.specs.declared.line.TableLine.{TableLine}
use Rattle.table_lines.specs.declared.line.TableLine.TheVariants.{SecondVersion, Sites, Fixed, Base, Levels, Charge, Class, Pair, Near, End}

-- the last line, if there is one
abbrev pub last_of : List TableLine → Option TableLine
last_of lines = slice_get lines (length lines - 1)

-- whether this last line is the line `end`
abbrev pub is_last_end : Option TableLine → Bool
is_last_end (Some End) = true
is_last_end _ = false

-- whether the line `end` came
abbrev pub is_table_ended : List TableLine → Bool
is_table_ended lines = is_last_end (last_of lines)

-- whether the line names version 2
abbrev pub is_second : TableLine → Bool
is_second SecondVersion = true
is_second _ = false

-- whether the text is of version 2
abbrev pub has_fixed_part : List TableLine → Bool
has_fixed_part lines = list_any is_second lines

-- the number of sites after one more line
abbrev pub sites_after : ℤ → TableLine → ℤ
sites_after n (Sites m) = m
sites_after n _ = n

-- the number of sites that the lines give, or 0
abbrev pub site_count_in : List TableLine → ℤ
site_count_in lines = fold sites_after (pos 0) lines

-- the number of fixed charges after one more line
abbrev pub fixed_after : ℤ → TableLine → ℤ
fixed_after f (Fixed g) = g
fixed_after f _ = f

-- the number of fixed charges that the lines give, or 0
abbrev pub fixed_of : List TableLine → ℤ
fixed_of lines = fold fixed_after (pos 0) lines

-- the base after one more line
abbrev pub base_after : ℤ → TableLine → ℤ
base_after b (Base a) = a
base_after b _ = b

-- the base that the lines give, or 2
abbrev pub base_of : List TableLine → ℤ
base_of lines = fold base_after (pos 2) lines

-- the level mu_minus after one more line
abbrev pub minus_after : ℤ → TableLine → ℤ
minus_after m (Levels n p) = n
minus_after m _ = m

-- the level mu_minus that the lines give, or 0
abbrev pub minus_of : List TableLine → ℤ
minus_of lines = fold minus_after (pos 0) lines

-- the level mu_plus after one more line
abbrev pub plus_after : ℤ → TableLine → ℤ
plus_after m (Levels n p) = p
plus_after m _ = m

-- the level mu_plus that the lines give, or 0
abbrev pub plus_of : List TableLine → ℤ
plus_of lines = fold plus_after (pos 0) lines

-- the fixed charge in a line
abbrev pub charge_in : TableLine → Option ℤ
charge_in (Charge q) = Some q
charge_in _ = None

-- the fixed charges, in order
abbrev pub fixed_charges_in : List TableLine → List ℤ
fixed_charges_in lines = filter_map charge_in lines

-- the least and the greatest potential in a line
abbrev pub span_in : TableLine → Option (ℤ × ℤ)
span_in (Class lo hi) = Some (lo, hi)
span_in _ = None

-- the least and the greatest potential of each class, in order
abbrev pub spans_of : List TableLine → List (ℤ × ℤ)
spans_of lines = filter_map span_in lines

-- the class of this pair in a line
abbrev pub pair_in : ℤ → ℤ → TableLine → Option ℤ
pair_in i j (Pair k l c) = cond (int_eq k i && int_eq l j) (Some c) None
pair_in i j _ = None

-- the class of the pair of sites i and j, if it has a line
abbrev pub pair_class : List TableLine → ℤ → ℤ → Option ℤ
pair_class [] i j = None
pair_class (l ∷ more) i j = option_or (pair_in i j l) (pair_class more i j)

-- the class of this site and fixed charge in a line
abbrev pub near_in : ℤ → ℤ → TableLine → Option ℤ
near_in i a (Near k b c) = cond (int_eq k i && int_eq b a) (Some c) None
near_in i a _ = None

-- the class of site i with fixed charge a, if it has a line
abbrev pub near_class : List TableLine → ℤ → ℤ → Option ℤ
near_class [] i a = None
near_class (l ∷ more) i a = option_or (near_in i a l) (near_class more i a)

-- the most classes that these sites and fixed charges may have
abbrev pub most_classes : ℤ → ℤ → ℕ
most_classes n f = pairs_before (unsigned_abs n) (unsigned_abs n) + unsigned_abs n * unsigned_abs f
