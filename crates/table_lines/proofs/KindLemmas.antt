-- What the lines give, with one more line.
use Rattle.std.proofs.Common.{◌≡◌, ◌∙◌, ap, refl, ℤ, pos, ◌-◌, List, [], ◌∷◌, ◌++◌, length, Bool, true, false, ◌||◌, Option, None, Some, arith, length-append}
use Rattle.std.specs.Option.{option_or}
use Rattle.std.specs.List.{slice_get}
use Rattle.std.proofs.lemmas.List.Sums.{fold-append}
use Rattle.std.proofs.lemmas.List.Elements.{filter_map-append}
use Rattle.std.proofs.lemmas.List.Folds.{list_any-append}
use Rattle.table_lines.specs.declared.line.TableLine.{TableLine}
use Rattle.table_lines.specs.Kinds.{last_of, is_second, has_fixed_part, sites_after, site_count_in, fixed_after, fixed_of, base_after, base_of, minus_after, minus_of, plus_after, plus_of, charge_in, fixed_charges_in, span_in, spans_of, pair_in, pair_class, near_in, near_class}

pub or_false : (b : Bool) → (b || false) ≡ b
or_false true = refl
or_false false = refl

get_last : (ls : List TableLine) (l : TableLine) → slice_get (ls ++ l ∷ []) (length ls) ≡ Some l
get_last [] l = refl
get_last (x ∷ ls) l = get_last ls l

pub last_push : (ls : List TableLine) (l : TableLine) → last_of (ls ++ l ∷ []) ≡ Some l
last_push ls l =
    let at : length (ls ++ l ∷ []) - 1 ≡ length ls = omega (arith, length-append ls (l ∷ [])) in
    ap (slice_get (ls ++ l ∷ [])) at ∙ get_last ls l

pub second_push : (ls : List TableLine) (l : TableLine) → has_fixed_part (ls ++ l ∷ []) ≡ (has_fixed_part ls || is_second l)
second_push ls l = list_any-append is_second ls (l ∷ []) ∙ ap (λ b. has_fixed_part ls || b) (or_false (is_second l))

pub sites_push : (ls : List TableLine) (l : TableLine) → site_count_in (ls ++ l ∷ []) ≡ sites_after (site_count_in ls) l
sites_push ls l = fold-append sites_after (pos 0) ls (l ∷ [])

pub fixed_push : (ls : List TableLine) (l : TableLine) → fixed_of (ls ++ l ∷ []) ≡ fixed_after (fixed_of ls) l
fixed_push ls l = fold-append fixed_after (pos 0) ls (l ∷ [])

pub base_push : (ls : List TableLine) (l : TableLine) → base_of (ls ++ l ∷ []) ≡ base_after (base_of ls) l
base_push ls l = fold-append base_after (pos 2) ls (l ∷ [])

pub minus_push : (ls : List TableLine) (l : TableLine) → minus_of (ls ++ l ∷ []) ≡ minus_after (minus_of ls) l
minus_push ls l = fold-append minus_after (pos 0) ls (l ∷ [])

pub plus_push : (ls : List TableLine) (l : TableLine) → plus_of (ls ++ l ∷ []) ≡ plus_after (plus_of ls) l
plus_push ls l = fold-append plus_after (pos 0) ls (l ∷ [])

pub charges_push : (ls : List TableLine) (l : TableLine) → fixed_charges_in (ls ++ l ∷ []) ≡ fixed_charges_in ls ++ fixed_charges_in (l ∷ [])
charges_push ls l = filter_map-append charge_in ls (l ∷ [])

pub spans_push : (ls : List TableLine) (l : TableLine) → spans_of (ls ++ l ∷ []) ≡ spans_of ls ++ spans_of (l ∷ [])
spans_push ls l = filter_map-append span_in ls (l ∷ [])

pub or_none : (o : Option ℤ) → option_or o None ≡ o
or_none None = refl
or_none (Some c) = refl

or_assoc : (o p q : Option ℤ) → option_or o (option_or p q) ≡ option_or (option_or o p) q
or_assoc None p q = refl
or_assoc (Some c) p q = refl

pub pair_push : (ls : List TableLine) (l : TableLine) (i j : ℤ) → pair_class (ls ++ l ∷ []) i j ≡ option_or (pair_class ls i j) (pair_in i j l)
pair_push [] l i j = or_none (pair_in i j l)
pair_push (x ∷ ls) l i j = ap (option_or (pair_in i j x)) (pair_push ls l i j) ∙ or_assoc (pair_in i j x) (pair_class ls i j) (pair_in i j l)

pub near_push : (ls : List TableLine) (l : TableLine) (i j : ℤ) → near_class (ls ++ l ∷ []) i j ≡ option_or (near_class ls i j) (near_in i j l)
near_push [] l i j = or_none (near_in i j l)
near_push (x ∷ ls) l i j = ap (option_or (near_in i j x)) (near_push ls l i j) ∙ or_assoc (near_in i j x) (near_class ls i j) (near_in i j l)
