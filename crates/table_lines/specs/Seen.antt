-- the lines so far, with what they give kept beside them
use Rattle.std.specs.Prelude.{◌≡◌, ℕ, ◌+◌, ◌*◌, ◌<◌, ℤ, pos, ◌||◌, List, [], ◌∷◌, ◌++◌, map, length, Option, None, slice_index_or}
use Rattle.std.specs.Option.{option_or}
use Rattle.charge_model.specs.declared.span.Span.{Span}
use Rattle.charge_model.specs.declared.TheConstants.{MAX_SITES, MAX_FIXED}
use Rattle.table_lines.specs.declared.line.TableLine.{TableLine}
use Rattle.table_lines.specs.declared.seen.Seen.{Seen}
use Rattle.table_lines.specs.Kinds.{is_second, has_fixed_part, sites_after, site_count_in, fixed_after, fixed_of, base_after, base_of, minus_after, minus_of, plus_after, plus_of, fixed_charges_in, spans_of, pair_in, pair_class, near_in, near_class}

-- the least and the greatest of each span
abbrev pub ends_of : List Span → List (ℤ × ℤ)
ends_of spans = map (λ s. (s.lo, s.hi)) spans

-- what stands in a table of rows of this width, or nothing
abbrev pub cell_at : ℕ → List (Option ℤ) → ℕ → ℕ → Option ℤ
cell_at width cells i j = slice_index_or cells (i * width + j) None

-- each field is what the lines give
pub record IsCounted (s : Seen) : Type 0 where
  pub second : s.second ≡ has_fixed_part s.lines.items
  pub sites : s.sites ≡ site_count_in s.lines.items
  pub fixed : s.fixed ≡ fixed_of s.lines.items
  pub base : s.base ≡ base_of s.lines.items
  pub minus : s.mu_minus ≡ minus_of s.lines.items
  pub plus : s.mu_plus ≡ plus_of s.lines.items
  pub charges : s.charges.items ≡ fixed_charges_in s.lines.items
  pub spans : ends_of s.spans.items ≡ spans_of s.lines.items
  pub all_pairs : length s.pairs.items ≡ MAX_SITES * MAX_SITES
  pub pairs : (i j : ℕ) → i < MAX_SITES → j < MAX_SITES
      → cell_at MAX_SITES s.pairs.items i j ≡ pair_class s.lines.items (pos i) (pos j)
  pub all_near : length s.near.items ≡ MAX_SITES * MAX_FIXED
  pub near : (i a : ℕ) → i < MAX_SITES → a < MAX_FIXED
      → cell_at MAX_FIXED s.near.items i a ≡ near_class s.lines.items (pos i) (pos a)

-- each field is what it was with one more line
pub record Notes (old new : Seen) (l : TableLine) : Type 0 where
  pub lines : new.lines.items ≡ old.lines.items
  pub second : new.second ≡ (old.second || is_second l)
  pub sites : new.sites ≡ sites_after old.sites l
  pub fixed : new.fixed ≡ fixed_after old.fixed l
  pub base : new.base ≡ base_after old.base l
  pub minus : new.mu_minus ≡ minus_after old.mu_minus l
  pub plus : new.mu_plus ≡ plus_after old.mu_plus l
  pub charges : new.charges.items ≡ old.charges.items ++ fixed_charges_in (l ∷ [])
  pub spans : ends_of new.spans.items ≡ ends_of old.spans.items ++ spans_of (l ∷ [])
  pub all_pairs : length new.pairs.items ≡ length old.pairs.items
  pub pairs : (i j : ℕ) → i < MAX_SITES → j < MAX_SITES → cell_at MAX_SITES new.pairs.items i j
      ≡ option_or (cell_at MAX_SITES old.pairs.items i j) (pair_in (pos i) (pos j) l)
  pub all_near : length new.near.items ≡ length old.near.items
  pub near : (i a : ℕ) → i < MAX_SITES → a < MAX_FIXED → cell_at MAX_FIXED new.near.items i a
      ≡ option_or (cell_at MAX_FIXED old.near.items i a) (near_in (pos i) (pos a) l)
