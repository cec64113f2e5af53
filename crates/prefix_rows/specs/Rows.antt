-- rows of extremes, one for each site
use Rattle.std.specs.Prelude.{◌≡◌, ◌≢◌, ℕ, ◌^◌, ◌<◌, ◌≤ℤ◌, pos, List, [], slice_index_or, ◌==◌, if◌then◌else◌}
use Rattle.charge_model.specs.Problem.{Problem, class_of, lo_in, hi_in}
use Rattle.prefix_extremes.specs.Known.{AreSmall}
use Rattle.prefix_extremes.specs.declared.extremes.Extremes.{Extremes}
use Rattle.prefix_rows.specs.declared.row.Row.{Row}

-- the extremes of site k
abbrev pub extremes_at : Row → ℕ → Extremes
extremes_at row k = record {
  least = slice_index_or row.least k (record { value = pos 0 });
  greatest = slice_index_or row.greatest k (record { value = pos 0 });
}

-- the extremes of site k are written into the row, and no others
pub record IsRowWritten (old : Row) (k : ℕ) (e : Extremes) (new : Row) : Type 0 where
  pub here : extremes_at new k ≡ e
  pub others : (i : ℕ) → i ≢ k → extremes_at new i ≡ extremes_at old i

-- the row at a depth
abbrev pub row_at : List Row → ℕ → Row
row_at rows d = slice_index_or rows d (record { least = []; greatest = [] })

-- the span of sites k and j, zero where they are the same
pub record IsSpanOfPair (p : Problem) (j k : ℕ) (e : Extremes) : Type 0 where
  pub lo : e.least.value ≡ (if j == k then pos 0 else lo_in p.spans (class_of p k j))
  pub hi : e.greatest.value ≡ (if j == k then pos 0 else hi_in p.spans (class_of p k j))
  pub order : e.least.value ≤ℤ e.greatest.value
  pub small : AreSmall (10 ^ 13) e

-- each site below n has its extremes in the row
abbrev pub IsRow : ℕ → (ℕ → Extremes → Type 0) → Row → Type 0
IsRow n P row = (k : ℕ) → k < n → P k (extremes_at row k)
