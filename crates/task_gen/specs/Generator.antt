-- the sites that a number generates
use Rattle.std.specs.Prelude.{ℕ, zero, suc, pos, ◌+◌, ◌*◌, ◌/◌, ◌%◌, ◌^◌, List, [], ◌∷◌}
use Rattle.sidb_layout.specs.declared.site.Site.{Site}

-- the state behind a state
unfoldable pub next_state : ℕ → ℕ
next_state s = (s * 6364136223846793005 + 1442695040888963407) % 2 ^ 64

-- what is drawn where a state is reached: its upper 31 bits
abbrev pub drawn : ℕ → ℕ
drawn s = s / 2 ^ 33

-- the state behind the three draws of a site
abbrev pub state_after : ℕ → ℕ
state_after s = next_state (next_state (next_state s))

-- the column behind a column, by the first draw: 4 to 11 further
abbrev pub column_after : ℕ → ℕ → ℕ
column_after s column = column + (drawn (next_state s) % 8 + 4)

-- the site of three draws: its column by the first, its row by the second, its atom by the third
abbrev pub site_by : ℕ → ℕ → Site
site_by s column = record {
  n = pos (column_after s column);
  m = pos (drawn (next_state (next_state s)) % 3);
  l = pos (drawn (state_after s) % 2);
}

-- so many sites, from a state and behind a column
abbrev pub generated : ℕ → ℕ → ℕ → List Site
generated zero s column = []
generated (suc count) s column =
    site_by s column ∷ generated count (state_after s) (column_after s column)

-- the sites that a number generates
abbrev pub sites_for_number : ℕ → ℕ → List Site
sites_for_number number count = generated count number 0
