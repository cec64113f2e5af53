-- the words of a line of a sites text
use Rattle.std.specs.Prelude.{ℕ, ◌==◌, Bool, not, ◌||◌, List, length, filter}
use Rattle.std.specs.List.{slice_split}

-- whether the byte is a space or a tab
abbrev pub is_gap : ℕ → Bool
is_gap b = b == 32 || b == 9

-- the words of a line: what stands between its spaces and tabs
abbrev pub sites_words : List ℕ → List (List ℕ)
sites_words line = filter (λ w. not (length w == 0)) (slice_split is_gap line)
