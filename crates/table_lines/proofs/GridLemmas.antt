-- A table of cells, with one more cell filled.
use Rattle.std.proofs.Common.{◌≡◌, ◌≢◌, ◌∙◌, sym, ap, refl, ℕ, ℤ, pos, ◌+◌, ◌*◌, ◌<◌, List, length, true, false, ◌&&◌, cond, Option, None, Some, arith, set, get_or, inl, inr, ◌⊎◌}
use Rattle.std.specs.Option.{option_or}
use Rattle.std.specs.Ordering.{int_eq}
use Rattle.std.proofs.lemmas.Bool.{cases_eq}
use Rattle.std.proofs.lemmas.Int.{ints}
use Rattle.std.proofs.lemmas.Bool.Decides.{nat_tests}
use Rattle.std.proofs.lemmas.List.{get_or-set_same, get_or-set_other}
use Rattle.table_lines.specs.Seen.{cell_at}
use Rattle.table_lines.proofs.KindLemmas.{or_none}

-- two cells at one place are the same
abbrev pub ArePlaces : ℕ → Type 0
ArePlaces w = (i j k l : ℕ) → j < w → l < w → k * w + l ≡ i * w + j → (k ≡ i) × (l ≡ j)

pub places_64 : ArePlaces 64
places_64 i j k l h g e = (omega arith, omega arith)

pub places_8 : ArePlaces 8
places_8 i j k l h g e = (omega arith, omega arith)

same_test : (i j k l : ℕ) → k ≡ i → l ≡ j → (int_eq (pos i) (pos k) && int_eq (pos j) (pos l)) ≡ true
same_test i j k l e f = grind (arith, ints, nat_tests)

other_test : (i j k l : ℕ) → ((k ≡ i) × (l ≡ j) → ⊥) → (int_eq (pos i) (pos k) && int_eq (pos j) (pos l)) ≡ false
other_test i j k l h = grind (arith, ints, nat_tests)

pub filled : (w : ℕ) (cells : List (Option ℤ)) (i j k l : ℕ) (c : ℤ) → ArePlaces w → j < w → l < w → i * w + j < length cells → cell_at w cells i j ≡ None → cell_at w (set cells (i * w + j) (Some c)) k l ≡ option_or (cell_at w cells k l) (cond (int_eq (pos i) (pos k) && int_eq (pos j) (pos l)) (Some c) None)
filled w cells i j k l c places h g within none = by (cases_eq (k * w + l) (i * w + j))
  where
    by : (k * w + l ≡ i * w + j) ⊎ (k * w + l ≢ i * w + j) → cell_at w (set cells (i * w + j) (Some c)) k l ≡ option_or (cell_at w cells k l) (cond (int_eq (pos i) (pos k) && int_eq (pos j) (pos l)) (Some c) None)
    by (inl e) =
        let same = places i j k l h g e in
        let test = same_test i j k l same.0 same.1 in
        let new : cell_at w (set cells (i * w + j) (Some c)) k l ≡ Some c = ap (λ n. get_or (set cells (i * w + j) (Some c)) n None) e ∙ get_or-set_same cells (i * w + j) (Some c) None within in
        let old : cell_at w cells k l ≡ None = ap (λ n. get_or cells n None) e ∙ none in
        new ∙ rw (old, test) refl
    by (inr other) =
        let test = other_test i j k l (λ s. other (ap (λ n. n * w + l) s.0 ∙ ap (λ n. i * w + n) s.1)) in
        let new : cell_at w (set cells (i * w + j) (Some c)) k l ≡ cell_at w cells k l = get_or-set_other cells (i * w + j) (k * w + l) (Some c) None other in
        new ∙ sym (or_none (cell_at w cells k l)) ∙ rw test refl
