-- The grammar of decimal texts: digits, then nothing, or a point and digits.
use Rattle.std.specs.Prelude.{◌≡◌, ◌⊎◌, ℕ, ◌+◌, ◌<◌, ◌≤◌, List, length, slice_index}

-- the code of the point
abbrev pub point_byte : ℕ
point_byte = 46

-- the code of a decimal digit
pub record IsDigit (byte : ℕ) : Type 0 where
  pub from : 48 ≤ byte
  pub to : byte ≤ 57

-- a point at place w, and one or more digits after it to the end
pub record HasFraction (text : List ℕ) (w : ℕ) : Type 0 where
  pub point : slice_index text w ≡ point_byte
  pub some : w + 1 < length text
  pub digits : (i : ℕ) → w < i → i < length text → IsDigit (slice_index text i)

-- the text is in the grammar, and its whole part has w digits
pub record IsNumeral (text : List ℕ) (w : ℕ) : Type 0 where
  pub some : 0 < w
  pub within : w ≤ length text
  pub whole : (i : ℕ) → i < w → IsDigit (slice_index text i)
  pub rest : (w ≡ length text) ⊎ HasFraction text w

-- some text of the grammar begins with the first n bytes of this one
pub record CanGoOn (text : List ℕ) (n : ℕ) : Type 0 where
  pub full : List ℕ
  pub digits : ℕ
  pub numeral : IsNumeral full digits
  pub long : n ≤ length full
  pub same : (i : ℕ) → i < n → slice_index full i ≡ slice_index text i

-- the first byte after which nothing in the grammar goes on, or the length of a text that ends
-- too early
pub record IsFirstBad (text : List ℕ) (at : ℕ) : Type 0 where
  pub before : CanGoOn text at
  pub here : ((at < length text) × ¬ CanGoOn text (at + 1))
      ⊎ ((at ≡ length text) × ((w : ℕ) → ¬ IsNumeral text w))
