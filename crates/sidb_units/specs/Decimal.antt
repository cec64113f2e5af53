-- The number that a decimal text is, the fault of any other text, and the text of a number.
use Rattle.std.specs.Prelude.{◌≡◌, ◌⊎◌, ℕ, ℤ, pos, zero, suc, ◌+◌, ◌-◌, ◌*◌, ◌/◌, ◌%◌, ◌^◌, ◌<◌, ◌≤◌, ◌<ℤ◌, ◌≤ℤ◌, List, [], ◌∷◌, ◌++◌, decimal, length, take, drop}
use Rattle.std.specs.Str.Parse.{digits_value}
use Rattle.sidb_units.specs.declared.decimal_fault.DecFault.{DecFault}
use Rattle.sidb_units.specs.declared.decimal_fault.DecFault.TheVariants.{Empty, BadByte, TooManyPlaces, OutOfRange}
use Rattle.sidb_units.specs.Numeral.{IsNumeral, IsFirstBad, point_byte}

-- how many digits stand after the point, where the whole part has w digits
abbrev pub places_after_point : List ℕ → ℕ → ℕ
places_after_point text w = length text - w - 1

-- one more digit at the end of a number, as a reader goes on
abbrev pub next_digit : ℕ → ℕ → ℕ
next_digit n byte = n * 10 + (byte - 48)

-- the digits of a numeral, without its point
abbrev pub digits_of : List ℕ → ℕ → List ℕ
digits_of text w = take w text ++ drop (w + 1) text

-- the number times 10 ^ places, where the whole part has w digits
abbrev pub decimal_value : List ℕ → ℕ → ℕ → ℕ
decimal_value text w places = digits_value 10 (digits_of text w) * 10 ^
    (places - places_after_point text w)

-- a numeral with at most `places` digits after its point, whose number times 10 ^ places is v,
-- from least to greatest
pub record IsReadAs (text : List ℕ) (places : ℕ) (least greatest v : ℤ) : Type 0 where
  pub digits : ℕ
  pub numeral : IsNumeral text digits
  pub few : places_after_point text digits ≤ places
  pub value : v ≡ pos (decimal_value text digits places)
  pub from : least ≤ℤ v
  pub to : v ≤ℤ greatest

-- a numeral with more than `places` digits after its point
pub record HasTooMany (text : List ℕ) (places : ℕ) : Type 0 where
  pub digits : ℕ
  pub numeral : IsNumeral text digits
  pub many : places < places_after_point text digits

-- a numeral with few enough digits, whose number times 10 ^ places is outside the range
pub record IsOutside (text : List ℕ) (places : ℕ) (least greatest : ℤ) : Type 0 where
  pub digits : ℕ
  pub numeral : IsNumeral text digits
  pub few : places_after_point text digits ≤ places
  pub outside : (pos (decimal_value text digits places) <ℤ least)
      ⊎ (greatest <ℤ pos (decimal_value text digits places))

-- the faults of a text that is not in the grammar
abbrev pub IsBadForm : List ℕ → DecFault → Type 0
IsBadForm text Empty = text ≡ []
IsBadForm text (BadByte at) = (0 < length text) × IsFirstBad text at
IsBadForm text TooManyPlaces = ⊥
IsBadForm text OutOfRange = ⊥

-- the one fault of a text that is not read
abbrev pub HasDecimalFault : List ℕ → ℕ → ℤ → ℤ → DecFault → Type 0
HasDecimalFault text places least greatest Empty = IsBadForm text Empty
HasDecimalFault text places least greatest (BadByte at) = IsBadForm text (BadByte at)
HasDecimalFault text places least greatest TooManyPlaces = HasTooMany text places
HasDecimalFault text places least greatest OutOfRange = IsOutside text places least greatest

-- the k last digits of a number, the first of them first
unfoldable pub last_digits : ℕ → ℕ → List ℕ
last_digits zero n = []
last_digits (suc k) n = (48 + n / 10 ^ k % 10) ∷ last_digits k n

-- the text of a number over 10 ^ places: the whole part, and a point and `places` digits
abbrev pub decimal_text : ℕ → ℕ → List ℕ
decimal_text zero n = decimal n
decimal_text (suc k) n = decimal (n / 10 ^ suc k) ++ point_byte ∷ last_digits (suc k) n
