-- the whole numbers that layout texts give
use Rattle.std.specs.Prelude.{ℕ, ◌==◌, nat_lt, ℤ, pos, neg_ℤ, Bool, ◌&&◌, cond, List, [], ◌∷◌, length, Option, None, Some, option_map}
use Rattle.std.specs.Char.{is_ascii_digit}
use Rattle.std.specs.List.{list_all}
use Rattle.std.specs.Str.Parse.{digits_value}

-- whether these are one to nine digits
abbrev pub are_digits : List ℕ → Bool
are_digits bytes =
    list_all is_ascii_digit bytes && nat_lt 0 (length bytes) && nat_lt (length bytes) 10

-- the number that one to nine digits are
abbrev pub magnitude_in : List ℕ → Option ℕ
magnitude_in bytes = cond (are_digits bytes) (Some (digits_value 10 bytes)) None

-- the whole number that bytes are: an optional `-` and one to nine digits
abbrev pub number_in : List ℕ → Option ℤ
number_in [] = None
number_in (b ∷ bytes) = cond (b == 45)
    (option_map (λ n. neg_ℤ (pos n)) (magnitude_in bytes))
    (option_map pos (magnitude_in (b ∷ bytes)))
