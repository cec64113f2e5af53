-- digits and their value
use Rattle.std.proofs.Common.{◌≡◌, ◌∙◌, ap, refl, ℕ, zero, suc, ◌+◌, ◌-◌, ◌*◌, ◌<◌, ◌≤◌, List, [], ◌∷◌, length, take, get_or, Bool, true, false, ◌&&◌, arith, rules}
use Rattle.std.specs.Char.{is_ascii_digit, digit_value}
use Rattle.std.specs.List.{list_all}
use Rattle.std.specs.Str.Parse.{digits_value}
use Rattle.std.proofs.lemmas.Bool.Decides.{nat_tests}
use Rattle.std.proofs.lemmas.List.{length-take}
use Rattle.std.proofs.lemmas.Str.Parse.{IsDigitsTest, IsNumeralModel, numerals_by_value, digits_value_short}
use Rattle.std.proofs.lemmas.Int.Digits.{digits_value_more}

-- whether all are digits
abbrev pub are : List ℕ → Bool
are ds = list_all is_ascii_digit ds

first_is : (d : ℕ) (ds : List ℕ) → are (d ∷ ds) ≡ true → is_ascii_digit d ≡ true
first_is d ds h = grind (arith, nat_tests)

rest_are : (d : ℕ) (ds : List ℕ) → are (d ∷ ds) ≡ true → are ds ≡ true
rest_are d ds h = by (is_ascii_digit d) h
  where
    by : (b : Bool) → (b && are ds) ≡ true → are ds ≡ true
    by true h = h
    by false h = absurd (cc h)

digit_small : (d : ℕ) → is_ascii_digit d ≡ true → digit_value d < 10
digit_small d h = grind (arith, nat_tests)

digit_is : (d : ℕ) → is_ascii_digit d ≡ true → digit_value d ≡ d - 48
digit_is d h = grind (arith, nat_tests)

pub digit_from : (d : ℕ) → is_ascii_digit d ≡ true → 48 ≤ d
digit_from d h = grind (arith, nat_tests)

pub digit_to : (d : ℕ) → is_ascii_digit d ≡ true → d ≤ 57
digit_to d h = grind (arith, nat_tests)

-- each of them is a digit
pub digit_at : (ds : List ℕ) (i : ℕ) → are ds ≡ true → i < length ds → is_ascii_digit (get_or ds i 0) ≡ true
digit_at [] i h l = absurd (omega arith)
digit_at (d ∷ ds) zero h l = first_is d ds h
digit_at (d ∷ ds) (suc i) h l = digit_at ds i (rest_are d ds h) (omega arith)

front_are : (ds : List ℕ) (i : ℕ) → are ds ≡ true → are (take i ds) ≡ true
front_are [] zero h = refl
front_are [] (suc i) h = refl
front_are (d ∷ ds) zero h = refl
front_are (d ∷ ds) (suc i) h = ap (λ b. b && are (take i ds)) (first_is d ds h) ∙ front_are ds i (rest_are d ds h)

-- in std's words
test_digits : IsDigitsTest (λ ds. are ds ≡ true)
test_digits = search rules

own : IsNumeralModel (λ ds. are ds ≡ true) (digits_value 10)
own = numerals_by_value _ test_digits

-- the number of less than nine digits
pub front_small : (ds : List ℕ) (i : ℕ) → are ds ≡ true → i < 9 → digits_value 10 (take i ds) < 100000000
front_small ds i h l = digits_value_short own (take i ds) 8 (front_are ds i h) (simp length-take (omega arith))

-- one digit more
pub one_more : (ds : List ℕ) (i : ℕ) → are ds ≡ true → i < length ds → digits_value 10 (take (i + 1) ds) ≡ digits_value 10 (take i ds) * 10 + (get_or ds i 0 - 48)
one_more ds i h l = digits_value_more 10 ds i l ∙ ap (λ v. digits_value 10 (take i ds) * 10 + v) (digit_is _ (digit_at ds i h l))
