-- What digits write.
use Rattle.std.proofs.Common.{◌≡◌, ◌∙◌, ℕ, suc, ◌+◌, ◌-◌, ◌*◌, ◌<◌, List, [], ◌∷◌, length, take, drop, fold, get_or, slice_index, refl, sym, ap, subst, arith, length-append, length-drop, inl, inr}
use Rattle.std.proofs.lemmas.List.{get_or-take, get_or-drop, get_or_append_left, get_or-append_right, length-take-le}
use Rattle.std.proofs.lemmas.Bool.{cases_lt}
use Rattle.std.proofs.lemmas.Str.{digit_value_digit}
use Rattle.std.specs.Char.{digit_value}
use Rattle.std.specs.Str.Parse.{digits_value_after}
use Rattle.sidb_units.specs.Numeral.{IsDigit, IsNumeral}
use Rattle.sidb_units.specs.Decimal.{digits_of, next_digit}

-- each of these bytes is a digit
abbrev pub AreDigits : List ℕ → Type 0
AreDigits bytes = (i : ℕ) → i < length bytes → IsDigit (slice_index bytes i)

pub digit_is : (byte : ℕ) → IsDigit byte → digit_value byte ≡ byte - 48
digit_is byte digit = omega (arith, digit_value_digit byte (digit.from, digit.to))

-- reading byte by byte gives what the digits write
pub fold_is : (bytes : List ℕ) (n : ℕ) → AreDigits bytes → fold next_digit n bytes ≡ digits_value_after 10 n bytes
fold_is [] n digits = refl
fold_is (b ∷ bytes) n digits =
    let same : next_digit n b ≡ n * 10 + digit_value b = ap (λ (d : ℕ). n * 10 + d) (sym (digit_is b (digits 0 (omega arith)))) in
    ap (λ (m : ℕ). fold next_digit m bytes) same ∙ fold_is bytes (n * 10 + digit_value b) (λ i h. digits (suc i) (omega arith))

-- a numeral without its point has digits alone
pub only_digits : (text : List ℕ) (w : ℕ) → IsNumeral text w → AreDigits (digits_of text w)
only_digits text w numeral i below =
    let len : length (take w text) ≡ w = length-take-le w text numeral.within in
    let all : length (digits_of text w) ≡ w + (length text - (w + 1)) = length-append (take w text) (drop (w + 1) text) ∙ ap (λ (n : ℕ). n + length (drop (w + 1) text)) len ∙ ap (λ (n : ℕ). w + n) (length-drop (w + 1) text) in
    elim (cases_lt i w) [
      | inl lt ↦
          let front : get_or (digits_of text w) i 0 ≡ get_or text i 0 = get_or_append_left (take w text) (drop (w + 1) text) 0 i (omega arith) ∙ get_or-take w text i 0 lt in
          subst IsDigit (sym front) (numeral.whole i lt)
      | inr ge ↦
          let rest : get_or (digits_of text w) i 0 ≡ get_or text (w + 1 + (i - w)) 0 = get_or-append_right (take w text) (drop (w + 1) text) w i 0 len ge ∙ get_or-drop (w + 1) text (i - w) 0 in
          elim numeral.rest [
            | inl end ↦ absurd (omega arith)
            | inr fraction ↦ subst IsDigit (sym rest) (fraction.digits (w + 1 + (i - w)) (omega arith) (omega arith))
          ]
    ]
