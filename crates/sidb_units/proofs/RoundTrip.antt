-- A number that is printed is read back.
use Rattle.std.proofs.Common.{◌≡◌, ◌∙◌, ℕ, ℤ, pos, zero, suc, ◌+◌, ◌-◌, ◌*◌, ◌/◌, ◌%◌, ◌^◌, ◌<◌, ◌≤ℤ◌, List, [], ◌∷◌, ◌++◌, decimal, length, drop, get_or, refl, sym, ap, subst, arith, length-append, append-nil, inl, inr}
use Rattle.std.proofs.lemmas.List.{get_or_append_left, get_or-append_right, get_or_at, take_at, take_all, drop_all}
use Rattle.std.proofs.lemmas.Fmt.{decimal_is_IsNumeral}
use Rattle.std.proofs.lemmas.Str.{digit_value_digit}
use Rattle.std.proofs.lemmas.Str.Parse.{digit_from_value}
use Rattle.std.proofs.lemmas.Nat.{mod_below}
use Rattle.std.proofs.Math.Nat.{pow-suc, div-div-eq-div-mul}
use Rattle.std.proofs.Math.Seq.{drop-append-add}
use Rattle.std.specs.Char.{digit_value}
use Rattle.std.specs.Str.Parse.{AllDigits, digits_value, digits_value_after}
use Rattle.sidb_units.specs.Numeral.{IsDigit, IsNumeral}
use Rattle.sidb_units.specs.Decimal.{IsReadAs, decimal_text, digits_of, last_digits, places_after_point, decimal_value}
use Rattle.sidb_units.proofs.DigitLemmas.{AreDigits}

after_append : (n : ℕ) (xs ys : List ℕ) → digits_value_after 10 n (xs ++ ys) ≡ digits_value_after 10 (digits_value_after 10 n xs) ys
after_append n [] ys = refl
after_append n (x ∷ xs) ys = after_append (n * 10 + digit_value x) xs ys

all_digits : (bytes : List ℕ) → AllDigits 10 bytes → AreDigits bytes
all_digits [] all i below = absurd (omega arith)
all_digits (b ∷ bytes) all zero below = let digit = digit_from_value b all.0 in record { from = digit.0; to = digit.1 }
all_digits (b ∷ bytes) all (suc i) below = all_digits bytes all.1 i (omega arith)

-- the digit of a number below 10
digit_below : (d : ℕ) → d < 10 → IsDigit (48 + d)
digit_below d small = record { from = omega arith; to = omega arith }

last_digits_are_digits : (k n : ℕ) → AreDigits (last_digits k n)
unfolding last_digits
last_digits_are_digits zero n i below = absurd (omega arith)
last_digits_are_digits (suc k) n zero below = digit_below (n / 10 ^ k % 10) (mod_below (n / 10 ^ k) 10 (omega arith))
last_digits_are_digits (suc k) n (suc i) below = last_digits_are_digits k n i (omega arith)

length-last_digits : (k n : ℕ) → length (last_digits k n) ≡ k
unfolding last_digits
length-last_digits zero n = refl
length-last_digits (suc k) n = let more = length-last_digits k n in omega arith

-- the front of a number, and then its last digits, write the number
last_digits_write : (k n : ℕ) → digits_value_after 10 (n / 10 ^ k) (last_digits k n) ≡ n
unfolding last_digits
last_digits_write zero n = omega arith
last_digits_write (suc k) n =
    let front : ℕ = n / 10 ^ k in
    let less : n / 10 ^ suc k ≡ front / 10 = ap (λ (d : ℕ). n / d) (pow-suc 10 k) ∙ sym (div-div-eq-div-mul n (10 ^ k) 10) in
    let small : front % 10 < 10 = mod_below front 10 (omega arith) in
    let digit : digit_value (48 + front % 10) + 48 ≡ 48 + front % 10 = digit_value_digit (48 + front % 10) (omega arith, omega arith) in
    let joined : n / 10 ^ suc k * 10 + digit_value (48 + front % 10) ≡ front = omega arith in
    ap (λ (q : ℕ). digits_value_after 10 q (last_digits k n)) joined ∙ last_digits_write k n

-- digits, a point and digits are a numeral
with_point : (front back : List ℕ) → AreDigits front → 0 < length front → AreDigits back → 0 < length back → IsNumeral (front ++ 46 ∷ back) (length front)
with_point front back whole some fraction more =
    let text : List ℕ = front ++ 46 ∷ back in
    let len : length text ≡ length front + length (46 ∷ back) = length-append front (46 ∷ back) in
    record {
      some = some;
      within = omega arith;
      whole = λ i below. subst IsDigit (sym (get_or_append_left front (46 ∷ back) 0 i below)) (whole i below);
      rest = inr (record {
        point = get_or_at front 46 back 0 (length front) refl;
        some = omega arith;
        digits = λ i above below.
            let place : ℕ = i - length front - 1 in
            let next : i - length front ≡ suc place = omega arith in
            let at : get_or text i 0 ≡ get_or (46 ∷ back) (i - length front) 0 = get_or-append_right front (46 ∷ back) (length front) i 0 refl (omega arith) in
            subst IsDigit (sym (at ∙ ap (λ (j : ℕ). get_or (46 ∷ back) j 0) next)) (fraction place (omega arith));
      });
    }

-- the digits of such a numeral
digits_around : (front back : List ℕ) → digits_of (front ++ 46 ∷ back) (length front) ≡ front ++ back
digits_around front back =
    ap (λ (xs : List ℕ). xs ++ drop (length front + 1) (front ++ 46 ∷ back)) (take_at front (46 ∷ back) (length front) refl)
    ∙ ap (λ (xs : List ℕ). front ++ xs) (drop-append-add front (46 ∷ back) 1)

-- with all places given, the number is what the digits write
whole_value : (text : List ℕ) (w places n : ℕ) → places ≡ places_after_point text w → digits_value 10 (digits_of text w) ≡ n → n ≡ decimal_value text w places
whole_value text w places n same write =
    let none : places - places_after_point text w ≡ 0 = omega arith in
    let one : 10 ^ (places - places_after_point text w) ≡ 1 = ap (λ (k : ℕ). 10 ^ k) none in
    sym (ap (λ (m : ℕ). digits_value 10 (digits_of text w) * m) one ∙ (omega arith))

pub reads_back : (n places : ℕ) (least greatest : ℤ) → n < 2 ^ 64 → least ≤ℤ pos n → pos n ≤ℤ greatest → IsReadAs (decimal_text places n) places least greatest (pos n)
reads_back n zero least greatest small from to =
    let text : List ℕ = decimal n in
    let printed = decimal_is_IsNumeral n small in
    let w : ℕ = length text in
    let none : places_after_point text w ≡ 0 = omega arith in
    let digits : digits_of text w ≡ text = ap (λ (xs : List ℕ). xs ++ drop (w + 1) text) (take_all w text (omega arith)) ∙ ap (λ (xs : List ℕ). text ++ xs) (drop_all (w + 1) text (omega arith)) ∙ append-nil text in
    record {
      digits = w;
      numeral = record { some = printed.0.0; within = omega arith; whole = all_digits text printed.0.1; rest = inl refl };
      few = omega arith;
      value = ap pos (whole_value text w 0 n (sym none) (ap (digits_value 10) digits ∙ printed.1));
      from = from;
      to = to;
    }
reads_back n (suc k) least greatest small from to =
    let q : ℕ = n / 10 ^ suc k in
    let front : List ℕ = decimal q in
    let back : List ℕ = last_digits (suc k) n in
    let text : List ℕ = front ++ 46 ∷ back in
    let printed = decimal_is_IsNumeral q (omega arith) in
    let long : length back ≡ suc k = length-last_digits (suc k) n in
    let len : length text ≡ length front + length (46 ∷ back) = length-append front (46 ∷ back) in
    let places : suc k ≡ places_after_point text (length front) = omega arith in
    let write : digits_value 10 (digits_of text (length front)) ≡ n = ap (digits_value 10) (digits_around front back) ∙ after_append 0 front back ∙ ap (λ (m : ℕ). digits_value_after 10 m back) printed.1 ∙ last_digits_write (suc k) n in
    record {
      digits = length front;
      numeral = with_point front back (all_digits front printed.0.1) printed.0.0 (last_digits_are_digits (suc k) n) (omega arith);
      few = omega arith;
      value = ap pos (whole_value text (length front) (suc k) n places write);
      from = from;
      to = to;
    }
