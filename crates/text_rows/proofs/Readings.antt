-- A word is a number, or none.
use Rattle.std.proofs.Common.{◌≡◌, ◌∙◌, sym, ap, refl, subst, ℕ, ℤ, pos, negsuc, neg_ℤ, suc, ◌<◌, ◌≤◌, List, [], ◌∷◌, drop, map, length, eqb, Bool, true, false, Option, None, Some, arith, ◌⊎◌, inl, inr, unsigned_abs}
use Rattle.std.specs.Bool.{Decides}
use Rattle.std.specs.Str.{bytes_eq}
use Rattle.std.specs.Str.Parse.{digits_value}
use Rattle.std.specs.Fmt.{signed_decimal}
use Rattle.std.proofs.lemmas.Bool.{cases_lt}
use Rattle.std.proofs.lemmas.Slice.Eq.{bytes_eq-Decides}
use Rattle.std.proofs.lemmas.Fmt.{decimal_is_IsNumeral}
use Rattle.std.proofs.lemmas.List.Splits.{length-slice_split}
use Rattle.text_rows.specs.Rows.{IsShort, IsNumber, rows, lines, words}

decided : (b : Bool) (P : Type 0) → Decides b P → P ⊎ (P → ⊥)
decided true P tells = inl (tells.0 refl)
decided false P tells = inr (λ p. let both : ◌≡◌ {A = Bool} false true = tells.1 p in absurd (cc))

-- two words are the same, or not
same_word : (v w : List ℕ) → (v ≡ w) ⊎ (v ≡ w → ⊥)
same_word v w = decided (bytes_eq v w) (v ≡ w) (bytes_eq-Decides v w)

-- the word is this number, or not
is_it : (word : List ℕ) (z : ℤ) → ((word ≡ signed_decimal z) × IsShort z) ⊎ (IsShort z → word ≡ signed_decimal z → ⊥)
is_it word z = by (same_word word (signed_decimal z)) (cases_lt (unsigned_abs z) 100000000000000000)
  where
    by : (word ≡ signed_decimal z) ⊎ (word ≡ signed_decimal z → ⊥) → (unsigned_abs z < 100000000000000000) ⊎ (100000000000000000 ≤ unsigned_abs z) → ((word ≡ signed_decimal z) × IsShort z) ⊎ (IsShort z → word ≡ signed_decimal z → ⊥)
    by (inl same) (inl short) = inl (same, short)
    by (inl same) (inr long) = inr (λ short e. absurd (omega (arith, short, long)))
    by (inr other) size = inr (λ short e. other e)

-- the number that a word without a sign would be, and one behind a minus
abbrev plain_value : List ℕ → ℤ
plain_value word = pos (digits_value 10 word)

abbrev minus_value : List ℕ → ℤ
minus_value word = neg_ℤ (pos (digits_value 10 (drop 1 word)))

plain_is : (word : List ℕ) (n : ℕ) → IsShort (pos n) → word ≡ signed_decimal (pos n) → plain_value word ≡ pos n
plain_is word n short e = ap plain_value e ∙ ap pos (decimal_is_IsNumeral n (omega (arith, short))).1

minus_is : (word : List ℕ) (n : ℕ) → IsShort (negsuc n) → word ≡ signed_decimal (negsuc n) → minus_value word ≡ negsuc n
minus_is word n short e = ap minus_value e ∙ ap (λ m. neg_ℤ (pos m)) (decimal_is_IsNumeral (suc n) (omega (arith, short))).1

-- a word that is neither number is none
pub neither : (word : List ℕ) → (IsShort (plain_value word) → word ≡ signed_decimal (plain_value word) → ⊥) → (IsShort (minus_value word) → word ≡ signed_decimal (minus_value word) → ⊥) → (z : ℤ) → IsShort z → word ≡ signed_decimal z → ⊥
neither word plain minus (pos n) short e =
    let same = plain_is word n short e in
    plain (subst IsShort (sym same) short) (e ∙ ap signed_decimal (sym same))
neither word plain minus (negsuc n) short e =
    let same = minus_is word n short e in
    minus (subst IsShort (sym same) short) (e ∙ ap signed_decimal (sym same))

pub number_or_none : (word : List ℕ) → (number : Option ℤ) × IsNumber word number
number_or_none word = by (is_it word (plain_value word)) (is_it word (minus_value word))
  where
    by : ((word ≡ signed_decimal (plain_value word)) × IsShort (plain_value word)) ⊎ (IsShort (plain_value word) → word ≡ signed_decimal (plain_value word) → ⊥) → ((word ≡ signed_decimal (minus_value word)) × IsShort (minus_value word)) ⊎ (IsShort (minus_value word) → word ≡ signed_decimal (minus_value word) → ⊥) → (number : Option ℤ) × IsNumber word number
    by (inl is) other = (Some (plain_value word), is)
    by (inr isnt) (inl is) = (Some (minus_value word), is)
    by (inr isnt) (inr nor) = (None, neither word isnt nor)

some_part : (parts : List (List ℕ)) → 1 ≤ length parts → map words parts ≡ [] → ⊥
some_part [] h e = omega (arith, h)
some_part (part ∷ parts) h e = absurd (cc e)

pub no_text_without_rows : (text : List ℕ) → rows text ≡ [] → ⊥
no_text_without_rows text e = some_part (lines text) (omega (arith, length-slice_split (λ b. eqb b 10) text)) e
