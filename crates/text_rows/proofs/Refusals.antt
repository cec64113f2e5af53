-- The definitions refuse wrong words, wrong rows and wrong numbers.
use Rattle.std.proofs.Common.{◌≡◌, refl, ap, pos, negsuc, [], ◌∷◌, ◌++◌, codes, false, None, Some, arith}
use Rattle.std.specs.Fmt.{digits}
use Rattle.text_rows.specs.Rows.{is_word, is_row, IsShort, IsNumber}
use Rattle.text_rows.proofs.StandardFacts.{first_of}

no_space_in_a_word : is_word (codes "a b") ≡ false
no_space_in_a_word = refl

no_line_feed_in_a_word : is_word (codes "a" ++ 10 ∷ []) ≡ false
no_line_feed_in_a_word = refl

no_row_without_words : is_row [] ≡ false
no_row_without_words = refl

no_row_of_other_words : is_row (codes "a" ∷ codes "b c" ∷ []) ≡ false
no_row_of_other_words = refl

no_long_number : IsShort (negsuc 99999999999999999) → ⊥
no_long_number h = omega arith

no_other_number : IsNumber (codes "7") (Some (pos 8)) → ⊥
unfolding digits
no_other_number h = let first : 55 ≡ 56 = ap first_of h.0 in omega (arith, first)

no_other_sign : IsNumber (codes "7") (Some (negsuc 6)) → ⊥
unfolding digits
no_other_sign h = let first : 55 ≡ 45 = ap first_of h.0 in omega (arith, first)

no_number_missed : IsNumber (codes "-7") None → ⊥
unfolding digits
no_number_missed h = h (negsuc 6) (omega arith) refl
