-- each definition refuses a wrong value
use Rattle.std.proofs.Common.{◌≡◌, refl, ℕ, List, [], ◌∷◌, false, inl, inr}
use Rattle.std.specs.Prelude.{codes}
use Rattle.std.proofs.lemmas.Bool.{eqb-false}
use Rattle.sqd_marks.specs.Bytes.{is_blank, begins_name, is_in_name, is_in_value, IsName, IsSpan}
use Rattle.sqd_marks.specs.Marks.{IsAttribute, IsTag, IsWellFormedMark, close, comment, declaration, mark_bytes}
use Rattle.sqd_marks.specs.Tags.{IsTagOf}
use Rattle.sqd_marks.proofs.StandardFacts.{spaced, tag}

-- names
no_empty_name : IsName [] → ⊥
no_empty_name h = h

no_digit_first : IsName (codes "1a") → ⊥
no_digit_first h = cc h.0

no_minus_first : IsName (codes "-a") → ⊥
no_minus_first h = cc h.0

no_blank_in_name : IsName (codes "a b") → ⊥
no_blank_in_name h = cc h.1.0

slash_is_not_in_name : is_in_name 47 ≡ false
slash_is_not_in_name = refl

del_is_not_in_name : is_in_name 127 ≡ false
del_is_not_in_name = refl

form_feed_is_not_blank : is_blank 12 ≡ false
form_feed_is_not_blank = refl

digit_begins_no_name : begins_name 48 ≡ false
digit_begins_no_name = refl

less_is_not_in_value : is_in_value 34 60 ≡ false
less_is_not_in_value = refl

quote_is_not_in_value : is_in_value 34 34 ≡ false
quote_is_not_in_value = refl

-- attributes
not_apart : IsAttribute (record spaced { before = [] }) → ⊥
not_apart h = h.apart refl

apart_by_letter : IsAttribute (record spaced { before = codes "x" }) → ⊥
apart_by_letter h = cc h.before.0

nameless : IsAttribute (record spaced { name = [] }) → ⊥
nameless h = h.name

letter_before_equals : IsAttribute (record spaced { left = codes "x" }) → ⊥
letter_before_equals h = cc h.left.0

letter_before_value : IsAttribute (record spaced { right = codes "x" }) → ⊥
letter_before_value h = cc h.right.0

unquoted : IsAttribute (record spaced { quote = 49 }) → ⊥
unquoted h = elim h.quote [
  | inl e ↦ cc e
  | inr e ↦ cc e
]

quote_inside : IsAttribute (record spaced { value = codes "1'" }) → ⊥
quote_inside h = cc h.value.1.0

-- tags and marks
letter_after : IsTag (record tag { after = codes "x" }) → ⊥
letter_after h = cc h.after.0

end_with_attribute : IsWellFormedMark (close (codes "a") (codes " b")) → ⊥
end_with_attribute h = cc h.1.1.0

comment_ends_inside : IsWellFormedMark (comment (codes "a-->")) → ⊥
comment_ends_inside h = cc h.1.0

declaration_ends_inside : IsWellFormedMark (declaration (codes "?>")) → ⊥
declaration_ends_inside h = cc h.0

second : (a b : ℕ) (x y : List ℕ) → 60 ∷ a ∷ x ≡ 60 ∷ b ∷ y → a ≡ b
second a b x y e = cc e

other_bytes : IsTagOf tag (mark_bytes (close (codes "a") [])) → ⊥
other_bytes h = elim h.spelled [
  | inl e ↦ eqb-false 97 47 refl (second 97 47 _ _ e)
  | inr e ↦ eqb-false 97 47 refl (second 97 47 _ _ e)
]

name_cut_short : IsSpan is_in_name (codes "ab") (codes "a") (codes "b") → ⊥
name_cut_short h = cc h.stops

name_cut_late : IsSpan is_in_name (codes "a b") (codes "a b") [] → ⊥
name_cut_late h = cc h.each.1.0
