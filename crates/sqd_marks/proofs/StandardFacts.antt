-- marks worked by hand, their bytes and values
use Rattle.std.proofs.Common.{◌≡◌, refl, [], ◌∷◌, true, inl, inr, Some, None}
use Rattle.std.specs.Prelude.{codes}
use Rattle.sqd_marks.specs.Bytes.{is_blank, begins_name, is_in_name, is_in_value, IsSpan}
use Rattle.sqd_marks.specs.Marks.{Attribute, Tag, start, empty, close, comment, declaration, doctype, cdata, IsAttribute, IsTag, IsWellFormedMark, mark_bytes, kind_of_mark}
use Rattle.sqd_marks.specs.Tags.{IsTagOf, attribute_value, IsTail}
use Rattle.sqd_marks.specs.declared.kind.Kind.TheVariants.{Comment}

-- n = '1' behind a space
abbrev pub spaced : Attribute
spaced = record { before = codes " "; name = codes "n"; left = codes " "; right = codes " "; quote = 39; value = codes "1" }

-- m="" behind two spaces
abbrev pub short : Attribute
short = record { before = codes "  "; name = codes "m"; left = []; right = []; quote = 34; value = [] }

-- n="/>" behind a line feed
abbrev pub again : Attribute
again = record { before = 10 ∷ []; name = codes "n"; left = []; right = []; quote = 34; value = codes "/>" }

abbrev pub tag : Tag
tag = record { name = codes "a:1"; attributes = spaced ∷ short ∷ again ∷ []; after = codes " " }

start_bytes : mark_bytes (start tag) ≡ codes "<a:1 n = '1'  m=\"\"\nn=\"/>\" >"
start_bytes = refl

empty_bytes : mark_bytes (empty tag) ≡ codes "<a:1 n = '1'  m=\"\"\nn=\"/>\" />"
empty_bytes = refl

end_bytes : mark_bytes (close (codes "a") (codes " ")) ≡ codes "</a >"
end_bytes = refl

comment_bytes : mark_bytes (comment (codes "->")) ≡ codes "<!--->-->"
comment_bytes = refl

declaration_bytes : mark_bytes (declaration (codes ">")) ≡ codes "<?>?>"
declaration_bytes = refl

doctype_bytes : mark_bytes doctype ≡ codes "<!DOCTYPE"
doctype_bytes = refl

cdata_bytes : mark_bytes cdata ≡ codes "<![CDATA["
cdata_bytes = refl

comment_kind : kind_of_mark (comment []) ≡ Comment
comment_kind = refl

-- the first of two attributes of one name counts
first_value : attribute_value (codes "n") tag.attributes ≡ Some (codes "1")
first_value = refl

empty_value : attribute_value (codes "m") tag.attributes ≡ Some []
empty_value = refl

no_value : attribute_value (codes "l") tag.attributes ≡ None
no_value = refl

spaced_fits : IsAttribute spaced
spaced_fits = record { apart = λ e. cc e; before = (refl, tt); name = (refl, tt); left = (refl, tt); right = (refl, tt); quote = inr refl; value = (refl, tt) }

short_fits : IsAttribute short
short_fits = record { apart = λ e. cc e; before = (refl, (refl, tt)); name = (refl, tt); left = tt; right = tt; quote = inl refl; value = tt }

again_fits : IsAttribute again
again_fits = record { apart = λ e. cc e; before = (refl, tt); name = (refl, tt); left = tt; right = tt; quote = inl refl; value = (refl, (refl, tt)) }

tag_fits : IsTag tag
tag_fits = record { name = (refl, (refl, (refl, tt))); attributes = (spaced_fits, (short_fits, (again_fits, tt))); after = (refl, tt) }

start_fits : IsWellFormedMark (start tag)
start_fits = tag_fits

-- `-->` begins neither at the first `-` nor behind it
comment_fits : IsWellFormedMark (comment (codes "->"))
comment_fits = (refl, (refl, tt))

declaration_fits : IsWellFormedMark (declaration (codes ">"))
declaration_fits = (refl, tt)

tag_of : IsTagOf tag (mark_bytes (empty tag))
tag_of = record { valid = tag_fits; spelled = inr refl }

tail_of : IsTail (short ∷ []) (codes "  m=\"\" />")
tail_of = record { after = codes " "; finish = codes "/>"; valid = (short_fits, tt); blank = (refl, tt); closes = inr refl; is = refl }

-- kinds of bytes
tab_is_blank : is_blank 9 ≡ true
tab_is_blank = refl

high_begins_name : begins_name 128 ≡ true
high_begins_name = refl

colon_begins_name : begins_name 58 ≡ true
colon_begins_name = refl

minus_is_in_name : is_in_name 45 ≡ true
minus_is_in_name = refl

other_quote_is_in_value : is_in_value 34 39 ≡ true
other_quote_is_in_value = refl

span_of_name : IsSpan is_in_name (codes "ab c") (codes "ab") (codes " c")
span_of_name = record { whole = refl; each = (refl, (refl, tt)); stops = refl }
