-- numbers, sites and elements worked by hand
use Rattle.std.proofs.Common.{◌≡◌, refl, ℕ, pos, negsuc, List, [], ◌∷◌, Some}
use Rattle.std.specs.Prelude.{codes}
use Rattle.sidb_layout.specs.declared.site.Site.{Site}
use Rattle.sqd_marks.specs.Marks.{TextMark, start, empty, close, comment, Tag, Attribute}
use Rattle.sqd_nesting.specs.Texts.{Item}
use Rattle.sqd_elements.specs.declared.kept.Sort.TheVariants as sorts
use Rattle.sqd_elements.specs.Numbers.{number_in}
use Rattle.sqd_elements.specs.Sites.{site_in, site_inside}
use Rattle.sqd_elements.specs.Elements.{Element, elements}
use Rattle.sqd_elements.specs.Kept.{sort_in}

-- numbers
leading_zeros : number_in (codes "007") ≡ Some (pos 7)
leading_zeros = refl

below_zero : number_in (codes "-000000012") ≡ Some (negsuc 11)
below_zero = refl

minus_zero : number_in (codes "-0") ≡ Some (pos 0)
minus_zero = refl

-- a tag without attributes, and one with three, of which the first comes again
abbrev pub plain : List ℕ → Tag
plain name = record { name = name; attributes = []; after = [] }

abbrev pub attribute : List ℕ → List ℕ → Attribute
attribute name value = record { before = 32 ∷ []; name = name; left = []; right = []; quote = 34; value = value }

abbrev pub latcoord : Tag
latcoord = record {
  name = codes "latcoord";
  attributes = attribute (codes "n") (codes "1") ∷ attribute (codes "l") (codes "0") ∷ attribute (codes "n") (codes "x") ∷ attribute (codes "m") (codes "-2") ∷ [];
  after = [];
}

abbrev site : Site
site = record { n = pos 1; m = negsuc 1; l = pos 0 }

its_site : site_in latcoord ≡ Some site
its_site = refl

site_of_a_dot : site_inside (plain (codes "color") ∷ latcoord ∷ []) ≡ Some site
site_of_a_dot = refl

-- sorts
a_dot : sort_in (plain (codes "dbdot")) ≡ sorts.Dot
a_dot = refl

coordinates : sort_in latcoord ≡ sorts.Latcoord (Some site)
coordinates = refl

any_other : sort_in (plain (codes "Dbdot")) ≡ sorts.Other
any_other = refl

-- the elements of `<a><b>x<c/></b><!--<d/>--></a>`, the first byte of which has the number 3
abbrev item : List ℕ → TextMark → Item
item text mark = record { text = text; mark = mark }

abbrev element : ℕ → List (List ℕ) → List ℕ → List Tag → Element
element at around name inside = record { at = at; around = around; tag = plain name; inside = inside }

abbrev some_items : List Item
some_items = item [] (start (plain (codes "a")))
    ∷ item [] (start (plain (codes "b")))
    ∷ item (codes "x") (empty (plain (codes "c")))
    ∷ item [] (close (codes "b") [])
    ∷ item [] (comment (codes "<d/>"))
    ∷ item [] (close (codes "a") [])
    ∷ []

their_elements : elements 3 [] some_items ≡ element 3 [] (codes "a") (plain (codes "b") ∷ plain (codes "c") ∷ [])
    ∷ element 6 (codes "a" ∷ []) (codes "b") (plain (codes "c") ∷ [])
    ∷ element 10 (codes "b" ∷ codes "a" ∷ []) (codes "c") []
    ∷ []
their_elements = refl
