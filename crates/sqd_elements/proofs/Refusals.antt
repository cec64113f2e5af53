-- what is no number and no site
use Rattle.std.proofs.Common.{◌≡◌, refl, [], ◌∷◌, None}
use Rattle.std.specs.Prelude.{codes}
use Rattle.sqd_elements.specs.Numbers.{number_in}
use Rattle.sqd_elements.specs.Sites.{site_in, site_inside}
use Rattle.sqd_elements.proofs.StandardFacts.{plain, attribute, latcoord}

-- no numbers
plus : number_in (codes "+1") ≡ None
plus = refl

ten_digits : number_in (codes "1234567890") ≡ None
ten_digits = refl

minus_alone : number_in (codes "-") ≡ None
minus_alone = refl

a_blank : number_in (codes " 1") ≡ None
a_blank = refl

nothing : number_in [] ≡ None
nothing = refl

-- no sites: a number is missing, or the first of two is none
two_numbers : site_in (record { name = codes "latcoord"; attributes = attribute (codes "n") (codes "1") ∷ attribute (codes "m") (codes "1") ∷ []; after = [] }) ≡ None
two_numbers = refl

first_is_none : site_in (record {
  name = codes "latcoord";
  attributes = attribute (codes "n") (codes "x") ∷ attribute (codes "n") (codes "1") ∷ attribute (codes "m") (codes "1") ∷ attribute (codes "l") (codes "1") ∷ [];
  after = [];
}) ≡ None
first_is_none = refl

-- dots without a site: no coordinates, coordinates twice, a dot inside
no_coordinates : site_inside (plain (codes "color") ∷ []) ≡ None
no_coordinates = refl

two_coordinates : site_inside (latcoord ∷ latcoord ∷ []) ≡ None
two_coordinates = refl

a_dot_inside : site_inside (latcoord ∷ plain (codes "dbdot") ∷ []) ≡ None
a_dot_inside = refl
