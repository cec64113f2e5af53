-- what is no dot, no design layer, no root and not skipped
use Rattle.std.proofs.Common.{◌≡◌, refl, ℕ, List, [], ◌∷◌, false, None}
use Rattle.std.specs.Prelude.{codes}
use Rattle.sqd_marks.specs.Marks.{Tag}
use Rattle.sqd_elements.specs.Elements.{Element, element_at}
use Rattle.sqd_dots.specs.Dots.{dot_of, is_bad, is_siqad, is_layer, is_skipped}
use Rattle.sqd_dots.proofs.StandardFacts.{plain, latcoord}

-- no root
no_element : is_siqad [] ≡ false
no_element = refl

other_name : is_siqad (element_at 0 [] (plain (codes "Siqad")) [] ∷ element_at 9 [] (plain (codes "siqad")) [] ∷ []) ≡ false
other_name = refl

-- no design layers: a level too deep, the names exchanged, outside the root
too_deep : is_layer (codes "layer" ∷ codes "design" ∷ codes "any" ∷ codes "siqad" ∷ []) ≡ false
too_deep = refl

exchanged : is_layer (codes "design" ∷ codes "layer" ∷ codes "siqad" ∷ []) ≡ false
exchanged = refl

no_root : is_layer (codes "layer" ∷ codes "design" ∷ []) ≡ false
no_root = refl

-- no dots with a site
abbrev in_layer : List ℕ → List Tag → Element
in_layer name inside = element_at 7 (codes "layer" ∷ codes "design" ∷ codes "siqad" ∷ []) (plain name) inside

other_element : dot_of (in_layer (codes "dot") (latcoord ∷ [])) ≡ None
other_element = refl

dot_inside : dot_of (in_layer (codes "dbdot") (latcoord ∷ plain (codes "dbdot") ∷ [])) ≡ None
dot_inside = refl

-- no bad dot
good : is_bad (in_layer (codes "dbdot") (latcoord ∷ [])) ≡ false
good = refl

-- not skipped: a dot, an element that holds one, an element outside a layer
a_dot : is_skipped (in_layer (codes "dbdot") []) ≡ false
a_dot = refl

holds_a_dot : is_skipped (in_layer (codes "x") (plain (codes "y") ∷ plain (codes "dbdot") ∷ [])) ≡ false
holds_a_dot = refl

outside : is_skipped (element_at 7 (codes "siqad" ∷ []) (plain (codes "x")) []) ≡ false
outside = refl
