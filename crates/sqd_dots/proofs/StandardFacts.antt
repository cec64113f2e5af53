-- drawings worked by hand
use Rattle.std.proofs.Common.{◌≡◌, refl, ℕ, pos, List, [], ◌∷◌, true}
use Rattle.std.specs.Prelude.{codes}
use Rattle.sqd_marks.specs.Marks.{TextMark, start, empty, close, Tag, Attribute}
use Rattle.sqd_nesting.specs.Texts.{Item, IsWhole}
use Rattle.sqd_elements.specs.Elements.{Element, element_at, elements}
use Rattle.sqd_dots.specs.declared.drawing.Dot.{Dot}
use Rattle.sqd_dots.specs.Dots.{dots_of, bad_places, is_siqad, is_layer, skipped_of}
use Rattle.sqd_dots.specs.Drawings.{IsDrawing}

-- a tag without attributes, and one of lattice coordinates
abbrev pub plain : List ℕ → Tag
plain name = record { name = name; attributes = []; after = [] }

abbrev attribute : List ℕ → List ℕ → Attribute
attribute name value = record { before = 32 ∷ []; name = name; left = []; right = []; quote = 34; value = value }

abbrev pub latcoord : Tag
latcoord = record {
  name = codes "latcoord";
  attributes = attribute (codes "n") (codes "1") ∷ attribute (codes "m") (codes "0") ∷ attribute (codes "l") (codes "0") ∷ [];
  after = [];
}

abbrev item : TextMark → Item
item mark = record { text = []; mark = mark }

abbrev opens : List ℕ → Item
opens name = item (start (plain name))

abbrev closes : List ℕ → Item
closes name = item (close name [])

-- `<siqad><design><layer><x/><y><dbdot><latcoord n="1" m="0" l="0"/></dbdot></y><dbdot></dbdot></layer></design></siqad>`
abbrev their_elements : List Element
their_elements = elements 0 []
    (opens (codes "siqad") ∷ opens (codes "design") ∷ opens (codes "layer") ∷ item (empty (plain (codes "x"))) ∷ opens (codes "y") ∷ opens (codes "dbdot")
    ∷ item (empty latcoord) ∷ closes (codes "dbdot") ∷ closes (codes "y") ∷ opens (codes "dbdot") ∷ closes (codes "dbdot") ∷ closes (codes "layer")
    ∷ closes (codes "design") ∷ closes (codes "siqad") ∷ [])

a_root : is_siqad their_elements ≡ true
a_root = refl

a_layer : is_layer (codes "layer" ∷ codes "design" ∷ codes "any" ∷ []) ≡ true
a_layer = refl

one_skipped : skipped_of their_elements ≡ 1
one_skipped = refl

abbrev a_dot : Dot
a_dot = record { at = 29; site = record { n = pos 1; m = pos 0; l = pos 0 } }

one_dot : dots_of their_elements ≡ a_dot ∷ []
one_dot = refl

one_bad : bad_places their_elements ≡ 77 ∷ []
one_bad = refl

-- `<siqad/>` is a drawing without dots
abbrev root : Item
root = item (empty (plain (codes "siqad")))

whole : IsWhole (codes "<siqad/>") (root ∷ [])
whole = record {
  nest = record { opened = []; rooted = true };
  rest = [];
  begins = record {
    is = refl;
    valid = (record { text = tt; mark = record { name = (refl, (refl, (refl, (refl, (refl, tt))))); attributes = tt; after = tt } }, tt);
    nested = (record { opened = []; rooted = true }, record { quiet = λ outside. tt; turns = (λ outside. refl, record { opened = refl; rooted = refl }) }, refl);
  };
  closed = refl;
  blank = tt;
}

no_dots : IsDrawing (codes "<siqad/>") [] 0
no_dots = record {
  elements = element_at 0 [] (plain (codes "siqad")) [] ∷ [];
  read = record { items = root ∷ []; whole = whole; are = refl };
  siqad = refl;
  each_has_a_site = refl;
  drawn = refl;
  counted = refl;
}
