-- One byte more of a mark.
use Rattle.std.proofs.Common.{◌≡◌, ◌≢◌, ◌∙◌, sym, ap, refl, ℕ, List, [], ◌∷◌, ◌++◌, true, append_assoc, ◌⊎◌}
use Rattle.std.specs.List.{flat_map, AllByRecursion}
use Rattle.std.proofs.lemmas.List.{append-nil}
use Rattle.std.proofs.lemmas.List.Concat.{flat_map-append}
use Rattle.sqd_marks.specs.Bytes.{is_blank, begins_name, is_in_name, IsName, is_in_value}
use Rattle.sqd_marks.specs.Marks.{Attribute, IsAttribute, start, empty, attribute_bytes, tag_bytes}
use Rattle.sqd_scan.specs.Fronts.{IsOf}
use Rattle.sqd_marks.specs.declared.kind.Kind.TheVariants as kinds
use Rattle.sqd_scan.proofs.Runs.{name_more}
use Rattle.sqd_scan.proofs.Sound.{InTag, InAttribute, InEquals, InValue}
use Rattle.sqd_marks.proofs.ByteFacts.{each_more}

not_nil : (w : List ℕ) (b : ℕ) → w ++ b ∷ [] ≢ []
not_nil [] b e = cc
not_nil (x ∷ w) b e = cc

attributes_more : (xs : List Attribute) (a : Attribute) → AllByRecursion IsAttribute xs → IsAttribute a → AllByRecursion IsAttribute (xs ++ a ∷ [])
attributes_more [] a hs h = (h, tt)
attributes_more (x ∷ xs) a hs h = (hs.0, attributes_more xs a hs.1 h)

-- a front of a tag that ends with a blank
pub record InSpace (p : List ℕ) : Type 0 where
  pub whole : InTag p
  pub apart : whole.tag.after ≢ []

pub tag_named : (n p : List ℕ) → IsName n → p ≡ 60 ∷ n → InTag p
tag_named n p h e = record {
  tag = record { name = n; attributes = []; after = [] };
  ok = record { name = h; attributes = tt; after = tt };
  is = e ∙ ap (λ t. 60 ∷ t) (sym (append-nil n));
}

pub tag_blank : (p : List ℕ) (b : ℕ) → InTag p → is_blank b ≡ true → InSpace (p ++ b ∷ [])
tag_blank p b h e = record {
  whole = record {
    tag = record { name = h.tag.name; attributes = h.tag.attributes; after = h.tag.after ++ b ∷ [] };
    ok = record { name = h.ok.name; attributes = h.ok.attributes; after = each_more is_blank h.tag.after b h.ok.after e };
    is = ap (λ t. t ++ b ∷ []) h.is ∙ ap (λ t. 60 ∷ t) (append_assoc h.tag.name (flat_map attribute_bytes h.tag.attributes ++ h.tag.after) (b ∷ []) ∙ ap (λ t. h.tag.name ++ t) (append_assoc (flat_map attribute_bytes h.tag.attributes) h.tag.after (b ∷ [])));
  };
  apart = not_nil h.tag.after b;
}

pub tag_start : (p : List ℕ) → InTag p → IsOf kinds.Start (p ++ 62 ∷ [])
tag_start p h = record { mark = start h.tag; valid = h.ok; form = refl; spelled = sym (ap (λ t. t ++ 62 ∷ []) h.is) }

pub tag_empty : (p q : List ℕ) → InTag q → p ≡ q ++ 47 ∷ [] → IsOf kinds.Empty (p ++ 62 ∷ [])
tag_empty p q h e = record {
  mark = empty h.tag;
  valid = h.ok;
  form = refl;
  spelled = sym (ap (λ t. t ++ 62 ∷ []) e ∙ append_assoc q (47 ∷ []) (62 ∷ []) ∙ ap (λ t. t ++ 47 ∷ 62 ∷ []) h.is);
}

pub attribute_begins : (p : List ℕ) (b : ℕ) → InSpace p → begins_name b ≡ true → (g : InAttribute (p ++ b ∷ [])) × (g.left ≡ [])
attribute_begins p b h e = (
  record {
    tag = h.whole.tag;
    ok = h.whole.ok;
    apart = h.apart;
    name = b ∷ [];
    named = (e, tt);
    left = [];
    blank = tt;
    is = ap (λ t. t ++ b ∷ []) h.whole.is;
  },
  refl,
)

pub attribute_named : (p : List ℕ) (b : ℕ) → (h : InAttribute p) → h.left ≡ [] → is_in_name b ≡ true → (g : InAttribute (p ++ b ∷ [])) × (g.left ≡ [])
attribute_named p b h none e = (
  record {
    tag = h.tag;
    ok = h.ok;
    apart = h.apart;
    name = h.name ++ b ∷ [];
    named = name_more h.name b h.named e;
    left = [];
    blank = tt;
    is = ap (λ t. t ++ b ∷ []) (h.is ∙ ap (λ l. 60 ∷ (tag_bytes h.tag ++ (h.name ++ l))) none ∙ ap (λ t. 60 ∷ (tag_bytes h.tag ++ t)) (append-nil h.name))
        ∙ ap (λ t. 60 ∷ t) (append_assoc (tag_bytes h.tag) h.name (b ∷ []) ∙ ap (λ t. tag_bytes h.tag ++ t) (sym (append-nil (h.name ++ b ∷ []))));
  },
  refl,
)

pub attribute_blank : (p : List ℕ) (b : ℕ) → InAttribute p → is_blank b ≡ true → InAttribute (p ++ b ∷ [])
attribute_blank p b h e = record {
  tag = h.tag;
  ok = h.ok;
  apart = h.apart;
  name = h.name;
  named = h.named;
  left = h.left ++ b ∷ [];
  blank = each_more is_blank h.left b h.blank e;
  is = ap (λ t. t ++ b ∷ []) h.is ∙ ap (λ t. 60 ∷ t) (append_assoc (tag_bytes h.tag) (h.name ++ h.left) (b ∷ []) ∙ ap (λ t. tag_bytes h.tag ++ t) (append_assoc h.name h.left (b ∷ [])));
}

pub attribute_equals : (p : List ℕ) → InAttribute p → InEquals (p ++ 61 ∷ [])
attribute_equals p h = record {
  tag = h.tag;
  ok = h.ok;
  apart = h.apart;
  name = h.name;
  named = h.named;
  left = h.left;
  blank = h.blank;
  right = [];
  blanks = tt;
  is = ap (λ t. t ++ 61 ∷ []) h.is ∙ ap (λ t. 60 ∷ t) (append_assoc (tag_bytes h.tag) (h.name ++ h.left) (61 ∷ []) ∙ ap (λ t. tag_bytes h.tag ++ t) (append_assoc h.name h.left (61 ∷ [])));
}

pub equals_blank : (p : List ℕ) (b : ℕ) → InEquals p → is_blank b ≡ true → InEquals (p ++ b ∷ [])
equals_blank p b h e = record {
  tag = h.tag;
  ok = h.ok;
  apart = h.apart;
  name = h.name;
  named = h.named;
  left = h.left;
  blank = h.blank;
  right = h.right ++ b ∷ [];
  blanks = each_more is_blank h.right b h.blanks e;
  is = ap (λ t. t ++ b ∷ []) h.is ∙ ap (λ t. 60 ∷ t) (append_assoc (tag_bytes h.tag) (h.name ++ (h.left ++ 61 ∷ h.right)) (b ∷ []) ∙ ap (λ t. tag_bytes h.tag ++ t) (append_assoc h.name (h.left ++ 61 ∷ h.right) (b ∷ []) ∙ ap (λ t. h.name ++ t) (append_assoc h.left (61 ∷ h.right) (b ∷ []))));
}

pub equals_quote : (p : List ℕ) (q : ℕ) → InEquals p → (q ≡ 34) ⊎ (q ≡ 39) → InValue q (p ++ q ∷ [])
equals_quote p q h e = record {
  tag = h.tag;
  ok = h.ok;
  apart = h.apart;
  name = h.name;
  named = h.named;
  left = h.left;
  blank = h.blank;
  right = h.right;
  blanks = h.blanks;
  quote = e;
  value = [];
  inside = tt;
  is = ap (λ t. t ++ q ∷ []) h.is ∙ ap (λ t. 60 ∷ t) (append_assoc (tag_bytes h.tag) (h.name ++ (h.left ++ 61 ∷ h.right)) (q ∷ []) ∙ ap (λ t. tag_bytes h.tag ++ t) (append_assoc h.name (h.left ++ 61 ∷ h.right) (q ∷ []) ∙ ap (λ t. h.name ++ t) (append_assoc h.left (61 ∷ h.right) (q ∷ []))));
}

pub value_more : (q : ℕ) (p : List ℕ) (b : ℕ) → InValue q p → is_in_value q b ≡ true → InValue q (p ++ b ∷ [])
value_more q p b h e = record {
  tag = h.tag;
  ok = h.ok;
  apart = h.apart;
  name = h.name;
  named = h.named;
  left = h.left;
  blank = h.blank;
  right = h.right;
  blanks = h.blanks;
  quote = h.quote;
  value = h.value ++ b ∷ [];
  inside = each_more (is_in_value q) h.value b h.inside e;
  is = ap (λ t. t ++ b ∷ []) h.is ∙ ap (λ t. 60 ∷ t) (append_assoc (tag_bytes h.tag) (h.name ++ (h.left ++ 61 ∷ (h.right ++ q ∷ h.value))) (b ∷ []) ∙ ap (λ t. tag_bytes h.tag ++ t) (append_assoc h.name (h.left ++ 61 ∷ (h.right ++ q ∷ h.value)) (b ∷ []) ∙ ap (λ t. h.name ++ t) (append_assoc h.left (61 ∷ (h.right ++ q ∷ h.value)) (b ∷ []) ∙ ap (λ t. h.left ++ 61 ∷ t) (append_assoc h.right (q ∷ h.value) (b ∷ [])))));
}

regroup : (n f w name left right value : List ℕ) (q : ℕ) →
    ((n ++ (f ++ w)) ++ (name ++ (left ++ 61 ∷ (right ++ q ∷ value)))) ++ q ∷ []
    ≡ n ++ ((f ++ ((w ++ (name ++ (left ++ (61 ∷ (right ++ (q ∷ (value ++ q ∷ []))))))) ++ [])) ++ [])
regroup n f w name left right value q = simp (append_assoc, append-nil)

pub value_ends : (q : ℕ) (p : List ℕ) → InValue q p → InTag (p ++ q ∷ [])
value_ends q p h =
    let a : Attribute = record { before = h.tag.after; name = h.name; left = h.left; right = h.right; quote = q; value = h.value } in
    let ok : IsAttribute a = record { apart = h.apart; before = h.ok.after; name = h.named; left = h.blank; right = h.blanks; quote = h.quote; value = h.inside } in
    record {
      tag = record { name = h.tag.name; attributes = h.tag.attributes ++ a ∷ []; after = [] };
      ok = record { name = h.ok.name; attributes = attributes_more h.tag.attributes a h.ok.attributes ok; after = tt };
      is = ap (λ t. t ++ q ∷ []) h.is ∙ ap (λ t. 60 ∷ t) (regroup h.tag.name (flat_map attribute_bytes h.tag.attributes) h.tag.after h.name h.left h.right h.value q ∙ ap (λ t. h.tag.name ++ (t ++ [])) (sym (flat_map-append attribute_bytes h.tag.attributes (a ∷ []))));
    }
