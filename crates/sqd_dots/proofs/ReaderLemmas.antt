-- steps of the reader
use Rattle.std.proofs.Common.{◌≡◌, ◌∙◌, refl, sym, ap, subst, ℕ, zero, suc, ◌+◌, length, List, [], ◌∷◌, ◌++◌, map, reverse, append_assoc, inl, inr, Result, Ok, Err}
use Rattle.std.specs.Prelude.{OnOk}
use Rattle.std.specs.List.{AllByRecursion}
use Rattle.std.proofs.lemmas.List.{append-nil}
use Rattle.std.proofs.lemmas.Result.{on_ok_weaker}
use Rattle.sidb_units.specs.declared.memory.Memory.{Memory}
use Rattle.sqd_marks.specs.Marks.{TextMark, start, empty, close, comment, declaration, doctype, cdata, Tag, IsWellFormedMark, mark_bytes}
use Rattle.sqd_marks.specs.Tags.{IsTagOf}
use Rattle.sqd_marks.specs.declared.kind.Kind.TheVariants.{Start, Empty, End}
use Rattle.sqd_nesting.specs.Texts.{Item, IsItem, item_bytes}
use Rattle.sqd_nesting.specs.Views.{Shows, ShowAll}
use Rattle.sqd_nesting.specs.declared.read.PlacedMark.{PlacedMark}
use Rattle.sqd_elements.specs.declared.kept.Sort.{Sort}
use Rattle.sqd_elements.specs.declared.kept.Inside.{Inside}
use Rattle.sqd_dots.specs.declared.levels.OpenElements.{OpenElements}
use Rattle.sqd_dots.specs.declared.tally.Tally.{Tally}
use Rattle.sqd_dots.specs.declared.reader.DotsReader.{DotsReader}
use Rattle.sqd_elements.specs.Elements.{Element, element_at, elements, tags_before_end, without_nearest}
use Rattle.sqd_elements.specs.Kept.{sort_in, inside_of, inside_from, both}
use Rattle.sqd_dots.specs.Levels.{Tier, tier_of, tiers_of, tier_names, insides_of, Closes, layers, merged, preceded}
use Rattle.sqd_dots.specs.States.{IsTally, IsAt, HasRead}

-- the first layers joined
abbrev joined : ℕ → List (List Tag) → List Tag
joined zero tags = []
joined (suc n) [] = []
joined (suc n) (first ∷ more) = first ++ joined n more

joined_none : (n : ℕ) → joined n [] ≡ []
joined_none zero = refl
joined_none (suc n) = refl

merged_joined : (tag : Tag) (n : ℕ) (tags : List (List Tag)) → tag ∷ joined (suc (suc n)) tags ≡ joined (suc n) (merged tag tags)
merged_joined tag n [] = ap (λ t. tag ∷ t) (sym (joined_none n))
merged_joined tag n (inner ∷ []) = ap (λ t. tag ∷ (inner ++ t)) (sym (joined_none n))
merged_joined tag n (inner ∷ outer ∷ more) = ap (λ t. tag ∷ t) (sym (append_assoc inner outer (joined n more)))

preceded_joined : (tag : Tag) (n : ℕ) (tags : List (List Tag)) → tag ∷ joined (suc n) tags ≡ joined (suc n) (preceded tag tags)
preceded_joined tag n [] = ap (λ t. tag ∷ t) (sym (joined_none n))
preceded_joined tag n (inner ∷ more) = refl

tags_by : (depth : ℕ) (m : TextMark) (text : List ℕ) (items : List Item) → ((d : ℕ) → tags_before_end d items ≡ joined (suc d) (layers items))
    → tags_before_end depth (record { text = text; mark = m } ∷ items) ≡ joined (suc depth) (layers (record { text = text; mark = m } ∷ items))
tags_by depth (start tag) text items h = ap (λ t. tag ∷ t) (h (suc depth)) ∙ merged_joined tag depth (layers items)
tags_by depth (empty tag) text items h = ap (λ t. tag ∷ t) (h depth) ∙ preceded_joined tag depth (layers items)
tags_by zero (close name after) text items h = refl
tags_by (suc depth) (close name after) text items h = h depth
tags_by depth (comment c) text items h = h depth
tags_by depth (declaration c) text items h = h depth
tags_by depth doctype text items h = h depth
tags_by depth cdata text items h = h depth

-- the tags before an end mark are those of the layers before it
tags_joined : (depth : ℕ) (items : List Item) → tags_before_end depth items ≡ joined (suc depth) (layers items)
tags_joined depth [] = sym (joined_none depth)
tags_joined depth (i ∷ items) = tags_by depth i.mark i.text items (λ d. tags_joined d items)

-- a reader stands inside an element
record IsInside (tiers : List Tier) (around : List (List ℕ)) (tags : List (List Tag)) : Type 0 where
  inner : Tier
  outer : Tier
  rest : List Tier
  first : List Tag
  second : List Tag
  more : List (List Tag)
  tiers_are : tiers ≡ inner ∷ outer ∷ rest
  tags_are : tags ≡ first ∷ second ∷ more
  kept : inner.inside ≡ inside_of first
  names : tier_names (outer ∷ rest) ≡ around ++ [] ∷ []
  insides : insides_of (outer ∷ rest) ≡ map inside_of (second ∷ more)

some_name : (around : List (List ℕ)) → [] ≡ around ++ [] ∷ [] → ⊥
some_name [] h = cc h
some_name (a ∷ around) h = cc h

is_inside : (tiers : List Tier) (name : List ℕ) (around : List (List ℕ)) (tags : List (List Tag)) → tier_names tiers ≡ (name ∷ around) ++ [] ∷ [] → insides_of tiers ≡ map inside_of tags → IsInside tiers around tags
is_inside [] name around tags h g = absurd (cc h)
is_inside (a ∷ []) name around tags h g =
    let none : [] ≡ around ++ [] ∷ [] = cc h in
    absurd (some_name around none)
is_inside (a ∷ b ∷ tiers) name around [] h g = absurd (cc g)
is_inside (a ∷ b ∷ tiers) name around (s ∷ []) h g = absurd (cc g)
is_inside (a ∷ b ∷ tiers) name around (s ∷ t ∷ tags) h g = record {
  inner = a;
  outer = b;
  rest = tiers;
  first = s;
  second = t;
  more = tags;
  tiers_are = refl;
  tags_are = refl;
  kept = cc g;
  names = cc h;
  insides = cc g;
}

moved : (r : DotsReader) (around : List (List ℕ)) (s t : List (List Tag)) (es fs : List Element) → s ≡ t → es ≡ fs → IsAt r around s es → IsAt r around t fs
moved r around s t es fs p q h = subst (λ x. IsAt r around x fs) p (subst (λ x. IsAt r around s x) q h)

-- what `leave`, `add` and `begin` promise
abbrev pub Leaves : OpenElements → Inside → OpenElements → Type 0
Leaves old inside new = (inner outer : Tier) (more : List Tier) → tiers_of old ≡ inner ∷ outer ∷ more → (inside ≡ inner.inside) × (tiers_of new ≡ outer ∷ more)

abbrev pub Adds : OpenElements → Inside → OpenElements → Type 0
Adds old inside new = (inner : Tier) (more : List Tier) → tiers_of old ≡ inner ∷ more → tiers_of new ≡ record { name = inner.name; inside = both inside inner.inside } ∷ more

abbrev pub reader : OpenElements → Tally → DotsReader
reader levels tally = record { levels = levels; tally = tally }

abbrev pub Begins : DotsReader → ℕ → Sort → Inside → Result (Unit {0}) Memory → DotsReader → Type 0
Begins old at sort inside r new = (around : List (List ℕ)) (tag : Tag) (tags around_tags : List Tag) (more : List (List Tag)) (es : List Element)
    → IsAt old around (around_tags ∷ more) es → sort_in tag ≡ sort → inside_of tags ≡ inside
    → OnOk r (IsAt new around ((tag ∷ (tags ++ around_tags)) ∷ more) (element_at at around tag tags ∷ es))

-- the laws on what is kept
abbrev pub KeptOfOne : Type 0
KeptOfOne = (tag : Tag) → inside_of (tag ∷ []) ≡ inside_from (sort_in tag)

abbrev pub KeptOfBoth : Type 0
KeptOfBoth = (a b : List Tag) → inside_of (a ++ b) ≡ both (inside_of a) (inside_of b)

-- levels and tally go before an element
pub begun : KeptOfBoth → (old new : DotsReader) (around : List (List ℕ)) (tag : Tag) (tags around_tags : List Tag) (more : List (List Tag)) (es fs : List Element) (inside : Inside)
    → IsAt old around (around_tags ∷ more) es → Adds old.levels inside new.levels → inside ≡ inside_of (tag ∷ tags) → IsTally new.tally fs
    → IsAt new around ((tag ∷ (tags ++ around_tags)) ∷ more) fs
begun append old new around tag tags around_tags more es fs inside h adds is tally =
    let inner = tier_of old.levels.inner in
    let now = adds inner (map tier_of (reverse old.levels.outer.items)) refl in
    let kept : inner.inside ≡ inside_of around_tags = cc (h.insides) in
    let others : insides_of (map tier_of (reverse old.levels.outer.items)) ≡ map inside_of more = cc (h.insides) in
    let joined_now : both inside inner.inside ≡ inside_of (tag ∷ (tags ++ around_tags)) = ap (λ i. both i inner.inside) is ∙ ap (λ i. both (inside_of (tag ∷ tags)) i) kept ∙ sym (append (tag ∷ tags) around_tags) in
    record {
      names = ap tier_names now ∙ h.names;
      insides = ap insides_of now ∙ ap (λ i. i ∷ insides_of (map tier_of (reverse old.levels.outer.items))) joined_now ∙ ap (λ is. inside_of (tag ∷ (tags ++ around_tags)) ∷ is) others;
      tally = tally;
    }

-- what is kept of an element and of those inside it
pub inside_both : KeptOfOne → KeptOfBoth → (tag : Tag) (tags : List Tag) (sort : Sort) (one inside all : Inside) → sort_in tag ≡ sort → inside_of tags ≡ inside → one ≡ inside_from sort → all ≡ both one inside → all ≡ inside_of (tag ∷ tags)
inside_both of_one append tag tags sort one inside all s i o a =
    let first : one ≡ inside_of (tag ∷ []) = o ∙ ap inside_from (sym s) ∙ sym (of_one tag) in
    a ∙ ap (λ x. both x inside) first ∙ ap (λ x. both (inside_of (tag ∷ [])) x) (sym i) ∙ sym (append (tag ∷ []) tags)

-- a mark of an item, with what it says of the sort of an element
abbrev pub SortsAll : List ℕ → Sort → Type 0
SortsAll bytes sort = (tag : Tag) → IsTagOf tag bytes → sort ≡ sort_in tag

abbrev item : List ℕ → TextMark → Item
item text mark = record { text = text; mark = mark }

-- the state of a reader, item by item
pub read_by : (r : Result (Unit {0}) Memory) (new : DotsReader) (f : PlacedMark) (fs : List PlacedMark)
    → ((at : ℕ) (around : List (List ℕ)) (text : List ℕ) (m : TextMark) (items : List Item) → Shows at f (item text m) → ShowAll (at + length (item_bytes (item text m))) fs items
    → IsWellFormedMark m → AllByRecursion IsItem items → Closes around (item text m ∷ items) → OnOk r (IsAt new around (layers (item text m ∷ items)) (elements at around (item text m ∷ items))))
    → OnOk r (HasRead new (f ∷ fs))
read_by (Ok u) new f fs h = record { state = by }
  where
    by : (at : ℕ) (around : List (List ℕ)) (items : List Item) → ShowAll at (f ∷ fs) items → AllByRecursion IsItem items → Closes around items → IsAt new around (layers items) (elements at around items)
    by at around [] s v c = absurd s
    by at around (i ∷ items) s v c = h at around i.text i.mark items s.0 s.1 v.0.mark v.1 c
read_by (Err e) new f fs h = tt

-- before a start mark
pub take_start : (old new : DotsReader) (mid : OpenElements) (inside : Inside) (sort : Sort) (r : Result (Unit {0}) Memory) (f : PlacedMark) (fs : List PlacedMark)
    → HasRead old fs → f.kind ≡ Start → Leaves old.levels inside mid → SortsAll f.bytes.now sort → Begins (reader mid old.tally) f.at sort inside r new
    → OnOk r (HasRead new (f ∷ fs))
take_start old new mid inside sort r f fs h kind leaves sorts begins = read_by r new f fs by
  where
    by : (at : ℕ) (around : List (List ℕ)) (text : List ℕ) (m : TextMark) (items : List Item) → Shows at f (item text m) → ShowAll (at + length (item_bytes (item text m))) fs items
        → IsWellFormedMark m → AllByRecursion IsItem items → Closes around (item text m ∷ items) → OnOk r (IsAt new around (layers (item text m ∷ items)) (elements at around (item text m ∷ items)))
    by at around text (start tag) items s more valid v c =
        let behind : ℕ = at + length (item_bytes (item text (start tag))) in
        let was = h.state behind (tag.name ∷ around) items more v c in
        let two = is_inside (tiers_of old.levels) tag.name around (layers items) was.names was.insides in
        let left = leaves two.inner two.outer two.rest two.tiers_are in
        let here : IsAt (reader mid old.tally) around (two.second ∷ two.more) (elements behind (tag.name ∷ around) items) = record { names = ap tier_names left.1 ∙ two.names; insides = ap insides_of left.1 ∙ two.insides; tally = was.tally } in
        let inner : tags_before_end 0 items ≡ two.first = tags_joined 0 items ∙ ap (joined 1) two.tags_are ∙ append-nil two.first in
        let done = begins around tag two.first two.second two.more (elements behind (tag.name ∷ around) items) here (sym (sorts tag (record { valid = valid; spelled = inl (sym s.bytes) }))) (sym (left.0 ∙ two.kept)) in
        let layers_are : (tag ∷ (two.first ++ two.second)) ∷ two.more ≡ merged tag (layers items) = ap (merged tag) (sym two.tags_are) in
        let places : element_at f.at around tag two.first ∷ elements behind (tag.name ∷ around) items ≡ element_at (at + length text) around tag (tags_before_end 0 items) ∷ elements behind (tag.name ∷ around) items = ap (λ k. element_at k around tag two.first ∷ elements behind (tag.name ∷ around) items) s.place ∙ ap (λ t. element_at (at + length text) around tag t ∷ elements behind (tag.name ∷ around) items) (sym inner) in
        on_ok_weaker r (moved new around _ _ _ _ layers_are places) done
    by at around text m items s more valid v c = absurd (cc (kind, s.form))

-- a reader stands in front of the end of the text
record HasLayer (tags : List (List Tag)) : Type 0 where
  first : List Tag
  more : List (List Tag)
  tags_are : tags ≡ first ∷ more

has_layer : (tiers : List Tier) (around : List (List ℕ)) (tags : List (List Tag)) → tier_names tiers ≡ around ++ [] ∷ [] → insides_of tiers ≡ map inside_of tags → HasLayer tags
has_layer [] around tags h g = absurd (some_name around h)
has_layer (a ∷ tiers) around [] h g = absurd (cc g)
has_layer (a ∷ tiers) around (s ∷ tags) h g = record { first = s; more = tags; tags_are = refl }

-- before an empty mark
pub take_empty : (old new : DotsReader) (inside : Inside) (sort : Sort) (r : Result (Unit {0}) Memory) (f : PlacedMark) (fs : List PlacedMark)
    → HasRead old fs → f.kind ≡ Empty → inside ≡ inside_of [] → SortsAll f.bytes.now sort → Begins old f.at sort inside r new
    → OnOk r (HasRead new (f ∷ fs))
take_empty old new inside sort r f fs h kind nothing sorts begins = read_by r new f fs by
  where
    by : (at : ℕ) (around : List (List ℕ)) (text : List ℕ) (m : TextMark) (items : List Item) → Shows at f (item text m) → ShowAll (at + length (item_bytes (item text m))) fs items
        → IsWellFormedMark m → AllByRecursion IsItem items → Closes around (item text m ∷ items) → OnOk r (IsAt new around (layers (item text m ∷ items)) (elements at around (item text m ∷ items)))
    by at around text (empty tag) items s more valid v c =
        let behind : ℕ = at + length (item_bytes (item text (empty tag))) in
        let was = h.state behind around items more v c in
        let one = has_layer (tiers_of old.levels) around (layers items) was.names was.insides in
        let here = moved old around _ _ _ _ one.tags_are refl was in
        let done = begins around tag [] one.first one.more (elements behind around items) here (sym (sorts tag (record { valid = valid; spelled = inr (sym s.bytes) }))) (sym nothing) in
        let layers_are : (tag ∷ ([] ++ one.first)) ∷ one.more ≡ preceded tag (layers items) = ap (preceded tag) (sym one.tags_are) in
        let places : element_at f.at around tag [] ∷ elements behind around items ≡ element_at (at + length text) around tag [] ∷ elements behind around items = ap (λ k. element_at k around tag [] ∷ elements behind around items) s.place in
        on_ok_weaker r (moved new around _ _ _ _ layers_are places) done
    by at around text m items s more valid v c = absurd (cc (kind, s.form))

-- before an end mark
pub take_end : (old new : DotsReader) (name : List ℕ) (r : Result (Unit {0}) Memory) (f : PlacedMark) (fs : List PlacedMark)
    → HasRead old fs → f.kind ≡ End → ((word after : List ℕ) → IsWellFormedMark (close word after) → mark_bytes (close word after) ≡ f.bytes.now → name ≡ word)
    → OnOk r (tiers_of new.levels ≡ record { name = name; inside = inside_of [] } ∷ tiers_of old.levels) → new.tally ≡ old.tally
    → OnOk r (HasRead new (f ∷ fs))
take_end old new name r f fs h kind names enters tally = read_by r new f fs by
  where
    by : (at : ℕ) (around : List (List ℕ)) (text : List ℕ) (m : TextMark) (items : List Item) → Shows at f (item text m) → ShowAll (at + length (item_bytes (item text m))) fs items
        → IsWellFormedMark m → AllByRecursion IsItem items → Closes around (item text m ∷ items) → OnOk r (IsAt new around (layers (item text m ∷ items)) (elements at around (item text m ∷ items)))
    by at around text (close word after) items s more valid v c =
        let behind : ℕ = at + length (item_bytes (item text (close word after))) in
        let was = h.state behind (without_nearest around) items more v c.1 in
        let same : name ≡ word = names word after valid (sym s.bytes) in
        on_ok_weaker r (λ now. record {
          names = ap tier_names now ∙ ap (λ n. n ∷ tier_names (tiers_of old.levels)) same ∙ ap (λ ns. word ∷ ns) was.names ∙ ap (λ ns. ns ++ [] ∷ []) (sym c.0);
          insides = ap insides_of now ∙ ap (λ is. inside_of [] ∷ is) was.insides;
          tally = subst (λ x. IsTally x (elements behind (without_nearest around) items)) (sym tally) was.tally;
        }) enters
    by at around text m items s more valid v c = absurd (cc (kind, s.form))

-- before any other mark
pub take_other : (old : DotsReader) (f : PlacedMark) (fs : List PlacedMark)
    → HasRead old fs → (f.kind ≡ Start → ⊥) → (f.kind ≡ Empty → ⊥) → (f.kind ≡ End → ⊥) → HasRead old (f ∷ fs)
take_other old f fs h no_start no_empty no_end = record { state = by_items }
  where
    by : (at : ℕ) (around : List (List ℕ)) (text : List ℕ) (m : TextMark) (items : List Item) → Shows at f (item text m) → ShowAll (at + length (item_bytes (item text m))) fs items
        → IsWellFormedMark m → AllByRecursion IsItem items → Closes around (item text m ∷ items) → IsAt old around (layers (item text m ∷ items)) (elements at around (item text m ∷ items))
    by at around text (start tag) items s more valid v c = absurd (no_start s.form)
    by at around text (empty tag) items s more valid v c = absurd (no_empty s.form)
    by at around text (close word after) items s more valid v c = absurd (no_end s.form)
    by at around text m items s more valid v c = h.state (at + length (item_bytes (item text m))) around items more v c

    by_items : (at : ℕ) (around : List (List ℕ)) (items : List Item) → ShowAll at (f ∷ fs) items → AllByRecursion IsItem items → Closes around items → IsAt old around (layers items) (elements at around items)
    by_items at around [] s v c = absurd s
    by_items at around (i ∷ items) s v c = by at around i.text i.mark items s.0 s.1 v.0.mark v.1 c
