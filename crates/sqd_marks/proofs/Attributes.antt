-- The parts of an attribute, from the bytes that a reader cuts.
use Rattle.std.proofs.Common.{◌≡◌, ◌∙◌, sym, ap, refl, subst, ℕ, List, [], ◌∷◌, ◌++◌, false, append_assoc, ◌⊎◌, inl, inr, arith, length, true, Some, None}
use Rattle.std.specs.Prelude.{codes, nat_eq}
use Rattle.std.specs.Str.{bytes_eq}
use Rattle.std.specs.List.{flat_map}
use Rattle.std.proofs.lemmas.Bool.{eqb-true}
use Rattle.sqd_marks.specs.Bytes.{is_blank, is_in_name, is_in_value, Each, Stops, IsName, IsSpan}
use Rattle.sqd_marks.specs.Marks.{Attribute, IsAttribute, Tag, attribute_bytes}
use Rattle.sqd_marks.specs.Tags.{IsTail, IsFirstOf, attribute_value}
use Rattle.sqd_marks.specs.declared.tag_value.FirstAttribute.{FirstAttribute}
use Rattle.sqd_marks.proofs.Spans.{span, name_each, name_stops, blank_stops, quote_stops, value_stops}
use Rattle.sqd_marks.proofs.Values.{spread}
use Rattle.sqd_marks.proofs.ByteFacts.{cond_true, cond_false}

-- what is behind the name of an attribute
abbrev pub behind_name : Attribute → List ℕ → List ℕ
behind_name a more = a.right ++ (a.quote ∷ (a.value ++ a.quote ∷ more))

pub record IsNamed (a : Attribute) (more n rest : List ℕ) : Type 0 where
  pub name : n ≡ a.name
  pub behind : rest ≡ a.left ++ (61 ∷ behind_name a more)

-- the name in front of an attribute
pub named : (a : Attribute) (more left b n g m : List ℕ) → IsAttribute a → left ≡ attribute_bytes a ++ more → IsSpan is_blank left b n → IsSpan is_in_name n g m → IsNamed a more g m
named a more left b n g m h is u v =
    let s1 = span is_blank a.before b _ n h.before u.each (name_stops a.name _ h.name) u.stops (sym (spread a more) ∙ sym is ∙ u.whole) in
    let s2 = span is_in_name a.name g _ m (name_each a.name h.name) v.each (blank_stops a.left _ h.left refl) v.stops (s1.rest ∙ v.whole) in
    record { name = sym s2.front; behind = sym s2.rest }

-- what stands behind the blanks after the name
pub equals : (a : Attribute) (more g m f e : List ℕ) → IsAttribute a → IsNamed a more g m → IsSpan is_blank m f e → e ≡ 61 ∷ behind_name a more
equals a more g m f e h is w = sym (span is_blank a.left f _ e h.left w.each refl w.stops (sym is.behind ∙ w.whole)).rest

-- an attribute has a name
pub some_name : (a : Attribute) → IsAttribute a → a.name ≡ [] → ⊥
some_name a h e = subst IsName e h.name

finish_stops : (finish : List ℕ) → (finish ≡ codes ">") ⊎ (finish ≡ codes "/>") → Stops is_blank finish
finish_stops finish (inl e) = subst (Stops is_blank) (sym e) refl
finish_stops finish (inr e) = subst (Stops is_blank) (sym e) refl

finish_nameless : (finish : List ℕ) → (finish ≡ codes ">") ⊎ (finish ≡ codes "/>") → Stops is_in_name finish
finish_nameless finish (inl e) = subst (Stops is_in_name) (sym e) refl
finish_nameless finish (inr e) = subst (Stops is_in_name) (sym e) refl

-- no name stands where attributes end
pub nameless : (left b n g m : List ℕ) → IsTail [] left → IsSpan is_blank left b n → IsSpan is_in_name n g m → g ≡ []
nameless left b n g m h u v =
    let s = span is_blank h.after b h.finish n h.blank u.each (finish_stops h.finish h.closes) u.stops (sym h.is ∙ u.whole) in
    sym (span is_in_name [] g h.finish m tt v.each (finish_nameless h.finish h.closes) v.stops (s.rest ∙ v.whole)).front

pub record IsValued (value more v w : List ℕ) : Type 0 where
  pub same : v ≡ value
  pub rest : w ≡ more

-- the byte behind blanks is the quote
pub quoted : (right value more left f e : List ℕ) (quote : ℕ) → Each is_blank right → (quote ≡ 34) ⊎ (quote ≡ 39) → left ≡ right ++ (quote ∷ (value ++ quote ∷ more)) → IsSpan is_blank left f e → e ≡ quote ∷ (value ++ quote ∷ more)
quoted right value more left f e quote h q is u =
    sym (span is_blank right f _ e h u.each (quote_stops quote (value ++ quote ∷ more) q) u.stops (sym is ∙ u.whole)).rest

-- the value, and what is behind its second quote
pub valued : (value more rest v w : List ℕ) (quote : ℕ) → Each (is_in_value quote) value → rest ≡ value ++ quote ∷ more → IsSpan (is_in_value quote) rest v w → IsValued value (quote ∷ more) v w
valued value more rest v w quote h is u =
    let s = span (is_in_value quote) value v (quote ∷ more) w h u.each (value_stops quote more) u.stops (sym is ∙ u.whole) in
    record { same = sym s.front; rest = sym s.rest }

-- the same, behind the byte that was read as the quote
pub valued_behind : (value more : List ℕ) (quote byte : ℕ) (rest v w : List ℕ) → Each (is_in_value quote) value → byte ∷ rest ≡ quote ∷ (value ++ quote ∷ more) → IsSpan (is_in_value byte) rest v w → IsValued value (quote ∷ more) v w
valued_behind value more quote byte rest v w h is u =
    let first : byte ≡ quote = cc is in
    let behind : rest ≡ value ++ quote ∷ more = cc is in
    valued value more rest v w quote h behind (subst (λ q. IsSpan (is_in_value q) rest v w) first u)

-- the first of attributes stands in front of their tail
pub tail_first : (a : Attribute) (xs : List Attribute) (left : List ℕ) → (h : IsTail (a ∷ xs) left) → left ≡ attribute_bytes a ++ (flat_map attribute_bytes xs ++ (h.after ++ h.finish))
tail_first a xs left h = h.is ∙ append_assoc (attribute_bytes a) (flat_map attribute_bytes xs) (h.after ++ h.finish)

pub tail_behind : (a : Attribute) (xs : List Attribute) (left behind : List ℕ) → (h : IsTail (a ∷ xs) left) → behind ≡ flat_map attribute_bytes xs ++ (h.after ++ h.finish) → IsTail xs behind
tail_behind a xs left behind h e = record { after = h.after; finish = h.finish; valid = h.valid.1; blank = h.blank; closes = h.closes; is = e }

-- the parts of an attribute
pub record IsParts (a : Attribute) (more : List ℕ) (p : FirstAttribute) : Type 0 where
  pub name : p.name.now ≡ a.name
  pub value : p.value.now ≡ a.value
  pub behind : p.behind.now ≡ more

-- the first of attributes, from its parts
pub first_of : (attributes : List Attribute) (left : List ℕ) (p : FirstAttribute) → IsTail attributes left → (IsTail [] left → ⊥)
    → ((a : Attribute) (more : List ℕ) → IsAttribute a → left ≡ attribute_bytes a ++ more → IsParts a more p)
    → IsFirstOf attributes p
first_of [] left p h some f = absurd (some h)
first_of (a ∷ xs) left p h some f =
    let parts = f a (flat_map attribute_bytes xs ++ (h.after ++ h.finish)) h.valid.0 (tail_first a xs left h) in
    record { first = a; others = xs; are = refl; name = parts.name; value = parts.value; behind = tail_behind a xs left p.behind.now h parts.behind }

-- no attribute is first where none can be
pub none_of : (attributes : List Attribute) (left : List ℕ) → IsTail attributes left → ((a : Attribute) (more : List ℕ) → IsAttribute a → left ≡ attribute_bytes a ++ more → ⊥) → attributes ≡ []
none_of [] left h f = refl
none_of (a ∷ xs) left h f = absurd (f a (flat_map attribute_bytes xs ++ (h.after ++ h.finish)) h.valid.0 (tail_first a xs left h))

-- what is searched for a value is the tail of this tag behind attributes of other names
pub record IsLeft (t : Tag) (name left : List ℕ) : Type 0 where
  pub attributes : List Attribute
  pub tail : IsTail attributes left
  pub same : attribute_value name t.attributes ≡ attribute_value name attributes

-- where no attribute is left, the tag has none of this name
pub none_left : (t : Tag) (name left : List ℕ) → (h : IsLeft t name left) → ((attributes : List Attribute) → IsTail attributes left → attributes ≡ []) → attribute_value name t.attributes ≡ None
none_left t name left h f = h.same ∙ ap (attribute_value name) (f h.attributes h.tail)

-- the first attribute has the name
pub first_left : (t : Tag) (name left : List ℕ) (p : FirstAttribute) → (h : IsLeft t name left) → ((attributes : List Attribute) → IsTail attributes left → IsFirstOf attributes p) → bytes_eq p.name.now name ≡ true → attribute_value name t.attributes ≡ Some p.value.now
first_left t name left p h f e =
    let first = f h.attributes h.tail in
    let same : bytes_eq first.first.name name ≡ true = ap (λ n. bytes_eq n name) (sym first.name) ∙ e in
    h.same ∙ ap (attribute_value name) first.are ∙ cond_true _ _ _ same ∙ ap Some (sym first.value)

-- the first attribute has another name
pub others_left : (t : Tag) (name left : List ℕ) (p : FirstAttribute) → IsLeft t name left → ((attributes : List Attribute) → IsTail attributes left → IsFirstOf attributes p) → bytes_eq p.name.now name ≡ false → IsLeft t name p.behind.now
others_left t name left p h f e =
    let first = f h.attributes h.tail in
    let other : bytes_eq first.first.name name ≡ false = ap (λ n. bytes_eq n name) (sym first.name) ∙ e in
    record { attributes = first.others; tail = first.behind; same = h.same ∙ ap (attribute_value name) first.are ∙ cond_false _ _ _ other }

-- bytes whose number is none, and those whose number is not
pub no_bytes : (bytes : List ℕ) → nat_eq (length bytes) 0 ≡ true → bytes ≡ []
no_bytes [] e = refl
no_bytes (b ∷ bytes) e = absurd (omega (arith, eqb-true _ _ e))

pub some_bytes : (bytes : List ℕ) → nat_eq (length bytes) 0 ≡ false → bytes ≡ [] → ⊥
some_bytes [] e h = cc e
some_bytes (b ∷ bytes) e h = cc h
