-- The bytes of a mark are those of one mark only.
use Rattle.std.proofs.Common.{◌≡◌, ◌∙◌, sym, ap, refl, subst, ℕ, List, [], ◌∷◌, ◌++◌, false, append_assoc, arith, length, length-append}
use Rattle.std.specs.Prelude.{codes}
use Rattle.std.specs.List.{flat_map, AllByRecursion}
use Rattle.sqd_marks.specs.Bytes.{is_blank, is_in_name, is_in_value, begins_name, Each, Stops, IsName}
use Rattle.sqd_marks.specs.Marks.{TextMark, start, empty, close, comment, declaration, doctype, cdata, IsWellFormedMark, kind_of_mark, mark_bytes, Attribute, IsAttribute, Tag, IsTag, attribute_bytes, tag_bytes}
use Rattle.sqd_marks.proofs.Spans.{span, name_each, name_stops, blank_stops, some_blank_stops, quote_stops, value_stops}

abbrev attribute : List ℕ → List ℕ → List ℕ → List ℕ → ℕ → List ℕ → Attribute
attribute before name left right quote value = record { before = before; name = name; left = left; right = right; quote = quote; value = value }

pub spread : (a : Attribute) (more : List ℕ) → attribute_bytes a ++ more ≡ a.before ++ (a.name ++ (a.left ++ (61 ∷ (a.right ++ (a.quote ∷ (a.value ++ a.quote ∷ more))))))
spread a more = simp append_assoc

pub record OneAttribute (a b : Attribute) (x y : List ℕ) : Type 0 where
  pub same : a ≡ b
  pub rest : x ≡ y

pub one_attribute : (a b : Attribute) (x y : List ℕ) → IsAttribute a → IsAttribute b → attribute_bytes a ++ x ≡ attribute_bytes b ++ y → OneAttribute a b x y
one_attribute a b x y h g e =
    let s1 = span is_blank a.before b.before _ _ h.before g.before (name_stops a.name _ h.name) (name_stops b.name _ g.name) (sym (spread a x) ∙ e ∙ spread b y) in
    let s2 = span is_in_name a.name b.name _ _ (name_each a.name h.name) (name_each b.name g.name) (blank_stops a.left _ h.left refl) (blank_stops b.left _ g.left refl) s1.rest in
    let s3 = span is_blank a.left b.left _ _ h.left g.left refl refl s2.rest in
    let r3 : a.right ++ (a.quote ∷ (a.value ++ a.quote ∷ x)) ≡ b.right ++ (b.quote ∷ (b.value ++ b.quote ∷ y)) = cc (s3.rest) in
    let s4 = span is_blank a.right b.right _ _ h.right g.right (quote_stops a.quote (a.value ++ a.quote ∷ x) h.quote) (quote_stops b.quote (b.value ++ b.quote ∷ y) g.quote) r3 in
    let q : a.quote ≡ b.quote = cc (s4.rest) in
    let r4 : a.value ++ a.quote ∷ x ≡ b.value ++ b.quote ∷ y = cc (s4.rest) in
    let inside : Each (is_in_value a.quote) b.value = subst (λ n. Each (is_in_value n) b.value) (sym q) g.value in
    let stops : Stops (is_in_value a.quote) (b.quote ∷ y) = subst (λ n. Stops (is_in_value a.quote) (n ∷ y)) q (value_stops a.quote y) in
    let s5 = span (is_in_value a.quote) a.value b.value _ _ h.value inside (value_stops a.quote x) stops r4 in
    let rest : x ≡ y = cc (s5.rest) in
    record {
      same = ap (λ t. attribute t a.name a.left a.right a.quote a.value) s1.front ∙ ap (λ t. attribute b.before t a.left a.right a.quote a.value) s2.front ∙ ap (λ t. attribute b.before b.name t a.right a.quote a.value) s3.front ∙ ap (λ t. attribute b.before b.name b.left t a.quote a.value) s4.front ∙ ap (λ n. attribute b.before b.name b.left b.right n a.value) q ∙ ap (λ t. attribute b.before b.name b.left b.right b.quote t) s5.front;
      rest = rest;
    }

-- what closes a tag is no blank and begins no name
record IsClose (c : List ℕ) : Type 0 where
  byte : ℕ
  more : List ℕ
  is : c ≡ byte ∷ more
  no_blank : is_blank byte ≡ false
  no_name : begins_name byte ≡ false

close_stops : (c : List ℕ) → IsClose c → Stops is_blank c
close_stops c h = subst (Stops is_blank) (sym h.is) h.no_blank

not_name : (c n more : List ℕ) → IsClose c → IsName n → c ≡ n ++ more → ⊥
not_name c [] more h g e = absurd g
not_name c (b ∷ n) more h g e =
    let same : h.byte ≡ b = cc (h.is, e) in
    let no = subst (λ k. begins_name k ≡ false) same h.no_name in
    cc (no, g.0)

record OneTail (xs ys : List Attribute) (w v c d : List ℕ) : Type 0 where
  attributes : xs ≡ ys
  after : w ≡ v
  closes : c ≡ d

regroup : (a : Attribute) (xs : List Attribute) (w c : List ℕ) → ((attribute_bytes a ++ flat_map attribute_bytes xs) ++ w) ++ c ≡ attribute_bytes a ++ ((flat_map attribute_bytes xs ++ w) ++ c)
regroup a xs w c = ap (λ t. t ++ c) (append_assoc (attribute_bytes a) (flat_map attribute_bytes xs) w) ∙ append_assoc (attribute_bytes a) (flat_map attribute_bytes xs ++ w) c

one_tail : (xs ys : List Attribute) (w v c d : List ℕ) → AllByRecursion IsAttribute xs → AllByRecursion IsAttribute ys → Each is_blank w → Each is_blank v → IsClose c → IsClose d → (flat_map attribute_bytes xs ++ w) ++ c ≡ (flat_map attribute_bytes ys ++ v) ++ d → OneTail xs ys w v c d
one_tail [] [] w v c d hs gs h g k l e =
    let s = span is_blank w v c d h g (close_stops c k) (close_stops d l) e in
    record { attributes = refl; after = s.front; closes = s.rest }
one_tail [] (b ∷ ys) w v c d hs gs h g k l e =
    let s = span is_blank w b.before c _ h gs.0.before (close_stops c k) (name_stops b.name _ gs.0.name) (e ∙ regroup b ys v d ∙ spread b ((flat_map attribute_bytes ys ++ v) ++ d)) in
    absurd (not_name c b.name _ k gs.0.name s.rest)
one_tail (a ∷ xs) [] w v c d hs gs h g k l e =
    let s = span is_blank v a.before d _ g hs.0.before (close_stops d l) (name_stops a.name _ hs.0.name) (sym e ∙ regroup a xs w c ∙ spread a ((flat_map attribute_bytes xs ++ w) ++ c)) in
    absurd (not_name d a.name _ l hs.0.name s.rest)
one_tail (a ∷ xs) (b ∷ ys) w v c d hs gs h g k l e =
    let first = one_attribute a b _ _ hs.0 gs.0 (sym (regroup a xs w c) ∙ e ∙ regroup b ys v d) in
    let more = one_tail xs ys w v c d hs.1 gs.1 h g k l first.rest in
    record { attributes = ap (λ t. t ∷ xs) first.same ∙ ap (λ t. b ∷ t) more.attributes; after = more.after; closes = more.closes }

abbrev tag : List ℕ → List Attribute → List ℕ → Tag
tag name attributes after = record { name = name; attributes = attributes; after = after }

pub tail_stops : (xs : List Attribute) (w c : List ℕ) → AllByRecursion IsAttribute xs → Each is_blank w → Stops is_in_name c → Stops is_in_name ((flat_map attribute_bytes xs ++ w) ++ c)
tail_stops [] w c hs h s = blank_stops w c h s
tail_stops (a ∷ xs) w c hs h s = subst (Stops is_in_name) (sym (regroup a xs w c ∙ spread a ((flat_map attribute_bytes xs ++ w) ++ c))) (some_blank_stops a.before _ hs.0.before hs.0.apart)

one_tag : (t u : Tag) (c d : List ℕ) → IsTag t → IsTag u → IsClose c → IsClose d → Stops is_in_name c → Stops is_in_name d → tag_bytes t ++ c ≡ tag_bytes u ++ d → t ≡ u
one_tag t u c d h g k l p q e =
    let s = span is_in_name t.name u.name _ _ (name_each t.name h.name) (name_each u.name g.name) (tail_stops t.attributes t.after c h.attributes h.after p) (tail_stops u.attributes u.after d g.attributes g.after q) (sym (append_assoc t.name _ c) ∙ e ∙ append_assoc u.name _ d) in
    let r = one_tail t.attributes u.attributes t.after u.after c d h.attributes g.attributes h.after g.after k l s.rest in
    ap (λ n. tag n t.attributes t.after) s.front ∙ ap (λ x. tag u.name x t.after) r.attributes ∙ ap (λ w. tag u.name u.attributes w) r.after

cancel_right : (a b t : List ℕ) → a ++ t ≡ b ++ t → a ≡ b
cancel_right [] [] t e = refl
cancel_right [] (c ∷ b) t e = absurd (omega (arith, ap length e, length-append b t))
cancel_right (c ∷ a) [] t e = absurd (omega (arith, ap length e, length-append a t))
cancel_right (c ∷ a) (d ∷ b) t e =
    let first : c ≡ d = cc e in
    let rest : a ++ t ≡ b ++ t = cc e in
    let same = cancel_right a b t rest in
    cc (first, same)

gt_close : IsClose (62 ∷ [])
gt_close = record { byte = 62; more = []; is = refl; no_blank = refl; no_name = refl }

slash_close : IsClose (47 ∷ 62 ∷ [])
slash_close = record { byte = 47; more = 62 ∷ []; is = refl; no_blank = refl; no_name = refl }

-- one mark of a kind for its bytes
pub same_mark : (m n : TextMark) → IsWellFormedMark m → IsWellFormedMark n → kind_of_mark m ≡ kind_of_mark n → mark_bytes m ≡ mark_bytes n → m ≡ n
same_mark (start t) (start u) h g k e =
    let inner : tag_bytes t ++ 62 ∷ [] ≡ tag_bytes u ++ 62 ∷ [] = cc e in
    ap start (one_tag t u (62 ∷ []) (62 ∷ []) h g gt_close gt_close refl refl inner)
same_mark (empty t) (empty u) h g k e =
    let inner : tag_bytes t ++ 47 ∷ 62 ∷ [] ≡ tag_bytes u ++ 47 ∷ 62 ∷ [] = cc e in
    ap empty (one_tag t u (47 ∷ 62 ∷ []) (47 ∷ 62 ∷ []) h g slash_close slash_close refl refl inner)
same_mark (close n w) (close m v) h g k e =
    let inner : n ++ (w ++ 62 ∷ []) ≡ m ++ (v ++ 62 ∷ []) = cc e in
    let s = span is_in_name n m _ _ (name_each n h.0) (name_each m g.0) (blank_stops w (62 ∷ []) h.1 refl) (blank_stops v (62 ∷ []) g.1 refl) inner in
    let r = cancel_right w v (62 ∷ []) s.rest in
    ap (λ x. close x w) s.front ∙ ap (λ x. close m x) r
same_mark (comment c) (comment d) h g k e =
    let inner : c ++ codes "-->" ≡ d ++ codes "-->" = cc e in
    ap comment (cancel_right c d (codes "-->") inner)
same_mark (declaration c) (declaration d) h g k e =
    let inner : c ++ codes "?>" ≡ d ++ codes "?>" = cc e in
    ap declaration (cancel_right c d (codes "?>") inner)
same_mark doctype doctype h g k e = refl
same_mark cdata cdata h g k e = refl
same_mark _ _ h g k e = absurd (cc k)
