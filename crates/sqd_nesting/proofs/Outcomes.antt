-- A text is whole, or has a first fault.
use Rattle.std.proofs.Common.{◌≡◌, ◌≢◌, ◌∙◌, sym, ap, refl, subst, ℕ, zero, suc, ◌+◌, ◌<◌, List, [], ◌∷◌, ◌++◌, true, false, append_assoc, ◌⊎◌, inl, inr, eqb, length, length-append, arith, drop, not}
use Rattle.std.specs.List.{flat_map}
use Rattle.std.specs.Str.{bytes_eq}
use Rattle.std.proofs.lemmas.List.{append-nil}
use Rattle.std.proofs.lemmas.List.Concat.{flat_map-append}
use Rattle.std.proofs.lemmas.Bool.{eqb-true, eqb-false}
use Rattle.std.proofs.lemmas.Slice.Eq.{bytes_eq-Decides}
use Rattle.sqd_marks.specs.Bytes.{is_blank, begins_name, Each}
use Rattle.sqd_marks.specs.Marks.{TextMark, start, empty, close, comment, declaration, doctype, cdata, IsWellFormedMark, mark_bytes}
use Rattle.sqd_scan.specs.Fronts.{HasMark, IsFaultOf}
use Rattle.sqd_nesting.specs.Texts.{Item, IsItem, item_bytes, is_text, Opened, Nest, IsOutsideRoot, IsQuiet, Turns, PassesItem, Begins, IsWhole, mark_len, at_first}
use Rattle.sqd_nesting.specs.Faults.{IsStray, BeginsMark, IsFaultAt, IsFaultIn, IsFirstFault}
use Rattle.sqd_scan.specs.declared.fault.SqdFault.{SqdFault}
use Rattle.sqd_scan.specs.declared.fault.SqdFault.TheVariants.{BadMark, NotClosed, WrongClose, Doctype, Cdata}
use Rattle.sqd_nesting.proofs.Betweens.{scanned}
use Rattle.sqd_marks.proofs.ByteFacts.{tells}
use Rattle.sqd_nesting.proofs.Turning.{tag_may_begin}
use Rattle.sqd_nesting.proofs.Reading.{valid_more, nested_more, mark_some}

-- bytes begin with a mark, or have a fault of one
abbrev pub SomeFront : Type 0
SomeFront = (at : ℕ) (bytes : List ℕ) → HasMark bytes ⊎ ((fault : SqdFault) × IsFaultOf at bytes fault)

-- nothing is open, or an element is the innermost
record Innermost (n : Nest) : Type 0 where
  others : List Opened
  innermost : Opened
  opened : n.opened ≡ others ++ innermost ∷ []

record Last (xs : List Opened) (x : Opened) : Type 0 where
  others : List Opened
  last : Opened
  is : x ∷ xs ≡ others ++ last ∷ []

last_of : (x : Opened) (xs : List Opened) → Last xs x
last_of x [] = record { others = []; last = x; is = refl }
last_of x (y ∷ xs) =
    let more = last_of y xs in
    record { others = x ∷ more.others; last = more.last; is = ap (λ l. x ∷ l) more.is }

open_or_not : (n : Nest) → IsOutsideRoot n ⊎ Innermost n
open_or_not n = by n.opened refl
  where
    by : (xs : List Opened) → n.opened ≡ xs → IsOutsideRoot n ⊎ Innermost n
    by [] e = inl e
    by (x ∷ xs) e =
        let last = last_of x xs in
        inr (record { others = last.others; innermost = last.last; opened = e ∙ last.is })

no_end : (a : List Opened) (x : Opened) → [] ≡ a ++ x ∷ [] → ⊥
no_end [] x e = cc e
no_end (y ∷ a) x e = cc e

is_open : (n : Nest) → Innermost n → IsOutsideRoot n → ⊥
is_open n h outside = no_end h.others h.innermost (sym outside ∙ h.opened)

-- what is left, cut before its first mark
record IsCutBefore (left : List ℕ) : Type 0 where
  between : List ℕ
  rest : List ℕ
  is : left ≡ between ++ rest
  text : Each is_text between
  begins : BeginsMark rest

cut_before : (left : List ℕ) → IsCutBefore left
cut_before [] = record { between = []; rest = []; is = refl; text = tt; begins = tt }
cut_before (b ∷ left) =
    let more = cut_before left in
    elim (tells (eqb b 60)) [
      | inl e ↦ record { between = []; rest = b ∷ left; is = refl; text = tt; begins = eqb-true b 60 e }
      | inr e ↦ record { between = b ∷ more.between; rest = more.rest; is = ap (λ l. b ∷ l) more.is; text = (ap not e, more.text); begins = more.begins }
    ]

-- text is blank, or has a first byte that isn't
record HasLoud (text : List ℕ) : Type 0 where
  blanks : List ℕ
  byte : ℕ
  more : List ℕ
  is : text ≡ blanks ++ byte ∷ more
  blank : Each is_blank blanks
  not_blank : is_blank byte ≡ false

blank_or_loud : (text : List ℕ) → Each is_blank text ⊎ HasLoud text
blank_or_loud [] = inl tt
blank_or_loud (b ∷ text) = elim (tells (is_blank b)) [
  | inr e ↦ inr (record { blanks = []; byte = b; more = text; is = refl; blank = tt; not_blank = e })
  | inl e ↦ elim (blank_or_loud text) [
    | inl h ↦ inl (e, h)
    | inr h ↦ inr (record { blanks = b ∷ h.blanks; byte = h.byte; more = h.more; is = ap (λ l. b ∷ l) h.is; blank = (e, h.blank); not_blank = h.not_blank })
  ]
]

-- an element that may not begin or end here, or not
abbrev Strayness : Nest → List ℕ → Type 0
Strayness n rest = IsStray n rest ⊎ (IsStray n rest → ⊥)

second : (b c : ℕ) (x y : List ℕ) → 60 ∷ b ∷ x ≡ 60 ∷ c ∷ y → b ≡ c
second b c x y e = cc e

no_second : (b : ℕ) (x : List ℕ) → 60 ∷ [] ≡ 60 ∷ b ∷ x → ⊥
no_second b x e = cc e

told : (n : Nest) (c : ℕ) (more : List ℕ) → IsOutsideRoot n → c ≢ 47 → ((n.rooted ≡ true) × (begins_name c ≡ true) → ⊥) → IsStray n (60 ∷ c ∷ more) → ⊥
told n c more outside other calm s =
    let same = second c s.byte more s.more s.is in
    elim s.tells [
      | inl e ↦ other (same ∙ e)
      | inr both ↦ calm (both.0, ap begins_name same ∙ both.1)
    ]

strayness_at : (n : Nest) (c : ℕ) (more : List ℕ) → IsOutsideRoot n → Strayness n (60 ∷ c ∷ more)
strayness_at n c more outside = elim (tells (eqb c 47)) [
  | inl e ↦ inl (record { byte = c; more = more; is = refl; outside = outside; tells = inl (eqb-true c 47 e) })
  | inr e ↦ elim (tells n.rooted) [
    | inr fresh ↦ inr (told n c more outside (eqb-false c 47 e) (λ both. cc (both.0, fresh)))
    | inl rooted ↦ elim (tells (begins_name c)) [
      | inl named ↦ inl (record { byte = c; more = more; is = refl; outside = outside; tells = inr (rooted, named) })
      | inr nameless ↦ inr (told n c more outside (eqb-false c 47 e) (λ both. cc (both.1, nameless)))
    ]
  ]
]

strayness : (n : Nest) (rest : List ℕ) → Strayness n (60 ∷ rest)
strayness n rest = elim (open_or_not n) [
  | inr inside ↦ inr (λ s. is_open n inside s.outside)
  | inl outside ↦ by rest outside
]
  where
    by : (more : List ℕ) → IsOutsideRoot n → Strayness n (60 ∷ more)
    by [] outside = inr (λ s. no_second s.byte s.more s.is)
    by (c ∷ more) outside = strayness_at n c more outside

-- a mark turns what is open, or has a fault
record TurnsTo (at : ℕ) (m : TextMark) (n : Nest) : Type 0 where
  next : Nest
  turns : Turns at m n next

abbrev Turn : ℕ → TextMark → Nest → List ℕ → Type 0
Turn at m n rest = TurnsTo at m n ⊎ ((f : SqdFault) × IsFaultAt at n rest f)

close_turns : (at : ℕ) (name after x : List ℕ) (n : Nest) → IsWellFormedMark (close name after) → (IsStray n (mark_bytes (close name after) ++ x) → ⊥) → Turn at (close name after) n (mark_bytes (close name after) ++ x)
close_turns at name after x n h calm = elim (open_or_not n) [
  | inl outside ↦ absurd (calm (record { byte = 47; more = (name ++ (after ++ 62 ∷ [])) ++ x; is = refl; outside = outside; tells = inl refl }))
  | inr inside ↦ elim (tells (bytes_eq inside.innermost.name name)) [
    | inl e ↦ inl (record { next = record { opened = inside.others; rooted = n.rooted }; turns = record { innermost = inside.innermost; opened = inside.opened; named = (bytes_eq-Decides inside.innermost.name name).0 e; rooted = refl } })
    | inr e ↦ inr (WrongClose at, (refl, record { name = name; after = after; valid = h; begins = (x, refl); other = record { innermost = inside.innermost; others = inside.others; opened = inside.opened; named = λ same. cc ((bytes_eq-Decides inside.innermost.name name).1 same, e) } }))
  ]
]

turn_of : (at : ℕ) (m : TextMark) (x : List ℕ) (n : Nest) → IsWellFormedMark m → (IsStray n (mark_bytes m ++ x) → ⊥) → Turn at m n (mark_bytes m ++ x)
turn_of at (start t) x n h calm = inl (record { next = record { opened = n.opened ++ record { at = at; name = t.name } ∷ []; rooted = true }; turns = (tag_may_begin n t (62 ∷ []) x h calm, record { opened = refl; rooted = refl }) })
turn_of at (empty t) x n h calm = inl (record { next = record { opened = n.opened; rooted = true }; turns = (tag_may_begin n t (47 ∷ 62 ∷ []) x h calm, record { opened = refl; rooted = refl }) })
turn_of at (close name after) x n h calm = close_turns at name after x n h calm
turn_of at (comment c) x n h calm = inl (record { next = n; turns = refl })
turn_of at (declaration c) x n h calm = inl (record { next = n; turns = refl })
turn_of at doctype x n h calm = inr (Doctype at, (refl, (x, refl)))
turn_of at cdata x n h calm = inr (Cdata at, (refl, (x, refl)))

-- an item ahead that may stand
record HasItem (at : ℕ) (n : Nest) (left : List ℕ) : Type 0 where
  item : Item
  valid : IsItem item
  next : Nest
  more : List ℕ
  is : left ≡ item_bytes item ++ more
  passes : PassesItem at item n next

-- the text ends here, whole
record Ends (n : Nest) (left : List ℕ) : Type 0 where
  outside : IsOutsideRoot n
  blank : Each is_blank left

data Step (at : ℕ) (n : Nest) (left : List ℕ) : Type 0 where
  passed : HasItem at n left → Step at n left
  ended : Ends n left → Step at n left
  failed : (f : SqdFault) → IsFaultIn at n left f → Step at n left

-- behind text that may stand
behind_text : (at : ℕ) (n : Nest) (left between rest : List ℕ) (f : SqdFault) → left ≡ between ++ rest → Each is_text between → IsQuiet n between → BeginsMark rest → IsFaultAt (at + length between) n rest f → Step at n left
behind_text at n left between rest f is text quiet begins fault = failed f (record { between = between; rest = rest; is = is; text_only = text; found = inr (record { quiet = quiet; begins = begins; found = fault }) })

step_mark : (at : ℕ) (n : Nest) (left between rest : List ℕ) → left ≡ between ++ rest → Each is_text between → IsQuiet n between → BeginsMark rest → (IsStray n rest → ⊥) → HasMark rest → Step at n left
step_mark at n left between rest is text quiet begins calm h =
    elim (turn_of (at + length between) h.mark h.more n h.valid (λ s. calm (subst (IsStray n) (sym h.is) s))) [
      | inl t ↦ passed (record {
        item = record { text = between; mark = h.mark };
        valid = record { text = text; mark = h.valid };
        next = t.next;
        more = h.more;
        is = is ∙ ap (λ r. between ++ r) h.is ∙ sym (append_assoc between (mark_bytes h.mark) h.more);
        passes = record { quiet = quiet; turns = t.turns };
      })
      | inr bad ↦ behind_text at n left between rest bad.0 is text quiet begins (subst (λ r. IsFaultAt (at + length between) n r bad.0) (sym h.is) bad.1)
    ]

step_fault : (at : ℕ) (n : Nest) (left between rest : List ℕ) (fault : SqdFault) → left ≡ between ++ rest → Each is_text between → IsQuiet n between → BeginsMark rest → rest ≢ [] → (IsStray n rest → ⊥) → IsFaultOf (at + length between) rest fault → Step at n left
step_fault at n left between rest fault is text quiet begins some calm h =
    behind_text at n left between rest fault is text quiet begins (scanned (at + length between) n rest fault some calm h)

step_rest : SomeFront → (at : ℕ) (n : Nest) (left between rest : List ℕ) → left ≡ between ++ rest → Each is_text between → IsQuiet n between → BeginsMark rest → Step at n left
step_rest law at n left between [] is text quiet begins = elim (open_or_not n) [
  | inl outside ↦ ended (record { outside = outside; blank = subst (Each is_blank) (sym (is ∙ append-nil between)) (quiet outside) })
  | inr inside ↦ behind_text at n left between [] (NotClosed inside.innermost.at) is text quiet tt (inr (record { none = refl; inside = record { innermost = inside.innermost; others = inside.others; opened = inside.opened; place = refl } }))
]
step_rest law at n left between (b ∷ rest) is text quiet begins =
    elim (subst (λ c. Strayness n (c ∷ rest)) (sym begins) (strayness n rest)) [
      | inl stray ↦ behind_text at n left between (b ∷ rest) (BadMark (at + length between)) is text quiet begins (inl (refl, stray))
      | inr calm ↦ elim (law (at + length between) (b ∷ rest)) [
        | inl h ↦ step_mark at n left between (b ∷ rest) is text quiet begins calm h
        | inr bad ↦ step_fault at n left between (b ∷ rest) bad.0 is text quiet begins (λ e. cc e) calm bad.1
      ]
    ]

step_of : SomeFront → (at : ℕ) (n : Nest) (left : List ℕ) → Step at n left
step_of law at n left =
    let cut = cut_before left in
    elim (open_or_not n) [
      | inr inside ↦ step_rest law at n left cut.between cut.rest cut.is cut.text (λ o. absurd (is_open n inside o)) cut.begins
      | inl outside ↦ elim (blank_or_loud cut.between) [
        | inl blank ↦ step_rest law at n left cut.between cut.rest cut.is cut.text (λ o. blank) cut.begins
        | inr loud ↦ failed (BadMark (at + length loud.blanks)) (record {
          between = cut.between;
          rest = cut.rest;
          is = cut.is;
          text_only = cut.text;
          found = inl (record { outside = outside; blanks = loud.blanks; byte = loud.byte; more = loud.more; is = loud.is; blank = loud.blank; not_blank = loud.not_blank; fault_is = refl });
        })
      ]
    ]

-- a whole text, or one with a first fault
abbrev pub Outcome : List ℕ → Type 0
Outcome text = ((items : List Item) × IsWhole text items) ⊎ ((f : SqdFault) × IsFirstFault text f)

further : (text : List ℕ) (items : List Item) (n : Nest) (left : List ℕ) → Begins text items n left → (h : HasItem (mark_len text + length (flat_map item_bytes items)) n left) → Begins text (items ++ h.item ∷ []) h.next h.more
further text items n left b h =
    let flat : flat_map item_bytes (items ++ h.item ∷ []) ≡ flat_map item_bytes items ++ item_bytes h.item = flat_map-append item_bytes items (h.item ∷ []) ∙ ap (λ t. flat_map item_bytes items ++ t) (append-nil (item_bytes h.item)) in
    record {
      is = b.is ∙ ap (λ t. flat_map item_bytes items ++ t) h.is ∙ sym (append_assoc (flat_map item_bytes items) (item_bytes h.item) h.more) ∙ ap (λ t. t ++ h.more) (sym flat);
      valid = valid_more items h.item b.valid h.valid;
      nested = nested_more (mark_len text) at_first items n h.item h.next b.nested h.passes;
    }

item_less : (at : ℕ) (n : Nest) (left : List ℕ) → (h : HasItem at n left) → length h.more < length left
item_less at n left h =
    let long : length left ≡ length (item_bytes h.item) + length h.more = ap length h.is ∙ length-append (item_bytes h.item) h.more in
    let both : length (item_bytes h.item) ≡ length h.item.text + length (mark_bytes h.item.mark) = length-append h.item.text (mark_bytes h.item.mark) in
    let some = mark_some h.item.mark in
    omega (arith, long, both, some)

-- what becomes of the text by its next step, where it is known behind each item
outcome_by : (text : List ℕ) (items : List Item) (n : Nest) (left : List ℕ) → Begins text items n left → Step (mark_len text + length (flat_map item_bytes items)) n left → ((h : HasItem (mark_len text + length (flat_map item_bytes items)) n left) → Outcome text) → Outcome text
outcome_by text items n left b (ended e) on = inl (items, record { nest = n; rest = left; begins = b; closed = e.outside; blank = e.blank })
outcome_by text items n left b (failed f fault) on = inr (f, record { items = items; nest = n; left = left; begins = b; found = fault })
outcome_by text items n left b (passed h) on = on h

-- what becomes of the text, where fewer bytes than this are left
outcome_behind : SomeFront → (bound : ℕ) (text : List ℕ) (items : List Item) (n : Nest) (left : List ℕ) → Begins text items n left → length left < bound → Outcome text
outcome_behind law zero text items n left b h = absurd (omega (arith, h))
outcome_behind law (suc bound) text items n left b h =
    let at : ℕ = mark_len text + length (flat_map item_bytes items) in
    outcome_by text items n left b (step_of law at n left) (λ i.
    let less = item_less at n left i in
    outcome_behind law bound text (items ++ i.item ∷ []) i.next i.more (further text items n left b i) (omega (arith, h, less)))

-- each text has an outcome
pub outcome : SomeFront → (text : List ℕ) → Outcome text
outcome law text = outcome_behind law (suc (length text_left)) text [] at_first text_left (record { is = refl; valid = tt; nested = refl }) (omega arith)
  where
    text_left : List ℕ
    text_left = drop (mark_len text) text
