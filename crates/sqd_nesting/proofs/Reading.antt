-- Steps of the reader of marks.
use Rattle.std.proofs.Common.{◌≡◌, ◌∙◌, sym, ap, refl, subst, ℕ, ◌+◌, ◌-◌, ◌≤◌, ◌<◌, List, [], ◌∷◌, ◌++◌, append_assoc, ◌⊎◌, inl, inr, arith, length, take, drop, length-append, length-drop}
use Rattle.std.specs.List.{flat_map, AllByRecursion}
use Rattle.std.proofs.lemmas.List.{append-nil, take-append-drop, length-take-le}
use Rattle.std.proofs.lemmas.List.Concat.{flat_map-append}
use Rattle.sqd_marks.specs.Marks.{TextMark, start, empty, close, comment, declaration, doctype, cdata, IsWellFormedMark, kind_of_mark, mark_bytes}
use Rattle.sqd_nesting.specs.Texts.{Item, IsItem, item_bytes, Nest, Turns, PassesItem, Nested, Begins, mark_len, at_first}
use Rattle.sqd_nesting.specs.Faults.{IsStray, IsFaultAt, IsFaultIn, IsFirstFault, HasInnermost, BeginsMark}
use Rattle.sqd_nesting.specs.Views.{nest_of, Shows, ShowAll, IsRead, IsMarkAhead, IsLastText, IsPassed, IsEnd, IsFaultOrMemory}
use Rattle.sqd_nesting.specs.declared.read.Passed.{Passed}
use Rattle.sqd_nesting.specs.declared.ahead.Ahead.{Ahead}
use Rattle.sqd_nesting.specs.declared.read.PlacedMark.{PlacedMark}
use Rattle.sqd_scan.specs.declared.fault.SqdFault.{SqdFault}
use Rattle.sqd_scan.specs.declared.fault.SqdFault.TheVariants.{NotClosed, Memory}
use Rattle.sqd_nesting.proofs.Betweens.{behind}

-- what was read so far
pub record Reading (text : List ℕ) (at : ℕ) (left : List ℕ) (found : List PlacedMark) (nest : Nest) : Type 0 where
  pub items : List Item
  pub begins : Begins text items nest left
  pub place : at ≡ mark_len text + length (flat_map item_bytes items)
  pub shown : ShowAll (mark_len text) found items

pub at_start : (text : List ℕ) → Reading text (mark_len text) (drop (mark_len text) text) [] at_first
at_start text = record { items = []; begins = record { is = refl; valid = tt; nested = refl }; place = omega arith; shown = tt }

pub valid_more : (items : List Item) (i : Item) → AllByRecursion IsItem items → IsItem i → AllByRecursion IsItem (items ++ i ∷ [])
valid_more [] i hs h = (h, tt)
valid_more (j ∷ items) i hs h = (hs.0, valid_more items i hs.1 h)

pub nested_more : (at : ℕ) (old : Nest) (items : List Item) (nest : Nest) (i : Item) (new : Nest) → Nested at old items nest → PassesItem (at + length (flat_map item_bytes items)) i nest new → Nested at old (items ++ i ∷ []) new
nested_more at old [] nest i new h passes =
    let here : at + 0 ≡ at = omega arith in
    (new, subst (λ k. PassesItem k i old new) here (subst (λ n. PassesItem (at + 0) i n new) (sym h) passes), refl)
nested_more at old (j ∷ items) nest i new h passes =
    let long : length (item_bytes j ++ flat_map item_bytes items) ≡ length (item_bytes j) + length (flat_map item_bytes items) = length-append (item_bytes j) (flat_map item_bytes items) in
    let here : at + length (item_bytes j ++ flat_map item_bytes items) ≡ at + length (item_bytes j) + length (flat_map item_bytes items) = omega (arith, long) in
    (h.0, h.1, nested_more (at + length (item_bytes j)) h.0 items nest i new h.2 (subst (λ k. PassesItem k i nest new) here passes))

shown_more : (at : ℕ) (fs : List PlacedMark) (items : List Item) (f : PlacedMark) (i : Item) → ShowAll at fs items → Shows (at + length (flat_map item_bytes items)) f i → ShowAll at (fs ++ f ∷ []) (items ++ i ∷ [])
shown_more at [] [] f i h s =
    let here : at + 0 ≡ at = omega arith in
    (subst (λ k. Shows k f i) here s, tt)
shown_more at [] (j ∷ items) f i h s = absurd h
shown_more at (g ∷ fs) [] f i h s = absurd h
shown_more at (g ∷ fs) (j ∷ items) f i h s =
    let long : length (item_bytes j ++ flat_map item_bytes items) ≡ length (item_bytes j) + length (flat_map item_bytes items) = length-append (item_bytes j) (flat_map item_bytes items) in
    let here : at + length (item_bytes j ++ flat_map item_bytes items) ≡ at + length (item_bytes j) + length (flat_map item_bytes items) = omega (arith, long) in
    (h.0, shown_more (at + length (item_bytes j)) fs items f i h.1 (subst (λ k. Shows k f i) here s))

-- what a mark that was scanned does
pub record Turned (at : ℕ) (a : Ahead) (old new : Nest) (bytes : List ℕ) : Type 0 where
  pub turns : (m : TextMark) (more : List ℕ) → IsWellFormedMark m → kind_of_mark m ≡ a.whole.kind → mark_bytes m ≡ bytes → (IsStray old (bytes ++ more) → ⊥) → Turns (at + a.gap) m old new

-- the mark ahead has been passed
pub passed : (at : ℕ) (left : List ℕ) (old : Nest) (a : Ahead) (p : Passed) → IsMarkAhead old left a → Turned at a old (nest_of p.behind.nesting) p.found.bytes.now → p.found.at ≡ at + a.gap → p.found.kind ≡ a.whole.kind → p.found.bytes.now ≡ take a.whole.len (drop a.gap left) → p.behind.at ≡ at + a.gap + a.whole.len → p.behind.left.now ≡ drop a.whole.len (drop a.gap left) → IsPassed at old left p
passed at left old a p ahead turned here kind bytes place behind =
    let rest : List ℕ = drop a.gap left in
    let of = ahead.mark in
    let calm = subst (λ b. IsStray old b → ⊥) (sym (take-append-drop a.whole.len rest) ∙ ap (λ b. b ++ drop a.whole.len rest) (sym bytes)) ahead.calm in
    let turns = turned.turns of.mark (drop a.whole.len rest) of.valid of.form (of.spelled ∙ sym bytes) calm in
    let i : Item = record { text = take a.gap left; mark = of.mark } in
    let within : a.gap ≤ length left = omega (arith, ahead.within) in
    let gap : length (take a.gap left) ≡ a.gap = length-take-le a.gap left within in
    let long : length rest ≡ length left - a.gap = length-drop a.gap left in
    let len : length (mark_bytes of.mark) ≡ a.whole.len = ap length of.spelled ∙ length-take-le a.whole.len rest (omega (arith, ahead.within, long)) in
    let both : length (item_bytes i) ≡ length (take a.gap left) + length (mark_bytes of.mark) = length-append (take a.gap left) (mark_bytes of.mark) in
    let whole : item_bytes i ++ drop a.whole.len rest ≡ left = append_assoc (take a.gap left) (mark_bytes of.mark) (drop a.whole.len rest) ∙ ap (λ t. take a.gap left ++ (t ++ drop a.whole.len rest)) of.spelled ∙ ap (λ t. take a.gap left ++ t) (take-append-drop a.whole.len rest) ∙ take-append-drop a.gap left in
    let there : at + a.gap ≡ at + length i.text = omega (arith, gap) in
    record {
      item = i;
      valid = record { text = ahead.text; mark = of.valid };
      is = sym whole ∙ ap (λ t. item_bytes i ++ t) (sym behind);
      passes = record { quiet = ahead.quiet; turns = subst (λ k. Turns k of.mark old (nest_of p.behind.nesting)) there turns };
      place = omega (arith, place, both, gap, len);
      shown = record { place = here ∙ there; form = kind ∙ sym of.form; bytes = bytes ∙ sym of.spelled };
    }

-- a passed mark is read
pub read_on : (text : List ℕ) (at : ℕ) (left : List ℕ) (found : List PlacedMark) (old : Nest) (p : Passed) → Reading text at left found old → IsPassed at old left p → Reading text p.behind.at p.behind.left.now (found ++ p.found ∷ []) (nest_of p.behind.nesting)
read_on text at left found old p r h =
    let flat : flat_map item_bytes (r.items ++ h.item ∷ []) ≡ flat_map item_bytes r.items ++ item_bytes h.item = flat_map-append item_bytes r.items (h.item ∷ []) ∙ ap (λ t. flat_map item_bytes r.items ++ t) (append-nil (item_bytes h.item)) in
    let long : length (flat_map item_bytes (r.items ++ h.item ∷ [])) ≡ length (flat_map item_bytes r.items) + length (item_bytes h.item) = ap length flat ∙ length-append (flat_map item_bytes r.items) (item_bytes h.item) in
    record {
      items = r.items ++ h.item ∷ [];
      begins = record {
        is = r.begins.is ∙ ap (λ t. flat_map item_bytes r.items ++ t) h.is ∙ sym (append_assoc (flat_map item_bytes r.items) (item_bytes h.item) p.behind.left.now) ∙ ap (λ t. t ++ p.behind.left.now) (sym flat);
        valid = valid_more r.items h.item r.begins.valid h.valid;
        nested = nested_more (mark_len text) at_first r.items old h.item (nest_of p.behind.nesting) r.begins.nested (subst (λ k. PassesItem k h.item old (nest_of p.behind.nesting)) r.place h.passes);
      };
      place = omega (arith, h.place, r.place, long);
      shown = shown_more (mark_len text) found r.items p.found h.item r.shown (subst (λ k. Shows k p.found h.item) r.place h.shown);
    }

-- a fault in what is left, or want of memory
pub refused_in : (text : List ℕ) (at : ℕ) (left : List ℕ) (found : List PlacedMark) (nest : Nest) (fault : SqdFault) → Reading text at left found nest → IsFaultOrMemory at nest left fault → (fault ≡ Memory) ⊎ IsFirstFault text fault
refused_in text at left found nest fault r (inl e) = inl e
refused_in text at left found nest fault r (inr h) = inr (record { items = r.items; nest = nest; left = left; begins = r.begins; found = subst (λ k. IsFaultIn k nest left fault) r.place h })

pub begins_mark : (m : TextMark) (more : List ℕ) → BeginsMark (mark_bytes m ++ more)
begins_mark (start t) more = refl
begins_mark (empty t) more = refl
begins_mark (close n w) more = refl
begins_mark (comment c) more = refl
begins_mark (declaration c) more = refl
begins_mark doctype more = refl
begins_mark cdata more = refl

-- a fault of a mark that was scanned
pub turn_fault : (at : ℕ) (left : List ℕ) (old : Nest) (a : Ahead) (fault : SqdFault) (bytes : List ℕ) → IsMarkAhead old left a → bytes ≡ take a.whole.len (drop a.gap left)
    → ((fault ≡ Memory) ⊎ ((m : TextMark) (more : List ℕ) → IsWellFormedMark m → kind_of_mark m ≡ a.whole.kind → mark_bytes m ≡ bytes → (IsStray old (bytes ++ more) → ⊥) → IsFaultAt (at + a.gap) old (bytes ++ more) fault))
    → IsFaultOrMemory at old left fault
turn_fault at left old a fault bytes ahead is (inl e) = inl e
turn_fault at left old a fault bytes ahead is (inr bad) =
    let rest : List ℕ = drop a.gap left in
    let of = ahead.mark in
    let same : bytes ++ drop a.whole.len rest ≡ rest = ap (λ b. b ++ drop a.whole.len rest) is ∙ take-append-drop a.whole.len rest in
    let calm = subst (λ b. IsStray old b → ⊥) (sym same) ahead.calm in
    let within : a.gap ≤ length left = omega (arith, ahead.within) in
    let at_fault = subst (λ b. IsFaultAt (at + a.gap) old b fault) same (bad of.mark (drop a.whole.len rest) of.valid of.form (of.spelled ∙ sym is) calm) in
    let begins = subst BeginsMark (ap (λ b. b ++ drop a.whole.len rest) (of.spelled ∙ sym is) ∙ same) (begins_mark of.mark (drop a.whole.len rest)) in
    inr (behind at old left a.gap (at + a.gap) fault refl within ahead.text ahead.quiet begins at_fault)

-- the text ends inside an element
pub end_fault : (at : ℕ) (left : List ℕ) (nest : Nest) (k : ℕ) → IsLastText nest left → HasInnermost k nest → IsFaultIn at nest left (NotClosed k)
end_fault at left nest k last inside =
    record { between = left; rest = []; is = sym (append-nil left); text_only = last.text; found = inr (record { quiet = last.quiet; begins = tt; found = inr (record { none = refl; inside = inside }) }) }

-- the text is whole
pub read_whole : (text : List ℕ) (at : ℕ) (left : List ℕ) (found : List PlacedMark) (nest : Nest) → Reading text at left found nest → IsEnd nest left → IsRead text found
read_whole text at left found nest r end = record { items = r.items; whole = record { nest = nest; rest = left; begins = r.begins; closed = end.outside; blank = end.blank }; shown = r.shown }

-- what is behind an item is shorter
pub passed_len : (at : ℕ) (old : Nest) (left : List ℕ) (p : Passed) → (h : IsPassed at old left p) → p.behind.at + length p.behind.left.now ≡ at + length left
passed_len at old left p h =
    let long : length left ≡ length (item_bytes h.item) + length p.behind.left.now = ap length h.is ∙ length-append (item_bytes h.item) p.behind.left.now in
    omega (arith, h.place, long)

pub mark_some : (m : TextMark) → 0 < length (mark_bytes m)
mark_some (start t) = omega arith
mark_some (empty t) = omega arith
mark_some (close n w) = omega arith
mark_some (comment c) = omega arith
mark_some (declaration c) = omega arith
mark_some doctype = omega arith
mark_some cdata = omega arith

pub passed_less : (at : ℕ) (old : Nest) (left : List ℕ) (p : Passed) → (h : IsPassed at old left p) → length p.behind.left.now < length left
passed_less at old left p h =
    let long : length left ≡ length (item_bytes h.item) + length p.behind.left.now = ap length h.is ∙ length-append (item_bytes h.item) p.behind.left.now in
    let both : length (item_bytes h.item) ≡ length h.item.text + length (mark_bytes h.item.mark) = length-append h.item.text (mark_bytes h.item.mark) in
    let some = mark_some h.item.mark in
    omega (arith, long, both, some)
