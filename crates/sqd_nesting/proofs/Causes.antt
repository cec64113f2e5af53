-- A mark that may stand has no fault, and a fault has one cause.
use Rattle.std.proofs.Common.{◌≡◌, ◌≢◌, ◌∙◌, sym, ap, refl, subst, ℕ, ◌+◌, List, [], ◌∷◌, ◌++◌, Bool, true, false, append_assoc, inl, inr}
use Rattle.std.proofs.lemmas.Bool.{eqb-false}
use Rattle.sqd_marks.specs.Bytes.{begins_name, IsName}
use Rattle.sqd_marks.specs.Marks.{Tag, IsTag, TextMark, start, empty, close, comment, declaration, doctype, cdata, IsWellFormedMark, mark_bytes, tag_bytes}
use Rattle.sqd_scan.specs.Fronts.{IsCut, IsBadAt, IsFaultOf}
use Rattle.sqd_nesting.specs.Texts.{Opened, Nest, IsOutsideRoot, MayBegin, Turns}
use Rattle.sqd_nesting.specs.Faults.{HasInnermost, HasOther, IsStray, BeginsWithMark, IsFaultAt}
use Rattle.sqd_scan.specs.declared.fault.SqdFault.{SqdFault}
use Rattle.sqd_scan.specs.declared.fault.SqdFault.TheVariants.{BadMark, NotClosed, WrongClose, Doctype, Cdata}
use Rattle.sqd_nesting.proofs.Once.{OneMark, no_mark}

-- what the marks in front of bytes promise
pub record Laws : Type 0 where
  pub one_mark : OneMark
  pub no_fault : (at : ℕ) (bytes : List ℕ) (m : TextMark) (x : List ℕ) (fault : SqdFault) → IsWellFormedMark m → bytes ≡ mark_bytes m ++ x → IsFaultOf at bytes fault → ⊥
  pub one_fault : (at : ℕ) (bytes : List ℕ) (f g : SqdFault) → IsFaultOf at bytes f → IsFaultOf at bytes g → f ≡ g

-- lists with one more at the end
pub record SameEnd (a b : List Opened) (x y : Opened) : Type 0 where
  pub others : a ≡ b
  pub last : x ≡ y

pub some_end : (a : List Opened) (x : Opened) → [] ≡ a ++ x ∷ [] → ⊥
some_end [] x e = cc e
some_end (y ∷ a) x e = cc e

pub same_end : (a b : List Opened) (x y : Opened) → a ++ x ∷ [] ≡ b ++ y ∷ [] → SameEnd a b x y
same_end [] [] x y e = record { others = refl; last = cc e }
same_end [] (d ∷ b) x y e =
    let rest : [] ≡ b ++ y ∷ [] = cc e in
    absurd (some_end b y rest)
same_end (c ∷ a) [] x y e =
    let rest : [] ≡ a ++ x ∷ [] = cc (sym e) in
    absurd (some_end a x rest)
same_end (c ∷ a) (d ∷ b) x y e =
    let first : c ≡ d = cc e in
    let rest : a ++ x ∷ [] ≡ b ++ y ∷ [] = cc e in
    let same = same_end a b x y rest in
    record { others = ap (λ o. o ∷ a) first ∙ ap (λ l. d ∷ l) same.others; last = same.last }

abbrev nest : List Opened → Bool → Nest
nest opened rooted = record { opened = opened; rooted = rooted }

same_nest : (a b : Nest) → a.opened ≡ b.opened → a.rooted ≡ b.rooted → a ≡ b
same_nest a b e f = ap (λ o. nest o a.rooted) e ∙ ap (λ r. nest b.opened r) f

-- what is open after a mark is one nest
pub one_turn : (at : ℕ) (m : TextMark) (old a b : Nest) → Turns at m old a → Turns at m old b → a ≡ b
one_turn at (start t) old a b h g = same_nest a b (h.1.opened ∙ sym g.1.opened) (h.1.rooted ∙ sym g.1.rooted)
one_turn at (empty t) old a b h g = same_nest a b (h.1.opened ∙ sym g.1.opened) (h.1.rooted ∙ sym g.1.rooted)
one_turn at (close n w) old a b h g = same_nest a b (same_end a.opened b.opened h.innermost g.innermost (sym h.opened ∙ g.opened)).others (h.rooted ∙ sym g.rooted)
one_turn at (comment c) old a b h g = h ∙ sym g
one_turn at (declaration c) old a b h g = h ∙ sym g
one_turn at doctype old a b h g = absurd h
one_turn at cdata old a b h g = absurd h

-- a stray mark can't be passed
name_first : (byte : ℕ) (more n tail : List ℕ) → IsName n → 60 ∷ byte ∷ more ≡ 60 ∷ (n ++ tail) → begins_name byte ≡ true
name_first byte more [] tail h e = absurd h
name_first byte more (b ∷ n) tail h e =
    let same : byte ≡ b = cc e in
    subst (λ k. begins_name k ≡ true) (sym same) h.0

tag_first : (byte : ℕ) (more x finish : List ℕ) (t : Tag) → IsTag t → 60 ∷ byte ∷ more ≡ (60 ∷ (tag_bytes t ++ finish)) ++ x → begins_name byte ≡ true
tag_first byte more x finish t h e =
    name_first byte more t.name _ h.name (e ∙ ap (λ r. 60 ∷ r) (ap (λ r. r ++ x) (append_assoc t.name _ finish) ∙ append_assoc t.name _ x))

no_tag : (n : Nest) (rest : List ℕ) → (s : IsStray n rest) → begins_name s.byte ≡ true → MayBegin n → ⊥
no_tag n rest s named may = elim s.tells [
  | inl e ↦
      let wrong : begins_name 47 ≡ true = ap begins_name (sym e) ∙ named in
      cc wrong
  | inr both ↦
      let fresh = may s.outside in
      cc (both.0, fresh)
]

not_told : (n : Nest) (rest : List ℕ) (b : ℕ) → (s : IsStray n rest) → s.byte ≡ b → b ≢ 47 → begins_name b ≡ false → ⊥
not_told n rest b s e other nameless = elim s.tells [
  | inl is ↦ other (sym e ∙ is)
  | inr both ↦
      let named : begins_name b ≡ true = ap begins_name (sym e) ∙ both.1 in
      cc (named, nameless)
]

-- the second bytes of comments and the like, and of declarations
bang_nameless : begins_name 33 ≡ false
bang_nameless = refl

asked_nameless : begins_name 63 ≡ false
asked_nameless = refl

second : (a b : ℕ) (x y : List ℕ) → 60 ∷ a ∷ x ≡ 60 ∷ b ∷ y → a ≡ b
second a b x y e = cc e

no_bang : (n : Nest) (rest x : List ℕ) → rest ≡ 60 ∷ 33 ∷ x → IsStray n rest → ⊥
no_bang n rest x e s = not_told n rest 33 s (second s.byte 33 s.more x (sym s.is ∙ e)) (eqb-false 33 47 refl) bang_nameless

no_asked : (n : Nest) (rest x : List ℕ) → rest ≡ 60 ∷ 63 ∷ x → IsStray n rest → ⊥
no_asked n rest x e s = not_told n rest 63 s (second s.byte 63 s.more x (sym s.is ∙ e)) (eqb-false 63 47 refl) asked_nameless

pub stray_stops : (at : ℕ) (m : TextMark) (n next : Nest) (rest x : List ℕ) → IsStray n rest → rest ≡ mark_bytes m ++ x → IsWellFormedMark m → Turns at m n next → ⊥
stray_stops at (start t) n next rest x s e h turns = no_tag n rest s (tag_first s.byte s.more x (62 ∷ []) t h (sym s.is ∙ e)) turns.0
stray_stops at (empty t) n next rest x s e h turns = no_tag n rest s (tag_first s.byte s.more x (47 ∷ 62 ∷ []) t h (sym s.is ∙ e)) turns.0
stray_stops at (close name w) n next rest x s e h turns = some_end next.opened turns.innermost (sym s.outside ∙ turns.opened)
stray_stops at (comment c) n next rest x s e h turns = no_bang n rest _ e s
stray_stops at (declaration c) n next rest x s e h turns = no_asked n rest _ e s
stray_stops at doctype n next rest x s e h turns = turns
stray_stops at cdata n next rest x s e h turns = turns

-- the fault of a mark that may not stand at this place
abbrev fault_of : TextMark → ℕ → SqdFault
fault_of doctype at = Doctype at
fault_of cdata at = Cdata at
fault_of _ at = WrongClose at

-- the cause of a fault: a whole mark, the end of the text inside one or inside an element, an element that may not begin or end, a byte
data Cause (at : ℕ) (n : Nest) (rest : List ℕ) (f : SqdFault) : Type 0 where
  whole : (m : TextMark) → IsWellFormedMark m → BeginsWithMark m rest → (IsStray n rest → ⊥) → f ≡ fault_of m at → Cause at n rest f
  inside : rest ≢ [] → IsCut rest → (IsStray n rest → ⊥) → f ≡ NotClosed at → Cause at n rest f
  unclosed : (k : ℕ) → rest ≡ [] → HasInnermost k n → f ≡ NotClosed k → Cause at n rest f
  stray : IsStray n rest → f ≡ BadMark at → Cause at n rest f
  broken : (j : ℕ) → IsBadAt rest j → (IsStray n rest → ⊥) → f ≡ BadMark (at + j) → Cause at n rest f

no_inside : (name : List ℕ) (n : Nest) → HasOther name n → IsOutsideRoot n → ⊥
no_inside name n h outside = some_end h.others h.innermost (sym outside ∙ h.opened)

cause_of : (at : ℕ) (n : Nest) (rest : List ℕ) (f : SqdFault) → IsFaultAt at n rest f → Cause at n rest f
cause_of at n rest (Doctype k) h = whole doctype tt h.1 (no_bang n rest _ h.1.1) (ap Doctype h.0)
cause_of at n rest (Cdata k) h = whole cdata tt h.1 (no_bang n rest _ h.1.1) (ap Cdata h.0)
cause_of at n rest (WrongClose k) h = whole (close h.1.name h.1.after) h.1.valid h.1.begins (λ s. no_inside h.1.name n h.1.other s.outside) (ap WrongClose h.0)
cause_of at n rest (NotClosed k) (inl h) = inside h.1.some h.1.cut h.1.calm (ap NotClosed h.0)
cause_of at n rest (NotClosed k) (inr h) = unclosed k h.none h.inside refl
cause_of at n rest (BadMark k) (inl h) = stray h.1 (ap BadMark h.0)
cause_of at n rest (BadMark k) (inr h) = broken h.0 h.2.bad h.2.calm (ap BadMark h.1)
cause_of at n rest _ h = absurd h

pub no_bad : (j : ℕ) → IsBadAt [] j → ⊥
no_bad j h = bytes_end h.front h.bad h.more h.is
  where
    bytes_end : (a : List ℕ) (b : ℕ) (x : List ℕ) → [] ≡ a ++ b ∷ x → ⊥
    bytes_end [] b x e = cc e
    bytes_end (c ∷ a) b x e = cc e

-- causes of one sort come first in this order: two of them are of one sort
ordered : Laws → (at : ℕ) (n : Nest) (rest : List ℕ) (f g : SqdFault) → Cause at n rest f → Cause at n rest g → f ≡ g
ordered law at n rest f g (whole m h b calm e) (whole k i c stay d) =
    let same = law.one_mark m k b.0 c.0 h i (sym b.1 ∙ c.1) in
    e ∙ ap (λ o. fault_of o at) same ∙ sym d
ordered law at n rest f g (whole m h b calm e) (inside some cut stay d) = absurd (law.no_fault at rest m b.0 (NotClosed at) h b.1 (refl, cut))
ordered law at n rest f g (whole m h b calm e) (unclosed k none has d) = absurd (no_mark m b.0 (sym none ∙ b.1))
ordered law at n rest f g (whole m h b calm e) (stray s d) = absurd (calm s)
ordered law at n rest f g (whole m h b calm e) (broken j bad stay d) = absurd (law.no_fault at rest m b.0 (BadMark (at + j)) h b.1 (j, refl, bad))
ordered law at n rest f g (inside some cut calm e) (whole m h b stay d) = absurd (law.no_fault at rest m b.0 (NotClosed at) h b.1 (refl, cut))
ordered law at n rest f g (inside some cut calm e) (inside more gone stay d) = e ∙ sym d
ordered law at n rest f g (inside some cut calm e) (unclosed k none has d) = absurd (some none)
ordered law at n rest f g (inside some cut calm e) (stray s d) = absurd (calm s)
ordered law at n rest f g (inside some cut calm e) (broken j bad stay d) =
    let same : NotClosed at ≡ BadMark (at + j) = law.one_fault at rest (NotClosed at) (BadMark (at + j)) (refl, cut) (j, refl, bad) in
    absurd (cc same)
ordered law at n rest f g (unclosed k none has e) (whole m h b stay d) = absurd (no_mark m b.0 (sym none ∙ b.1))
ordered law at n rest f g (unclosed k none has e) (inside some cut stay d) = absurd (some none)
ordered law at n rest f g (unclosed k none has e) (unclosed j nil own d) =
    let same = (same_end has.others own.others has.innermost own.innermost (sym has.opened ∙ own.opened)).last in
    e ∙ ap NotClosed (sym has.place ∙ ap (λ o. o.at) same ∙ own.place) ∙ sym d
ordered law at n rest f g (unclosed k none has e) (stray s d) =
    let both = sym none ∙ s.is in
    absurd (cc both)
ordered law at n rest f g (unclosed k none has e) (broken j bad stay d) = absurd (no_bad j (subst (λ r. IsBadAt r j) none bad))
ordered law at n rest f g (stray s e) (whole m h b stay d) = absurd (stay s)
ordered law at n rest f g (stray s e) (inside some cut stay d) = absurd (stay s)
ordered law at n rest f g (stray s e) (unclosed j none own d) =
    let both = sym none ∙ s.is in
    absurd (cc both)
ordered law at n rest f g (stray s e) (stray r d) = e ∙ sym d
ordered law at n rest f g (stray s e) (broken j bad stay d) = absurd (stay s)
ordered law at n rest f g (broken i bad calm e) (whole m h b stay d) = absurd (law.no_fault at rest m b.0 (BadMark (at + i)) h b.1 (i, refl, bad))
ordered law at n rest f g (broken i bad calm e) (inside some cut stay d) =
    let same : NotClosed at ≡ BadMark (at + i) = law.one_fault at rest (NotClosed at) (BadMark (at + i)) (refl, cut) (i, refl, bad) in
    absurd (cc same)
ordered law at n rest f g (broken i bad calm e) (unclosed j none own d) = absurd (no_bad i (subst (λ r. IsBadAt r i) none bad))
ordered law at n rest f g (broken i bad calm e) (stray s d) = absurd (calm s)
ordered law at n rest f g (broken i bad calm e) (broken j worse stay d) =
    e ∙ law.one_fault at rest (BadMark (at + i)) (BadMark (at + j)) (i, refl, bad) (j, refl, worse) ∙ sym d

-- what is left has one fault where it begins
pub one_cause : Laws → (at : ℕ) (n : Nest) (rest : List ℕ) (f g : SqdFault) → IsFaultAt at n rest f → IsFaultAt at n rest g → f ≡ g
one_cause law at n rest f g h i = ordered law at n rest f g (cause_of at n rest f h) (cause_of at n rest g i)

-- a mark that turns what is open has no fault
pub no_cause : Laws → (at here : ℕ) (n next : Nest) (rest x : List ℕ) (m : TextMark) (f : SqdFault) → IsWellFormedMark m → rest ≡ mark_bytes m ++ x → Turns here m n next → IsFaultAt at n rest f → ⊥
no_cause law at here n next rest x m (Doctype k) h e turns fault =
    let same = law.one_mark m doctype x fault.1.0 h tt (sym e ∙ fault.1.1) in
    subst (λ o. Turns here o n next) same turns
no_cause law at here n next rest x m (Cdata k) h e turns fault =
    let same = law.one_mark m cdata x fault.1.0 h tt (sym e ∙ fault.1.1) in
    subst (λ o. Turns here o n next) same turns
no_cause law at here n next rest x m (WrongClose k) h e turns fault =
    let wrong = fault.1 in
    let same = law.one_mark m (close wrong.name wrong.after) x wrong.begins.0 h wrong.valid (sym e ∙ wrong.begins.1) in
    let ended = subst (λ o. Turns here o n next) same turns in
    let last = (same_end next.opened wrong.other.others ended.innermost wrong.other.innermost (sym ended.opened ∙ wrong.other.opened)).last in
    wrong.other.named (sym (ap (λ o. o.name) last) ∙ ended.named)
no_cause law at here n next rest x m (NotClosed k) h e turns (inl fault) = law.no_fault at rest m x (NotClosed at) h e (refl, fault.1.cut)
no_cause law at here n next rest x m (NotClosed k) h e turns (inr fault) = no_mark m x (sym fault.none ∙ e)
no_cause law at here n next rest x m (BadMark k) h e turns (inl fault) = stray_stops here m n next rest x fault.1 e h turns
no_cause law at here n next rest x m (BadMark k) h e turns (inr fault) = law.no_fault at rest m x (BadMark (at + fault.0)) h e (fault.0, refl, fault.2.bad)
no_cause law at here n next rest x m _ h e turns fault = absurd fault
