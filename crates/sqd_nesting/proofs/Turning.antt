-- What turns at a mark, from its bytes.
use Rattle.std.proofs.Common.{◌≡◌, ◌∙◌, sym, ap, refl, subst, ℕ, List, [], ◌∷◌, ◌++◌, append_assoc, ◌⊎◌, inl, inr}
use Rattle.sqd_marks.specs.Bytes.{IsName}
use Rattle.sqd_marks.specs.Marks.{Tag, IsTag, TextMark, start, empty, close, comment, declaration, doctype, cdata, IsWellFormedMark, kind_of_mark, mark_bytes, tag_bytes}
use Rattle.sqd_marks.specs.Tags.{IsTagOf}
use Rattle.sqd_marks.specs.declared.kind.Kind.TheVariants as kinds
use Rattle.sqd_nesting.specs.Texts.{Nest, MayBegin, Turns, HasBegun, HasPassedElement, HasEnded}
use Rattle.sqd_nesting.specs.Faults.{HasOther, EndsOther, IsStray, IsFaultAt}
use Rattle.sqd_scan.specs.declared.fault.SqdFault.TheVariants.{WrongClose, Doctype, Cdata}
use Rattle.sqd_marks.proofs.ByteFacts.{tells}

-- an element may begin where its mark isn't stray
may_begin : (n : Nest) (name tail : List ℕ) → IsName name → (IsStray n (60 ∷ (name ++ tail)) → ⊥) → MayBegin n
may_begin n [] tail h calm outside = absurd h
may_begin n (b ∷ name) tail h calm outside = elim (tells n.rooted) [
  | inl e ↦ absurd (calm (record { byte = b; more = name ++ tail; is = refl; outside = outside; tells = inr (e, h.0) }))
  | inr e ↦ e
]

pub tag_may_begin : (n : Nest) (t : Tag) (finish more : List ℕ) → IsTag t → (IsStray n ((60 ∷ (tag_bytes t ++ finish)) ++ more) → ⊥) → MayBegin n
tag_may_begin n t finish more h calm =
    may_begin n t.name _ h.name (λ s. calm (subst (λ r. IsStray n (60 ∷ r)) (sym (ap (λ r. r ++ more) (append_assoc t.name _ finish) ∙ append_assoc t.name _ more)) s))

-- a start mark
pub start_turns : (m : TextMark) (at : ℕ) (name bytes more : List ℕ) (old new : Nest) → IsWellFormedMark m → kind_of_mark m ≡ kinds.Start → mark_bytes m ≡ bytes → ((t : Tag) → IsTagOf t bytes → name ≡ t.name) → (IsStray old (bytes ++ more) → ⊥) → HasBegun at name old new → Turns at m old new
start_turns (start t) at name bytes more old new h k e f calm begun =
    (tag_may_begin old t (62 ∷ []) more h (λ s. calm (subst (λ b. IsStray old (b ++ more)) e s)), subst (λ n. HasBegun at n old new) (f t (record { valid = h; spelled = inl e })) begun)
start_turns m at name bytes more old new h k e f calm begun = absurd (cc k)

pub empty_turns : (m : TextMark) (at : ℕ) (bytes more : List ℕ) (old new : Nest) → IsWellFormedMark m → kind_of_mark m ≡ kinds.Empty → mark_bytes m ≡ bytes → (IsStray old (bytes ++ more) → ⊥) → HasPassedElement old new → Turns at m old new
empty_turns (empty t) at bytes more old new h k e calm passed =
    (tag_may_begin old t (47 ∷ 62 ∷ []) more h (λ s. calm (subst (λ b. IsStray old (b ++ more)) e s)), passed)
empty_turns m at bytes more old new h k e calm passed = absurd (cc k)

-- an end mark
pub end_turns : (m : TextMark) (at : ℕ) (name bytes : List ℕ) (old new : Nest) → IsWellFormedMark m → kind_of_mark m ≡ kinds.End → mark_bytes m ≡ bytes → ((n after : List ℕ) → IsWellFormedMark (close n after) → mark_bytes (close n after) ≡ bytes → name ≡ n) → HasEnded name old new → Turns at m old new
end_turns (close n after) at name bytes old new h k e f ended = subst (λ x. HasEnded x old new) (f n after h e) ended
end_turns m at name bytes old new h k e f ended = absurd (cc k)

pub end_wrong : (m : TextMark) (at : ℕ) (name bytes more : List ℕ) (old : Nest) → IsWellFormedMark m → kind_of_mark m ≡ kinds.End → mark_bytes m ≡ bytes → ((n after : List ℕ) → IsWellFormedMark (close n after) → mark_bytes (close n after) ≡ bytes → name ≡ n) → (IsStray old (bytes ++ more) → ⊥) → EndsOther name old → IsFaultAt at old (bytes ++ more) (WrongClose at)
end_wrong (close n after) at name bytes more old h k e f calm (inl outside) =
    absurd (calm (subst (λ b. IsStray old (b ++ more)) e (record { byte = 47; more = (n ++ (after ++ 62 ∷ [])) ++ more; is = refl; outside = outside; tells = inl refl })))
end_wrong (close n after) at name bytes more old h k e f calm (inr other) =
    (refl, record { name = n; after = after; valid = h; begins = (more, ap (λ b. b ++ more) (sym e)); other = subst (λ x. HasOther x old) (f n after h e) other })
end_wrong m at name bytes more old h k e f calm other = absurd (cc k)

pub comment_turns : (m : TextMark) (at : ℕ) (old : Nest) → (kind_of_mark m ≡ kinds.Comment) ⊎ (kind_of_mark m ≡ kinds.Declaration) → Turns at m old old
comment_turns (comment c) at old k = refl
comment_turns (declaration c) at old k = refl
comment_turns m at old (inl k) = absurd (cc k)
comment_turns m at old (inr k) = absurd (cc k)

pub doctype_bad : (m : TextMark) (at : ℕ) (bytes more : List ℕ) (old : Nest) → kind_of_mark m ≡ kinds.Doctype → mark_bytes m ≡ bytes → IsFaultAt at old (bytes ++ more) (Doctype at)
doctype_bad doctype at bytes more old k e = (refl, (more, ap (λ b. b ++ more) (sym e)))
doctype_bad m at bytes more old k e = absurd (cc k)

pub cdata_bad : (m : TextMark) (at : ℕ) (bytes more : List ℕ) (old : Nest) → kind_of_mark m ≡ kinds.Cdata → mark_bytes m ≡ bytes → IsFaultAt at old (bytes ++ more) (Cdata at)
cdata_bad cdata at bytes more old k e = (refl, (more, ap (λ b. b ++ more) (sym e)))
cdata_bad m at bytes more old k e = absurd (cc k)
