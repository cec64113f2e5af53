-- What the scanner passes is a mark.
use Rattle.std.proofs.Common.{◌≡◌, ◌∙◌, sym, ap, refl, subst, ℕ, ◌+◌, ◌<◌, List, [], ◌∷◌, ◌++◌, None, Some, Bool, true, false, cond, append_assoc, inl, inr, eqb, ◌&&◌, not, drop, get_or, arith, length, drop-cons, add-one, lit<}
use Rattle.std.specs.Prelude.{codes}
use Rattle.std.proofs.lemmas.Bool.{eqb-true, eqb-false}
use Rattle.std.proofs.lemmas.List.{append-nil}
use Rattle.sqd_marks.specs.Bytes.{is_blank, begins_name, is_in_name, Each, IsName}
use Rattle.sqd_marks.specs.Marks.{close, comment, declaration, doctype, cdata}
use Rattle.sqd_scan.specs.Fronts.{IsOf}
use Rattle.sqd_scan.specs.Scanning.{step}
use Rattle.sqd_marks.specs.declared.kind.Kind.{Kind}
use Rattle.sqd_marks.specs.declared.kind.Kind.TheVariants as kinds
use Rattle.sqd_scan.specs.declared.stage.Stage.{Stage}
use Rattle.sqd_scan.specs.declared.stage.Stage.TheVariants.{Begin, Open, Name, Space, AttributeName, AttributeGap, Equals, Value, ValueEnd, Slash, EndOpen, EndName, EndGap, Bang, Dash, InComment, OneDash, TwoDashes, InDoctype, InCdata, InDeclaration, Question, Done}
use Rattle.sqd_scan.proofs.Runs.{run, back, dead, name_more}
use Rattle.sqd_scan.proofs.Sound.{InTag, InAttribute, InEquals, InValue, Reaches, done_end, CommentRest, comment_sound, DeclarationRest, declaration_sound}
use Rattle.sqd_scan.proofs.Tags.{InSpace, tag_named, tag_blank, tag_start, tag_empty, attribute_begins, attribute_named, attribute_blank, attribute_equals, equals_blank, equals_quote, value_more, value_ends}
use Rattle.sqd_marks.proofs.ByteFacts.{tells, cond_true, cond_false, each_more}

-- what holds of fewer bytes
abbrev pub Known : List ℕ → Kind → Type 0
Known s k = (stage : Stage) (p : List ℕ) → Reaches stage p → run stage s ≡ Some (Done k) → IsOf k (p ++ s)

-- a byte more, in a stage: the stage after it is reached, and the rest is known
onward : (stage next : Stage) (b : ℕ) (s : List ℕ) (k : Kind) (p : List ℕ) → Known s k → step stage b ≡ Some next → Reaches next (p ++ b ∷ []) → run stage (b ∷ s) ≡ Some (Done k) → IsOf k (p ++ b ∷ s)
onward stage next b s k p known e h r =
    subst (IsOf k) (append_assoc p (b ∷ []) s) (known next (p ++ b ∷ []) h (back stage next b s (Some (Done k)) e r))

-- behind a name or a value of a tag
after_part : (stage : Stage) (b : ℕ) (s : List ℕ) (k : Kind) (p : List ℕ) → Known s k → InTag p → step stage b ≡ cond (is_blank b) (Some Space) (cond (eqb b 62) (Some (Done kinds.Start)) (cond (eqb b 47) (Some Slash) None)) → run stage (b ∷ s) ≡ Some (Done k) → IsOf k (p ++ b ∷ s)
after_part stage b s k p known h is r = elim (tells (is_blank b)) [
  | inl e ↦
      let space = tag_blank p b h e in
      onward stage Space b s k p known (is ∙ cond_true _ _ _ e) (space.whole, space.apart) r
  | inr n ↦ elim (tells (eqb b 62)) [
    | inl e ↦ onward stage (Done kinds.Start) b s k p known (is ∙ cond_false _ _ _ n ∙ cond_true _ _ _ e) (subst (λ c. IsOf kinds.Start (p ++ c ∷ [])) (sym (eqb-true b 62 e)) (tag_start p h)) r
    | inr m ↦ elim (tells (eqb b 47)) [
      | inl e ↦ onward stage Slash b s k p known (is ∙ cond_false _ _ _ n ∙ cond_false _ _ _ m ∙ cond_true _ _ _ e) (p, h, ap (λ c. p ++ c ∷ []) (eqb-true b 47 e)) r
      | inr l ↦ absurd (dead stage (Done k) b s (is ∙ cond_false _ _ _ n ∙ cond_false _ _ _ m ∙ cond_false _ _ _ l) r)
    ]
  ]
]

at_begin : (b : ℕ) (s : List ℕ) (k : Kind) (p : List ℕ) → Known s k → Reaches Begin p → run Begin (b ∷ s) ≡ Some (Done k) → IsOf k (p ++ b ∷ s)
at_begin b s k p known h r = elim (tells (eqb b 60)) [
  | inl e ↦ onward Begin Open b s k p known (cond_true _ _ _ e) (ap (λ t. t ++ b ∷ []) h ∙ ap (λ c. c ∷ []) (eqb-true b 60 e)) r
  | inr n ↦ absurd (dead Begin (Done k) b s (cond_false _ _ _ n) r)
]

declared : (s : List ℕ) (k : Kind) → DeclarationRest k [] s → IsOf k (60 ∷ 63 ∷ s)
declared s k h = record { mark = declaration h.inner; valid = h.without; form = sym h.form; spelled = ap (λ t. 60 ∷ 63 ∷ t) (sym h.is) }

commented : (s : List ℕ) (k : Kind) → CommentRest k [] s → IsOf k (60 ∷ 33 ∷ 45 ∷ 45 ∷ s)
commented s k h = record { mark = comment h.inner; valid = h.without; form = sym h.form; spelled = ap (λ t. 60 ∷ 33 ∷ 45 ∷ 45 ∷ t) (sym h.is) }

at_open : (b : ℕ) (s : List ℕ) (k : Kind) (p : List ℕ) → Known s k → Reaches Open p → run Open (b ∷ s) ≡ Some (Done k) → IsOf k (p ++ b ∷ s)
at_open b s k p known h r = elim (tells (begins_name b)) [
  | inl e ↦ onward Open Name b s k p known (cond_true _ _ _ e) (b ∷ [], (e, tt), ap (λ t. t ++ b ∷ []) h) r
  | inr n ↦ elim (tells (eqb b 47)) [
    | inl e ↦ onward Open EndOpen b s k p known (cond_false _ _ _ n ∙ cond_true _ _ _ e) (ap (λ t. t ++ b ∷ []) h ∙ ap (λ c. 60 ∷ c ∷ []) (eqb-true b 47 e)) r
    | inr m ↦ elim (tells (eqb b 33)) [
      | inl e ↦ onward Open Bang b s k p known (cond_false _ _ _ n ∙ cond_false _ _ _ m ∙ cond_true _ _ _ e) (ap (λ t. t ++ b ∷ []) h ∙ ap (λ c. 60 ∷ c ∷ []) (eqb-true b 33 e)) r
      | inr l ↦ elim (tells (eqb b 63)) [
        | inl e ↦ onward Open InDeclaration b s k p known (cond_false _ _ _ n ∙ cond_false _ _ _ m ∙ cond_false _ _ _ l ∙ cond_true _ _ _ e) (ap (λ t. t ++ b ∷ []) h ∙ ap (λ c. 60 ∷ c ∷ []) (eqb-true b 63 e)) r
        | inr o ↦ absurd (dead Open (Done k) b s (cond_false _ _ _ n ∙ cond_false _ _ _ m ∙ cond_false _ _ _ l ∙ cond_false _ _ _ o) r)
      ]
    ]
  ]
]

at_name : (b : ℕ) (s : List ℕ) (k : Kind) (p : List ℕ) → Known s k → Reaches Name p → run Name (b ∷ s) ≡ Some (Done k) → IsOf k (p ++ b ∷ s)
at_name b s k p known h r = elim (tells (is_in_name b)) [
  | inl e ↦ onward Name Name b s k p known (cond_true _ _ _ e) (h.0 ++ b ∷ [], name_more h.0 b h.1 e, ap (λ t. t ++ b ∷ []) h.2) r
  | inr n ↦ after_part Name b s k p known (tag_named h.0 p h.1 h.2) (cond_false _ _ _ n) r
]

at_space : (b : ℕ) (s : List ℕ) (k : Kind) (p : List ℕ) → Known s k → Reaches Space p → run Space (b ∷ s) ≡ Some (Done k) → IsOf k (p ++ b ∷ s)
at_space b s k p known h r = elim (tells (is_blank b)) [
  | inl e ↦
      let space = tag_blank p b h.0 e in
      onward Space Space b s k p known (cond_true _ _ _ e) (space.whole, space.apart) r
  | inr n ↦ elim (tells (begins_name b)) [
    | inl e ↦
        let whole : InTag p = h.0 in
        let space : InSpace p = record { whole = whole; apart = h.1 } in
        onward Space AttributeName b s k p known (cond_false _ _ _ n ∙ cond_true _ _ _ e) (attribute_begins p b space e) r
    | inr m ↦ after_part Space b s k p known h.0 (cond_false _ _ _ n ∙ cond_false _ _ _ m ∙ sym (cond_false _ _ _ n)) r
  ]
]

before_equals : (stage : Stage) (b : ℕ) (s : List ℕ) (k : Kind) (p : List ℕ) → Known s k → InAttribute p → step stage b ≡ cond (is_blank b) (Some AttributeGap) (cond (eqb b 61) (Some Equals) None) → run stage (b ∷ s) ≡ Some (Done k) → IsOf k (p ++ b ∷ s)
before_equals stage b s k p known h is r = elim (tells (is_blank b)) [
  | inl e ↦ onward stage AttributeGap b s k p known (is ∙ cond_true _ _ _ e) (attribute_blank p b h e) r
  | inr n ↦ elim (tells (eqb b 61)) [
    | inl e ↦ onward stage Equals b s k p known (is ∙ cond_false _ _ _ n ∙ cond_true _ _ _ e) (subst (λ c. InEquals (p ++ c ∷ [])) (sym (eqb-true b 61 e)) (attribute_equals p h)) r
    | inr m ↦ absurd (dead stage (Done k) b s (is ∙ cond_false _ _ _ n ∙ cond_false _ _ _ m) r)
  ]
]

at_attribute : (b : ℕ) (s : List ℕ) (k : Kind) (p : List ℕ) → Known s k → Reaches AttributeName p → run AttributeName (b ∷ s) ≡ Some (Done k) → IsOf k (p ++ b ∷ s)
at_attribute b s k p known h r = elim (tells (is_in_name b)) [
  | inl e ↦ onward AttributeName AttributeName b s k p known (cond_true _ _ _ e) (attribute_named p b h.0 h.1 e) r
  | inr n ↦ before_equals AttributeName b s k p known h.0 (cond_false _ _ _ n) r
]

at_equals : (b : ℕ) (s : List ℕ) (k : Kind) (p : List ℕ) → Known s k → Reaches Equals p → run Equals (b ∷ s) ≡ Some (Done k) → IsOf k (p ++ b ∷ s)
at_equals b s k p known h r = elim (tells (is_blank b)) [
  | inl e ↦ onward Equals Equals b s k p known (cond_true _ _ _ e) (equals_blank p b h e) r
  | inr n ↦ elim (tells (eqb b 34)) [
    | inl e ↦ onward Equals (Value 34) b s k p known (cond_false _ _ _ n ∙ cond_true _ _ _ e) (subst (λ c. InValue 34 (p ++ c ∷ [])) (sym (eqb-true b 34 e)) (equals_quote p 34 h (inl refl))) r
    | inr m ↦ elim (tells (eqb b 39)) [
      | inl e ↦ onward Equals (Value 39) b s k p known (cond_false _ _ _ n ∙ cond_false _ _ _ m ∙ cond_true _ _ _ e) (subst (λ c. InValue 39 (p ++ c ∷ [])) (sym (eqb-true b 39 e)) (equals_quote p 39 h (inr refl))) r
      | inr l ↦ absurd (dead Equals (Done k) b s (cond_false _ _ _ n ∙ cond_false _ _ _ m ∙ cond_false _ _ _ l) r)
    ]
  ]
]

both_not : (a b : Bool) → a ≡ false → b ≡ false → (not a && not b) ≡ true
both_not true b e f = absurd (cc e)
both_not false true e f = absurd (cc f)
both_not false false e f = refl

at_value : (q b : ℕ) (s : List ℕ) (k : Kind) (p : List ℕ) → Known s k → Reaches (Value q) p → run (Value q) (b ∷ s) ≡ Some (Done k) → IsOf k (p ++ b ∷ s)
at_value q b s k p known h r = elim (tells (eqb b q)) [
  | inl e ↦
      let reached : InTag (p ++ q ∷ []) = value_ends q p h in
      onward (Value q) ValueEnd b s k p known (cond_true _ _ _ e) (subst (λ c. InTag (p ++ c ∷ [])) (sym (eqb-true b q e)) reached) r
  | inr n ↦ elim (tells (eqb b 60)) [
    | inl e ↦ absurd (dead (Value q) (Done k) b s (cond_false _ _ _ n ∙ cond_true _ _ _ e) r)
    | inr m ↦ onward (Value q) (Value q) b s k p known (cond_false _ _ _ n ∙ cond_false _ _ _ m) (value_more q p b h (both_not _ _ n m)) r
  ]
]

at_slash : (b : ℕ) (s : List ℕ) (k : Kind) (p : List ℕ) → Known s k → Reaches Slash p → run Slash (b ∷ s) ≡ Some (Done k) → IsOf k (p ++ b ∷ s)
at_slash b s k p known h r = elim (tells (eqb b 62)) [
  | inl e ↦ onward Slash (Done kinds.Empty) b s k p known (cond_true _ _ _ e) (subst (λ c. IsOf kinds.Empty (p ++ c ∷ [])) (sym (eqb-true b 62 e)) (tag_empty p h.0 h.1 h.2)) r
  | inr n ↦ absurd (dead Slash (Done k) b s (cond_false _ _ _ n) r)
]

at_end_open : (b : ℕ) (s : List ℕ) (k : Kind) (p : List ℕ) → Known s k → Reaches EndOpen p → run EndOpen (b ∷ s) ≡ Some (Done k) → IsOf k (p ++ b ∷ s)
at_end_open b s k p known h r = elim (tells (begins_name b)) [
  | inl e ↦ onward EndOpen EndName b s k p known (cond_true _ _ _ e) (b ∷ [], (e, tt), ap (λ t. t ++ b ∷ []) h) r
  | inr n ↦ absurd (dead EndOpen (Done k) b s (cond_false _ _ _ n) r)
]

end_closes : (n w p : List ℕ) → IsName n → Each is_blank w → p ≡ 60 ∷ 47 ∷ (n ++ w) → IsOf kinds.End (p ++ 62 ∷ [])
end_closes n w p h g e = record { mark = close n w; valid = (h, g); form = refl; spelled = sym (ap (λ t. t ++ 62 ∷ []) e ∙ ap (λ t. 60 ∷ 47 ∷ t) (append_assoc n w (62 ∷ []))) }

in_end : (stage : Stage) (b : ℕ) (s : List ℕ) (k : Kind) (p : List ℕ) → Known s k → Reaches EndGap p → step stage b ≡ cond (is_blank b) (Some EndGap) (cond (eqb b 62) (Some (Done kinds.End)) None) → run stage (b ∷ s) ≡ Some (Done k) → IsOf k (p ++ b ∷ s)
in_end stage b s k p known h is r = elim (tells (is_blank b)) [
  | inl e ↦ onward stage EndGap b s k p known (is ∙ cond_true _ _ _ e) (h.0, h.1, h.2 ++ b ∷ [], each_more is_blank h.2 b h.3 e, ap (λ t. t ++ b ∷ []) h.4 ∙ ap (λ t. 60 ∷ 47 ∷ t) (append_assoc h.0 h.2 (b ∷ []))) r
  | inr n ↦ elim (tells (eqb b 62)) [
    | inl e ↦ onward stage (Done kinds.End) b s k p known (is ∙ cond_false _ _ _ n ∙ cond_true _ _ _ e) (subst (λ c. IsOf kinds.End (p ++ c ∷ [])) (sym (eqb-true b 62 e)) (end_closes h.0 h.2 p h.1 h.3 h.4)) r
    | inr m ↦ absurd (dead stage (Done k) b s (is ∙ cond_false _ _ _ n ∙ cond_false _ _ _ m) r)
  ]
]

at_end_name : (b : ℕ) (s : List ℕ) (k : Kind) (p : List ℕ) → Known s k → Reaches EndName p → run EndName (b ∷ s) ≡ Some (Done k) → IsOf k (p ++ b ∷ s)
at_end_name b s k p known h r = elim (tells (is_in_name b)) [
  | inl e ↦ onward EndName EndName b s k p known (cond_true _ _ _ e) (h.0 ++ b ∷ [], name_more h.0 b h.1 e, ap (λ t. t ++ b ∷ []) h.2) r
  | inr n ↦ in_end EndName b s k p known (h.0, h.1, [], tt, h.2 ∙ ap (λ t. 60 ∷ 47 ∷ t) (sym (append-nil h.0))) (cond_false _ _ _ n) r
]

word_more : (p word whole : List ℕ) (n b : ℕ) → n < length word → p ++ drop n word ≡ whole → b ≡ get_or word n 256 → (p ++ b ∷ []) ++ drop (n + 1) word ≡ whole
word_more p word whole n b l h e =
    append_assoc p (b ∷ []) (drop (n + 1) word)
    ∙ ap (λ c. p ++ c ∷ drop (n + 1) word) e
    ∙ ap (λ t. p ++ t) (ap (λ m. get_or word n 256 ∷ drop m word) (add-one n) ∙ sym (drop-cons word n 256 l))
    ∙ h

at_bang : (b : ℕ) (s : List ℕ) (k : Kind) (p : List ℕ) → Known s k → Reaches Bang p → run Bang (b ∷ s) ≡ Some (Done k) → IsOf k (p ++ b ∷ s)
at_bang b s k p known h r = elim (tells (eqb b 45)) [
  | inl e ↦ onward Bang Dash b s k p known (cond_true _ _ _ e) (ap (λ t. t ++ b ∷ []) h ∙ ap (λ c. 60 ∷ 33 ∷ c ∷ []) (eqb-true b 45 e)) r
  | inr n ↦ elim (tells (eqb b 68)) [
    | inl e ↦ onward Bang (InDoctype 1) b s k p known (cond_false _ _ _ n ∙ cond_true _ _ _ e) (lit< tt, ap (λ t. (t ++ b ∷ []) ++ drop 1 (codes "DOCTYPE")) h ∙ ap (λ c. 60 ∷ 33 ∷ c ∷ drop 1 (codes "DOCTYPE")) (eqb-true b 68 e)) r
    | inr m ↦ elim (tells (eqb b 91)) [
      | inl e ↦ onward Bang (InCdata 1) b s k p known (cond_false _ _ _ n ∙ cond_false _ _ _ m ∙ cond_true _ _ _ e) (lit< tt, ap (λ t. (t ++ b ∷ []) ++ drop 1 (codes "[CDATA[")) h ∙ ap (λ c. 60 ∷ 33 ∷ c ∷ drop 1 (codes "[CDATA[")) (eqb-true b 91 e)) r
      | inr l ↦ absurd (dead Bang (Done k) b s (cond_false _ _ _ n ∙ cond_false _ _ _ m ∙ cond_false _ _ _ l) r)
    ]
  ]
]

at_dash : (b : ℕ) (s : List ℕ) (k : Kind) (p : List ℕ) → Known s k → Reaches Dash p → run Dash (b ∷ s) ≡ Some (Done k) → IsOf k (p ++ b ∷ s)
at_dash b s k p known h r = elim (tells (eqb b 45)) [
  | inl e ↦ onward Dash InComment b s k p known (cond_true _ _ _ e) (ap (λ t. t ++ b ∷ []) h ∙ ap (λ c. 60 ∷ 33 ∷ 45 ∷ c ∷ []) (eqb-true b 45 e)) r
  | inr n ↦ absurd (dead Dash (Done k) b s (cond_false _ _ _ n) r)
]

at_doctype : (n b : ℕ) (s : List ℕ) (k : Kind) (p : List ℕ) → Known s k → Reaches (InDoctype n) p → run (InDoctype n) (b ∷ s) ≡ Some (Done k) → IsOf k (p ++ b ∷ s)
at_doctype n b s k p known h r = elim (tells (eqb b (get_or (codes "DOCTYPE") n 256))) [
  | inr l ↦ absurd (dead (InDoctype n) (Done k) b s (cond_false _ _ _ l) r)
  | inl e ↦
      let within : n < 7 = h.0 in
      let here : (p ++ b ∷ []) ++ drop (n + 1) (codes "DOCTYPE") ≡ codes "<!DOCTYPE" = word_more p (codes "DOCTYPE") (codes "<!DOCTYPE") n b h.0 h.1 (eqb-true _ _ e) in
      elim (tells (eqb n 6)) [
        | inl last ↦
            let whole : p ++ b ∷ [] ≡ codes "<!DOCTYPE" = sym (append-nil (p ++ b ∷ [])) ∙ ap (λ m. (p ++ b ∷ []) ++ drop (m + 1) (codes "DOCTYPE")) (sym (eqb-true n 6 last)) ∙ here in
            let of : IsOf kinds.Doctype (p ++ b ∷ []) = record { mark = doctype; valid = tt; form = refl; spelled = sym whole } in
            onward (InDoctype n) (Done kinds.Doctype) b s k p known (cond_true _ _ _ e ∙ cond_true _ _ _ last) of r
        | inr more ↦
            let other = eqb-false n 6 more in
            onward (InDoctype n) (InDoctype (n + 1)) b s k p known (cond_true _ _ _ e ∙ cond_false _ _ _ more) (omega (arith, other), here) r
      ]
]

at_cdata : (n b : ℕ) (s : List ℕ) (k : Kind) (p : List ℕ) → Known s k → Reaches (InCdata n) p → run (InCdata n) (b ∷ s) ≡ Some (Done k) → IsOf k (p ++ b ∷ s)
at_cdata n b s k p known h r = elim (tells (eqb b (get_or (codes "[CDATA[") n 256))) [
  | inr l ↦ absurd (dead (InCdata n) (Done k) b s (cond_false _ _ _ l) r)
  | inl e ↦
      let within : n < 7 = h.0 in
      let here : (p ++ b ∷ []) ++ drop (n + 1) (codes "[CDATA[") ≡ codes "<![CDATA[" = word_more p (codes "[CDATA[") (codes "<![CDATA[") n b h.0 h.1 (eqb-true _ _ e) in
      elim (tells (eqb n 6)) [
        | inl last ↦
            let whole : p ++ b ∷ [] ≡ codes "<![CDATA[" = sym (append-nil (p ++ b ∷ [])) ∙ ap (λ m. (p ++ b ∷ []) ++ drop (m + 1) (codes "[CDATA[")) (sym (eqb-true n 6 last)) ∙ here in
            let of : IsOf kinds.Cdata (p ++ b ∷ []) = record { mark = cdata; valid = tt; form = refl; spelled = sym whole } in
            onward (InCdata n) (Done kinds.Cdata) b s k p known (cond_true _ _ _ e ∙ cond_true _ _ _ last) of r
        | inr more ↦
            let other = eqb-false n 6 more in
            onward (InCdata n) (InCdata (n + 1)) b s k p known (cond_true _ _ _ e ∙ cond_false _ _ _ more) (omega (arith, other), here) r
      ]
]

at_comment : (s : List ℕ) (k : Kind) (p : List ℕ) → Reaches InComment p → run InComment s ≡ Some (Done k) → IsOf k (p ++ s)
at_comment s k p h r = subst (λ q. IsOf k (q ++ s)) (sym h) (commented s k ((comment_sound s k).plain r))

at_declaration : (s : List ℕ) (k : Kind) (p : List ℕ) → Reaches InDeclaration p → run InDeclaration s ≡ Some (Done k) → IsOf k (p ++ s)
at_declaration s k p h r = subst (λ q. IsOf k (q ++ s)) (sym h) (declared s k ((declaration_sound s k).plain r))

at_done : (j : Kind) (s : List ℕ) (k : Kind) (p : List ℕ) → IsOf j p → run (Done j) s ≡ Some (Done k) → IsOf k (p ++ s)
at_done j s k p h r =
    let done = done_end j k s r in
    subst (λ i. IsOf i (p ++ s)) done.same (subst (IsOf j) (sym (append-nil p) ∙ ap (λ t. p ++ t) (sym done.none)) h)

-- from each stage
pub passing : (s : List ℕ) (k : Kind) → Known s k
passing [] k (Done j) p h r = at_done j [] k p h r
passing [] k stage p h r = absurd (cc r)
passing (b ∷ s) k Begin p h r = at_begin b s k p (passing s k) h r
passing (b ∷ s) k Open p h r = at_open b s k p (passing s k) h r
passing (b ∷ s) k Name p h r = at_name b s k p (passing s k) h r
passing (b ∷ s) k Space p h r = at_space b s k p (passing s k) h r
passing (b ∷ s) k AttributeName p h r = at_attribute b s k p (passing s k) h r
passing (b ∷ s) k AttributeGap p h r = before_equals AttributeGap b s k p (passing s k) h refl r
passing (b ∷ s) k Equals p h r = at_equals b s k p (passing s k) h r
passing (b ∷ s) k (Value q) p h r = at_value q b s k p (passing s k) h r
passing (b ∷ s) k ValueEnd p h r = after_part ValueEnd b s k p (passing s k) h refl r
passing (b ∷ s) k Slash p h r = at_slash b s k p (passing s k) h r
passing (b ∷ s) k EndOpen p h r = at_end_open b s k p (passing s k) h r
passing (b ∷ s) k EndName p h r = at_end_name b s k p (passing s k) h r
passing (b ∷ s) k EndGap p h r = in_end EndGap b s k p (passing s k) h refl r
passing (b ∷ s) k Bang p h r = at_bang b s k p (passing s k) h r
passing (b ∷ s) k Dash p h r = at_dash b s k p (passing s k) h r
passing (b ∷ s) k InComment p h r = at_comment (b ∷ s) k p h r
passing (b ∷ s) k OneDash p h r = absurd h
passing (b ∷ s) k TwoDashes p h r = absurd h
passing (b ∷ s) k (InDoctype n) p h r = at_doctype n b s k p (passing s k) h r
passing (b ∷ s) k (InCdata n) p h r = at_cdata n b s k p (passing s k) h r
passing (b ∷ s) k InDeclaration p h r = at_declaration (b ∷ s) k p h r
passing (b ∷ s) k Question p h r = absurd h
passing (b ∷ s) k (Done j) p h r = at_done j (b ∷ s) k p h r

-- what is passed is a mark
pub sound : (s : List ℕ) (k : Kind) → run Begin s ≡ Some (Done k) → IsOf k s
sound s k r = passing s k Begin [] refl r
