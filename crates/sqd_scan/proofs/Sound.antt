-- What the scanner passes is a mark.
use Rattle.std.proofs.Common.{◌≡◌, ◌≢◌, ◌∙◌, sym, ap, refl, subst, ℕ, ◌<◌, List, [], ◌∷◌, ◌++◌, Some, Bool, true, false, ◌⊎◌, inl, inr, eqb, ◌&&◌, nat_eq, drop}
use Rattle.std.specs.List.{starts_with}
use Rattle.std.specs.Prelude.{codes}
use Rattle.std.proofs.lemmas.Bool.{eqb-true, eqb-false}
use Rattle.sqd_marks.specs.Bytes.{is_blank, Each, IsName, is_in_value}
use Rattle.sqd_marks.specs.Marks.{Tag, IsTag, tag_bytes, IsWithout}
use Rattle.sqd_scan.specs.Fronts.{IsOf}
use Rattle.sqd_marks.specs.declared.kind.Kind.{Kind}
use Rattle.sqd_marks.specs.declared.kind.Kind.TheVariants as kinds
use Rattle.sqd_scan.specs.declared.stage.Stage.{Stage}
use Rattle.sqd_scan.specs.declared.stage.Stage.TheVariants.{Begin, Open, Name, Space, AttributeName, AttributeGap, Equals, Value, ValueEnd, Slash, EndOpen, EndName, EndGap, Bang, Dash, InComment, OneDash, TwoDashes, InDoctype, InCdata, InDeclaration, Question, Done}
use Rattle.sqd_scan.proofs.Runs.{then, run, back}
use Rattle.sqd_marks.proofs.ByteFacts.{tells, cond_true, cond_false}

-- a tag's front: the tag so far
pub record InTag (p : List ℕ) : Type 0 where
  pub tag : Tag
  pub ok : IsTag tag
  pub is : p ≡ 60 ∷ tag_bytes tag

-- an attribute's name so far, behind a tag's front that ends with a blank
pub record InAttribute (p : List ℕ) : Type 0 where
  pub tag : Tag
  pub ok : IsTag tag
  pub apart : tag.after ≢ []
  pub name : List ℕ
  pub named : IsName name
  pub left : List ℕ
  pub blank : Each is_blank left
  pub is : p ≡ 60 ∷ (tag_bytes tag ++ (name ++ left))

pub record InEquals (p : List ℕ) : Type 0 where
  pub tag : Tag
  pub ok : IsTag tag
  pub apart : tag.after ≢ []
  pub name : List ℕ
  pub named : IsName name
  pub left : List ℕ
  pub blank : Each is_blank left
  pub right : List ℕ
  pub blanks : Each is_blank right
  pub is : p ≡ 60 ∷ (tag_bytes tag ++ (name ++ (left ++ 61 ∷ right)))

pub record InValue (q : ℕ) (p : List ℕ) : Type 0 where
  pub tag : Tag
  pub ok : IsTag tag
  pub apart : tag.after ≢ []
  pub name : List ℕ
  pub named : IsName name
  pub left : List ℕ
  pub blank : Each is_blank left
  pub right : List ℕ
  pub blanks : Each is_blank right
  pub quote : (q ≡ 34) ⊎ (q ≡ 39)
  pub value : List ℕ
  pub inside : Each (is_in_value q) value
  pub is : p ≡ 60 ∷ (tag_bytes tag ++ (name ++ (left ++ 61 ∷ (right ++ q ∷ value))))

-- what stands before the stage
abbrev pub Reaches : Stage → List ℕ → Type 0
Reaches Begin p = p ≡ []
Reaches Open p = p ≡ 60 ∷ []
Reaches Name p = (n : List ℕ) × IsName n × (p ≡ 60 ∷ n)
Reaches Space p = (h : InTag p) × (h.tag.after ≢ [])
Reaches AttributeName p = (h : InAttribute p) × (h.left ≡ [])
Reaches AttributeGap p = InAttribute p
Reaches Equals p = InEquals p
Reaches (Value q) p = InValue q p
Reaches ValueEnd p = InTag p
Reaches Slash p = (q : List ℕ) × InTag q × (p ≡ q ++ 47 ∷ [])
Reaches EndOpen p = p ≡ 60 ∷ 47 ∷ []
Reaches EndName p = (n : List ℕ) × IsName n × (p ≡ 60 ∷ 47 ∷ n)
Reaches EndGap p = (n : List ℕ) × IsName n × (w : List ℕ) × Each is_blank w × (p ≡ 60 ∷ 47 ∷ (n ++ w))
Reaches Bang p = p ≡ 60 ∷ 33 ∷ []
Reaches Dash p = p ≡ 60 ∷ 33 ∷ 45 ∷ []
Reaches InComment p = p ≡ codes "<!--"
Reaches OneDash p = ⊥
Reaches TwoDashes p = ⊥
Reaches (InDoctype n) p = (n < 7) × (p ++ drop n (codes "DOCTYPE") ≡ codes "<!DOCTYPE")
Reaches (InCdata n) p = (n < 7) × (p ++ drop n (codes "[CDATA[") ≡ codes "<![CDATA[")
Reaches InDeclaration p = p ≡ codes "<?"
Reaches Question p = ⊥
Reaches (Done kind) p = IsOf kind p

-- the rest of a comment
pub record CommentRest (k : Kind) (front s : List ℕ) : Type 0 where
  pub form : k ≡ kinds.Comment
  pub inner : List ℕ
  pub without : IsWithout (codes "-->") inner
  pub is : front ++ s ≡ inner ++ codes "-->"

pub record CommentSound (k : Kind) (s : List ℕ) : Type 0 where
  pub plain : run InComment s ≡ Some (Done k) → CommentRest k [] s
  pub one : run OneDash s ≡ Some (Done k) → CommentRest k (45 ∷ []) s
  pub two : run TwoDashes s ≡ Some (Done k) → CommentRest k (45 ∷ 45 ∷ []) s

-- a whole mark has nothing after it
pub record IsEnd (j k : Kind) (s : List ℕ) : Type 0 where
  pub none : s ≡ []
  pub same : j ≡ k

pub done_end : (j k : Kind) (s : List ℕ) → then (Some (Done j)) s ≡ Some (Done k) → IsEnd j k s
done_end j k [] e = record { none = refl; same = cc e }
done_end j k (x ∷ s) e = absurd (cc e)

pub flip : (b n : ℕ) → eqb b n ≡ false → eqb n b ≡ false
flip b n h = elim (tells (eqb n b)) [
  | inl e ↦ absurd (eqb-false b n h (sym (eqb-true n b e)))
  | inr e ↦ e
]

pub false_and : (t u : Bool) → t ≡ false → (t && u) ≡ false
false_and true u e = absurd (cc e)
false_and false u e = refl

dash_more : (inner s : List ℕ) → 45 ∷ 45 ∷ s ≡ inner ++ codes "-->" → starts_with nat_eq (45 ∷ inner) (codes "-->") ≡ false
dash_more [] s e = refl
dash_more (x ∷ []) s e =
    let is : x ≡ 45 = cc e in
    subst (λ n. starts_with nat_eq (45 ∷ n ∷ []) (codes "-->") ≡ false) (sym is) refl
dash_more (x ∷ y ∷ inner) s e =
    let first : x ≡ 45 = cc e in
    let second : y ≡ 45 = cc e in
    subst (λ n. starts_with nat_eq (45 ∷ n ∷ y ∷ inner) (codes "-->") ≡ false) (sym first) (subst (λ n. starts_with nat_eq (45 ∷ 45 ∷ n ∷ inner) (codes "-->") ≡ false) (sym second) refl)

pub comment_sound : (s : List ℕ) (k : Kind) → CommentSound k s
comment_sound [] k = record { plain = λ e. absurd (cc e); one = λ e. absurd (cc e); two = λ e. absurd (cc e) }
comment_sound (b ∷ s) k =
    let rest = comment_sound s k in
    record {
      plain = λ e. elim (tells (eqb b 45)) [
        | inl y ↦
            let r = rest.one (back InComment OneDash b s (Some (Done k)) (cond_true _ _ _ y) e) in
            record { form = r.form; inner = r.inner; without = r.without; is = ap (λ n. n ∷ s) (eqb-true b 45 y) ∙ r.is }
        | inr n ↦
            let r = rest.plain (back InComment InComment b s (Some (Done k)) (cond_false _ _ _ n) e) in
            record { form = r.form; inner = b ∷ r.inner; without = (false_and (eqb 45 b) _ (flip b 45 n), r.without); is = ap (λ t. b ∷ t) r.is }
      ];
      one = λ e. elim (tells (eqb b 45)) [
        | inl y ↦
            let r = rest.two (back OneDash TwoDashes b s (Some (Done k)) (cond_true _ _ _ y) e) in
            record { form = r.form; inner = r.inner; without = r.without; is = ap (λ n. 45 ∷ n ∷ s) (eqb-true b 45 y) ∙ r.is }
        | inr n ↦
            let r = rest.plain (back OneDash InComment b s (Some (Done k)) (cond_false _ _ _ n) e) in
            record { form = r.form; inner = 45 ∷ b ∷ r.inner; without = (false_and (eqb 45 b) _ (flip b 45 n), (false_and (eqb 45 b) _ (flip b 45 n), r.without)); is = ap (λ t. 45 ∷ b ∷ t) r.is }
      ];
      two = λ e. elim (tells (eqb b 62)) [
        | inl y ↦
            let done = done_end kinds.Comment k s (back TwoDashes (Done kinds.Comment) b s (Some (Done k)) (cond_true _ _ _ y) e) in
            record { form = sym done.same; inner = []; without = tt; is = ap (λ n. 45 ∷ 45 ∷ n ∷ s) (eqb-true b 62 y) ∙ ap (λ t. 45 ∷ 45 ∷ 62 ∷ t) done.none }
        | inr n ↦ elim (tells (eqb b 45)) [
          | inl y ↦
              let r = rest.two (back TwoDashes TwoDashes b s (Some (Done k)) (cond_false _ _ _ n ∙ cond_true _ _ _ y) e) in
              record { form = r.form; inner = 45 ∷ r.inner; without = (dash_more r.inner s r.is, r.without); is = ap (λ n. 45 ∷ 45 ∷ n ∷ s) (eqb-true b 45 y) ∙ ap (λ t. 45 ∷ t) r.is }
          | inr m ↦
              let r = rest.plain (back TwoDashes InComment b s (Some (Done k)) (cond_false _ _ _ n ∙ cond_false _ _ _ m) e) in
              record { form = r.form; inner = 45 ∷ 45 ∷ b ∷ r.inner; without = (false_and (eqb 62 b) _ (flip b 62 n), (false_and (eqb 45 b) _ (flip b 45 m), (false_and (eqb 45 b) _ (flip b 45 m), r.without))); is = ap (λ t. 45 ∷ 45 ∷ b ∷ t) r.is }
        ]
      ];
    }

-- the rest of a declaration
pub record DeclarationRest (k : Kind) (front s : List ℕ) : Type 0 where
  pub form : k ≡ kinds.Declaration
  pub inner : List ℕ
  pub without : IsWithout (codes "?>") inner
  pub is : front ++ s ≡ inner ++ codes "?>"

pub record DeclarationSound (k : Kind) (s : List ℕ) : Type 0 where
  pub plain : run InDeclaration s ≡ Some (Done k) → DeclarationRest k [] s
  pub asked : run Question s ≡ Some (Done k) → DeclarationRest k (63 ∷ []) s

asked_more : (inner s : List ℕ) → 63 ∷ s ≡ inner ++ codes "?>" → starts_with nat_eq (63 ∷ inner) (codes "?>") ≡ false
asked_more [] s e = refl
asked_more (x ∷ inner) s e =
    let first : x ≡ 63 = cc e in
    subst (λ n. starts_with nat_eq (63 ∷ n ∷ inner) (codes "?>") ≡ false) (sym first) refl

pub declaration_sound : (s : List ℕ) (k : Kind) → DeclarationSound k s
declaration_sound [] k = record { plain = λ e. absurd (cc e); asked = λ e. absurd (cc e) }
declaration_sound (b ∷ s) k =
    let rest = declaration_sound s k in
    record {
      plain = λ e. elim (tells (eqb b 63)) [
        | inl y ↦
            let r = rest.asked (back InDeclaration Question b s (Some (Done k)) (cond_true _ _ _ y) e) in
            record { form = r.form; inner = r.inner; without = r.without; is = ap (λ n. n ∷ s) (eqb-true b 63 y) ∙ r.is }
        | inr n ↦
            let r = rest.plain (back InDeclaration InDeclaration b s (Some (Done k)) (cond_false _ _ _ n) e) in
            record { form = r.form; inner = b ∷ r.inner; without = (false_and (eqb 63 b) _ (flip b 63 n), r.without); is = ap (λ t. b ∷ t) r.is }
      ];
      asked = λ e. elim (tells (eqb b 62)) [
        | inl y ↦
            let done = done_end kinds.Declaration k s (back Question (Done kinds.Declaration) b s (Some (Done k)) (cond_true _ _ _ y) e) in
            record { form = sym done.same; inner = []; without = tt; is = ap (λ n. 63 ∷ n ∷ s) (eqb-true b 62 y) ∙ ap (λ t. 63 ∷ 62 ∷ t) done.none }
        | inr n ↦ elim (tells (eqb b 63)) [
          | inl y ↦
              let r = rest.asked (back Question Question b s (Some (Done k)) (cond_false _ _ _ n ∙ cond_true _ _ _ y) e) in
              record { form = r.form; inner = 63 ∷ r.inner; without = (asked_more r.inner s r.is, r.without); is = ap (λ n. 63 ∷ n ∷ s) (eqb-true b 63 y) ∙ ap (λ t. 63 ∷ t) r.is }
          | inr m ↦
              let r = rest.plain (back Question InDeclaration b s (Some (Done k)) (cond_false _ _ _ n ∙ cond_false _ _ _ m) e) in
              record { form = r.form; inner = 63 ∷ b ∷ r.inner; without = (false_and (eqb 62 b) _ (flip b 62 n), (false_and (eqb 63 b) _ (flip b 63 m), r.without)); is = ap (λ t. 63 ∷ b ∷ t) r.is }
        ]
      ];
    }
