-- The scanner passes each mark.
use Rattle.std.proofs.Common.{◌≡◌, ◌≢◌, ◌∙◌, sym, ap, refl, subst, ℕ, List, [], ◌∷◌, ◌++◌, Some, true, append_assoc, ◌⊎◌, inl, inr, eqb}
use Rattle.std.specs.List.{flat_map, AllByRecursion}
use Rattle.std.specs.Prelude.{codes}
use Rattle.std.proofs.lemmas.Bool.{eqb-true, eq-eqb}
use Rattle.sqd_marks.specs.Bytes.{is_blank, is_in_name, Each, IsName, is_in_value}
use Rattle.sqd_marks.specs.Marks.{Attribute, IsAttribute, Tag, IsTag, TextMark, start, empty, close, comment, declaration, doctype, cdata, IsWellFormedMark, attribute_bytes, tag_bytes, mark_bytes, kind_of_mark, IsWithout}
use Rattle.sqd_scan.specs.Scanning.{step}
use Rattle.sqd_marks.specs.declared.kind.Kind.TheVariants as kinds
use Rattle.sqd_scan.specs.declared.stage.Stage.{Stage}
use Rattle.sqd_scan.specs.declared.stage.Stage.TheVariants.{Begin, Open, Name, Space, AttributeName, AttributeGap, Equals, Value, ValueEnd, Slash, EndOpen, EndName, EndGap, InComment, OneDash, TwoDashes, InDeclaration, Question, Done}
use Rattle.sqd_scan.proofs.Runs.{then, run, go, run_each, and_true, not_true}
use Rattle.sqd_marks.proofs.ByteFacts.{tells, cond_true, cond_false, blank_not_name, begins_in_name, name_not_blank}

-- a stage in which a part of a tag is whole
pub record IsPart (stage : Stage) : Type 0 where
  pub blank : (b : ℕ) → is_blank b ≡ true → step stage b ≡ Some Space
  pub ends : step stage 62 ≡ Some (Done kinds.Start)
  pub slash : step stage 47 ≡ Some Slash

pub part_name : IsPart Name
part_name = record {
  blank = λ b h. cond_false _ _ _ (blank_not_name b h) ∙ cond_true _ _ _ h;
  ends = refl;
  slash = refl;
}

pub part_space : IsPart Space
part_space = record { blank = λ b h. cond_true _ _ _ h; ends = refl; slash = refl }

pub part_value : IsPart ValueEnd
part_value = record { blank = λ b h. cond_true _ _ _ h; ends = refl; slash = refl }

-- a name in a tag, in an end mark and in an attribute
name_run : (n more : List ℕ) → IsName n → run Open (n ++ more) ≡ run Name more
name_run [] more h = absurd h
name_run (b ∷ n) more h = go Open Name b (n ++ more) (cond_true _ _ _ h.0) ∙ run_each is_in_name Name (λ c e. cond_true _ _ _ e) n more h.1

end_name_run : (n more : List ℕ) → IsName n → run EndOpen (n ++ more) ≡ run EndName more
end_name_run [] more h = absurd h
end_name_run (b ∷ n) more h = go EndOpen EndName b (n ++ more) (cond_true _ _ _ h.0) ∙ run_each is_in_name EndName (λ c e. cond_true _ _ _ e) n more h.1

attribute_name_run : (n more : List ℕ) → IsName n → run Space (n ++ more) ≡ run AttributeName more
attribute_name_run [] more h = absurd h
attribute_name_run (b ∷ n) more h =
    go Space AttributeName b (n ++ more) (cond_false _ _ _ (name_not_blank b (begins_in_name b h.0)) ∙ cond_true _ _ _ h.0)
    ∙ run_each is_in_name AttributeName (λ c e. cond_true _ _ _ e) n more h.1

-- blanks
space_run : (stage : Stage) (w more : List ℕ) → IsPart stage → w ≢ [] → Each is_blank w → run stage (w ++ more) ≡ run Space more
space_run stage [] more part some h = absurd (some refl)
space_run stage (b ∷ w) more part some h = go stage Space b (w ++ more) (part.blank b h.0) ∙ run_each is_blank Space (λ c e. cond_true _ _ _ e) w more h.1

gap_run : (w more : List ℕ) → Each is_blank w → run AttributeName (w ++ 61 ∷ more) ≡ run Equals more
gap_run [] more h = refl
gap_run (b ∷ w) more h =
    go AttributeName AttributeGap b (w ++ 61 ∷ more) (cond_false _ _ _ (blank_not_name b h.0) ∙ cond_true _ _ _ h.0)
    ∙ run_each is_blank AttributeGap (λ c e. cond_true _ _ _ e) w (61 ∷ more) h.1

end_gap_run : (w : List ℕ) → Each is_blank w → run EndName (w ++ 62 ∷ []) ≡ Some (Done kinds.End)
end_gap_run [] h = refl
end_gap_run (b ∷ w) h =
    go EndName EndGap b (w ++ 62 ∷ []) (cond_false _ _ _ (blank_not_name b h.0) ∙ cond_true _ _ _ h.0)
    ∙ run_each is_blank EndGap (λ c e. cond_true _ _ _ e) w (62 ∷ []) h.1

-- a value
in_value : (q b : ℕ) → is_in_value q b ≡ true → step (Value q) b ≡ Some (Value q)
in_value q b h =
    let both = and_true _ _ h in
    cond_false _ _ _ (not_true _ both.0) ∙ cond_false _ _ _ (not_true _ both.1)

quote_run : (q : ℕ) (more : List ℕ) → (q ≡ 34) ⊎ (q ≡ 39) → run Equals (q ∷ more) ≡ run (Value q) more
quote_run q more (inl e) = subst (λ n. run Equals (n ∷ more) ≡ run (Value n) more) (sym e) refl
quote_run q more (inr e) = subst (λ n. run Equals (n ∷ more) ≡ run (Value n) more) (sym e) refl

value_run : (q : ℕ) (value more : List ℕ) → Each (is_in_value q) value → run (Value q) (value ++ q ∷ more) ≡ run ValueEnd more
value_run q value more h =
    run_each (is_in_value q) (Value q) (in_value q) value (q ∷ more) h ∙ go (Value q) ValueEnd q more (cond_true _ _ _ (eq-eqb q q refl))

-- an attribute
spread : (a : Attribute) (more : List ℕ) → attribute_bytes a ++ more ≡ a.before ++ (a.name ++ (a.left ++ (61 ∷ (a.right ++ (a.quote ∷ (a.value ++ a.quote ∷ more))))))
spread a more = simp append_assoc

attribute_run : (stage : Stage) (a : Attribute) (more : List ℕ) → IsPart stage → IsAttribute a → run stage (attribute_bytes a ++ more) ≡ run ValueEnd more
attribute_run stage a more part h =
    ap (run stage) (spread a more)
    ∙ space_run stage a.before _ part h.apart h.before
    ∙ attribute_name_run a.name _ h.name
    ∙ gap_run a.left _ h.left
    ∙ run_each is_blank Equals (λ c e. cond_true _ _ _ e) a.right _ h.right
    ∙ quote_run a.quote _ h.quote
    ∙ value_run a.quote a.value more h.value

-- the attributes of a tag and the blanks after them
pub record IsPassed (stage : Stage) (bytes more : List ℕ) : Type 0 where
  pub next : Stage
  pub part : IsPart next
  pub is : run stage (bytes ++ more) ≡ run next more

attributes_run : (stage : Stage) (xs : List Attribute) (w more : List ℕ) → IsPart stage → AllByRecursion IsAttribute xs → Each is_blank w → IsPassed stage (flat_map attribute_bytes xs ++ w) more
attributes_run stage [] [] more part hs h = record { next = stage; part = part; is = refl }
attributes_run stage [] (b ∷ w) more part hs h = record { next = Space; part = part_space; is = space_run stage (b ∷ w) more part (λ e. cc) h }
attributes_run stage (a ∷ xs) w more part hs h =
    let rest = attributes_run ValueEnd xs w more part_value hs.1 h in
    record {
      next = rest.next;
      part = rest.part;
      is = ap (run stage) (append_assoc (attribute_bytes a ++ flat_map attribute_bytes xs) w more ∙ append_assoc (attribute_bytes a) (flat_map attribute_bytes xs) (w ++ more) ∙ ap (λ r. attribute_bytes a ++ r) (sym (append_assoc (flat_map attribute_bytes xs) w more)))
          ∙ attribute_run stage a _ part hs.0 ∙ rest.is;
    }

tag_run : (t : Tag) (more : List ℕ) → IsTag t → IsPassed Open (tag_bytes t) more
tag_run t more h =
    let rest = attributes_run Name t.attributes t.after more part_name h.attributes h.after in
    record {
      next = rest.next;
      part = rest.part;
      is = ap (run Open) (append_assoc t.name (flat_map attribute_bytes t.attributes ++ t.after) more) ∙ name_run t.name _ h.name ∙ rest.is;
    }

tag_ends : (t : Tag) → IsTag t → run Begin (60 ∷ (tag_bytes t ++ 62 ∷ [])) ≡ Some (Done kinds.Start)
tag_ends t h =
    let at = tag_run t (62 ∷ []) h in
    at.is ∙ ap (λ o. then o []) at.part.ends

empty_ends : (t : Tag) → IsTag t → run Begin (60 ∷ (tag_bytes t ++ 47 ∷ 62 ∷ [])) ≡ Some (Done kinds.Empty)
empty_ends t h =
    let at = tag_run t (47 ∷ 62 ∷ []) h in
    at.is ∙ ap (λ o. then o (62 ∷ [])) at.part.slash

-- a comment goes on in each of its stages
record CommentRuns (c : List ℕ) : Type 0 where
  plain : IsWithout (codes "-->") c → run InComment (c ++ codes "-->") ≡ Some (Done kinds.Comment)
  one : IsWithout (codes "-->") (45 ∷ c) → run OneDash (c ++ codes "-->") ≡ Some (Done kinds.Comment)
  two : IsWithout (codes "-->") (45 ∷ 45 ∷ c) → run TwoDashes (c ++ codes "-->") ≡ Some (Done kinds.Comment)

comment_runs : (c : List ℕ) → CommentRuns c
comment_runs [] = record { plain = λ h. refl; one = λ h. refl; two = λ h. refl }
comment_runs (b ∷ c) =
    let rest = comment_runs c in
    record {
      plain = λ h. elim (tells (eqb b 45)) [
        | inl e ↦ go InComment OneDash b (c ++ codes "-->") (cond_true _ _ _ e) ∙ rest.one (subst (λ n. IsWithout (codes "-->") (n ∷ c)) (eqb-true b 45 e) h)
        | inr e ↦ go InComment InComment b (c ++ codes "-->") (cond_false _ _ _ e) ∙ rest.plain h.1
      ];
      one = λ h. elim (tells (eqb b 45)) [
        | inl e ↦ go OneDash TwoDashes b (c ++ codes "-->") (cond_true _ _ _ e) ∙ rest.two (subst (λ n. IsWithout (codes "-->") (45 ∷ n ∷ c)) (eqb-true b 45 e) h)
        | inr e ↦ go OneDash InComment b (c ++ codes "-->") (cond_false _ _ _ e) ∙ rest.plain h.1.1
      ];
      two = λ h. elim (tells (eqb b 62)) [
        | inl e ↦
            let bad = (subst (λ n. IsWithout (codes "-->") (45 ∷ 45 ∷ n ∷ c)) (eqb-true b 62 e) h).0 in
            absurd (cc bad)
        | inr f ↦ elim (tells (eqb b 45)) [
          | inl e ↦ go TwoDashes TwoDashes b (c ++ codes "-->") (cond_false _ _ _ f ∙ cond_true _ _ _ e) ∙ rest.two (subst (λ n. IsWithout (codes "-->") (45 ∷ n ∷ c)) (eqb-true b 45 e) h.1)
          | inr e ↦ go TwoDashes InComment b (c ++ codes "-->") (cond_false _ _ _ f ∙ cond_false _ _ _ e) ∙ rest.plain h.1.1.1
        ]
      ];
    }

-- a declaration goes on in each of its stages
record DeclarationRuns (c : List ℕ) : Type 0 where
  plain : IsWithout (codes "?>") c → run InDeclaration (c ++ codes "?>") ≡ Some (Done kinds.Declaration)
  asked : IsWithout (codes "?>") (63 ∷ c) → run Question (c ++ codes "?>") ≡ Some (Done kinds.Declaration)

declaration_runs : (c : List ℕ) → DeclarationRuns c
declaration_runs [] = record { plain = λ h. refl; asked = λ h. refl }
declaration_runs (b ∷ c) =
    let rest = declaration_runs c in
    record {
      plain = λ h. elim (tells (eqb b 63)) [
        | inl e ↦ go InDeclaration Question b (c ++ codes "?>") (cond_true _ _ _ e) ∙ rest.asked (subst (λ n. IsWithout (codes "?>") (n ∷ c)) (eqb-true b 63 e) h)
        | inr e ↦ go InDeclaration InDeclaration b (c ++ codes "?>") (cond_false _ _ _ e) ∙ rest.plain h.1
      ];
      asked = λ h. elim (tells (eqb b 62)) [
        | inl e ↦
            let bad = (subst (λ n. IsWithout (codes "?>") (63 ∷ n ∷ c)) (eqb-true b 62 e) h).0 in
            absurd (cc bad)
        | inr f ↦ elim (tells (eqb b 63)) [
          | inl e ↦ go Question Question b (c ++ codes "?>") (cond_false _ _ _ f ∙ cond_true _ _ _ e) ∙ rest.asked (subst (λ n. IsWithout (codes "?>") (n ∷ c)) (eqb-true b 63 e) h.1)
          | inr e ↦ go Question InDeclaration b (c ++ codes "?>") (cond_false _ _ _ f ∙ cond_false _ _ _ e) ∙ rest.plain h.1.1
        ]
      ];
    }

-- each mark is passed
pub complete : (m : TextMark) → IsWellFormedMark m → run Begin (mark_bytes m) ≡ Some (Done (kind_of_mark m))
complete (start t) h = tag_ends t h
complete (empty t) h = empty_ends t h
complete (close name after) h = end_name_run name (after ++ 62 ∷ []) h.0 ∙ end_gap_run after h.1
complete (comment inner) h = (comment_runs inner).plain h
complete (declaration inner) h = (declaration_runs inner).plain h
complete doctype h = refl
complete cdata h = refl
