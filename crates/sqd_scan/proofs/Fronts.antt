-- Fronts of marks, and bytes that continue none.
use Rattle.std.proofs.Common.{◌≡◌, ◌∙◌, sym, ap, refl, subst, ℕ, ◌+◌, ◌<◌, ◌≤◌, List, [], ◌∷◌, ◌++◌, Option, None, Some, Bool, true, false, cond, ◌⊎◌, inl, inr, eqb, drop, take, get_or, arith, length, drop-cons, add-one, suc, zero, lit<}
use Rattle.std.specs.Prelude.{codes}
use Rattle.std.proofs.lemmas.Bool.{eqb-false, eq-eqb}
use Rattle.std.proofs.lemmas.List.{take_more, take-append-drop, length-take-le, take_all}
use Rattle.sqd_marks.specs.Bytes.{is_blank}
use Rattle.sqd_marks.specs.Marks.{kind_of_mark}
use Rattle.sqd_scan.specs.Fronts.{IsOf, IsFront, IsCut, IsBadAt}
use Rattle.sqd_scan.specs.Scanning.{step, kind_done}
use Rattle.sqd_marks.specs.declared.kind.Kind.{Kind}
use Rattle.sqd_marks.specs.declared.kind.Kind.TheVariants as kinds
use Rattle.sqd_scan.specs.declared.stage.Stage.{Stage}
use Rattle.sqd_scan.specs.declared.stage.Stage.TheVariants.{Begin, Open, Name, Space, AttributeName, AttributeGap, Equals, Value, ValueEnd, Slash, EndOpen, EndName, EndGap, Bang, Dash, InComment, OneDash, TwoDashes, InDoctype, InCdata, InDeclaration, Question, Done}
use Rattle.sqd_scan.proofs.Runs.{then, run, go, run_append}
use Rattle.sqd_scan.proofs.Complete.{complete}
use Rattle.sqd_scan.proofs.Passing.{sound}
use Rattle.sqd_marks.proofs.ByteFacts.{cond_true}

-- a stage with numbers as they may be
abbrev pub IsLive : Stage → Type 0
IsLive (Value q) = (q ≡ 34) ⊎ (q ≡ 39)
IsLive (InDoctype n) = n < 7
IsLive (InCdata n) = n < 7
IsLive _ = Unit {0}

pub record Lives (o : Option Stage) : Type 0 where
  pub live : (stage : Stage) → o ≡ Some stage → IsLive stage

lives : (stage : Stage) → IsLive stage → Lives (Some stage)
lives stage h = record { live = λ next e. let same : stage ≡ next = cc e in subst IsLive same h }

no : Lives None
no = record { live = λ next e. absurd (cc e) }

either : (t : Bool) (x y : Option Stage) → Lives x → Lives y → Lives (cond t x y)
either true x y h g = h
either false x y h g = g

on_false : (t : Bool) (x y : Option Stage) → Lives x → (t ≡ false → Lives y) → Lives (cond t x y)
on_false true x y h g = h
on_false false x y h g = g refl

next_below : (n : ℕ) → n < 7 → eqb n 6 ≡ false → n + 1 < 7
next_below n h e =
    let other = eqb-false n 6 e in
    omega (arith, other)

after_part : (b : ℕ) → Lives (cond (is_blank b) (Some Space) (cond (eqb b 62) (Some (Done kinds.Start)) (cond (eqb b 47) (Some Slash) None)))
after_part b = either _ _ _ (lives Space tt) (either _ _ _ (lives (Done kinds.Start) tt) (either _ _ _ (lives Slash tt) no))

in_gap : (b : ℕ) → Lives (cond (is_blank b) (Some AttributeGap) (cond (eqb b 61) (Some Equals) None))
in_gap b = either _ _ _ (lives AttributeGap tt) (either _ _ _ (lives Equals tt) no)

in_end : (b : ℕ) → Lives (cond (is_blank b) (Some EndGap) (cond (eqb b 62) (Some (Done kinds.End)) None))
in_end b = either _ _ _ (lives EndGap tt) (either _ _ _ (lives (Done kinds.End) tt) no)

step_lives : (stage : Stage) (b : ℕ) → IsLive stage → Lives (step stage b)
step_lives Begin b h = either _ _ _ (lives Open tt) no
step_lives Open b h = either _ _ _ (lives Name tt) (either _ _ _ (lives EndOpen tt) (either _ _ _ (lives Bang tt) (either _ _ _ (lives InDeclaration tt) no)))
step_lives Name b h = either _ _ _ (lives Name tt) (after_part b)
step_lives Space b h = either _ _ _ (lives Space tt) (either _ _ _ (lives AttributeName tt) (either _ _ _ (lives (Done kinds.Start) tt) (either _ _ _ (lives Slash tt) no)))
step_lives AttributeName b h = either _ _ _ (lives AttributeName tt) (in_gap b)
step_lives AttributeGap b h = in_gap b
step_lives Equals b h = either _ _ _ (lives Equals tt) (either _ _ _ (lives (Value 34) (inl refl)) (either _ _ _ (lives (Value 39) (inr refl)) no))
step_lives (Value q) b h = either _ _ _ (lives ValueEnd tt) (either _ _ _ no (lives (Value q) h))
step_lives ValueEnd b h = after_part b
step_lives Slash b h = either _ _ _ (lives (Done kinds.Empty) tt) no
step_lives EndOpen b h = either _ _ _ (lives EndName tt) no
step_lives EndName b h = either _ _ _ (lives EndName tt) (in_end b)
step_lives EndGap b h = in_end b
step_lives Bang b h = either _ _ _ (lives Dash tt) (either _ _ _ (lives (InDoctype 1) (lit< tt)) (either _ _ _ (lives (InCdata 1) (lit< tt)) no))
step_lives Dash b h = either _ _ _ (lives InComment tt) no
step_lives InComment b h = either _ _ _ (lives OneDash tt) (lives InComment tt)
step_lives OneDash b h = either _ _ _ (lives TwoDashes tt) (lives InComment tt)
step_lives TwoDashes b h = either _ _ _ (lives (Done kinds.Comment) tt) (either _ _ _ (lives TwoDashes tt) (lives InComment tt))
step_lives (InDoctype n) b h = either _ _ _ (on_false _ _ _ (lives (Done kinds.Doctype) tt) (λ e. lives (InDoctype (n + 1)) (next_below n h e))) no
step_lives (InCdata n) b h = either _ _ _ (on_false _ _ _ (lives (Done kinds.Cdata) tt) (λ e. lives (InCdata (n + 1)) (next_below n h e))) no
step_lives InDeclaration b h = either _ _ _ (lives Question tt) (lives InDeclaration tt)
step_lives Question b h = either _ _ _ (lives (Done kinds.Declaration) tt) (either _ _ _ (lives Question tt) (lives InDeclaration tt))
step_lives (Done kind) b h = no

lives_on : (o : Option Stage) (s : List ℕ) (stage : Stage) → Lives o → then o s ≡ Some stage → IsLive stage
lives_on None s stage h e = absurd (cc e)
lives_on (Some now) [] stage h e = h.live stage e
lives_on (Some now) (b ∷ s) stage h e = lives_on (step now b) s stage (step_lives now b (h.live now refl)) e

-- a stage can come to an end
pub record CanEnd (stage : Stage) : Type 0 where
  pub next : ℕ
  pub more : List ℕ
  pub kind : Kind
  pub ends : run stage (next ∷ more) ≡ Some (Done kind)

doctype_end : (n : ℕ) → n < 7 → CanEnd (InDoctype n)
doctype_end zero h = record { next = 68; more = codes "OCTYPE"; kind = kinds.Doctype; ends = refl }
doctype_end (suc zero) h = record { next = 79; more = codes "CTYPE"; kind = kinds.Doctype; ends = refl }
doctype_end (suc (suc zero)) h = record { next = 67; more = codes "TYPE"; kind = kinds.Doctype; ends = refl }
doctype_end (suc (suc (suc zero))) h = record { next = 84; more = codes "YPE"; kind = kinds.Doctype; ends = refl }
doctype_end (suc (suc (suc (suc zero)))) h = record { next = 89; more = codes "PE"; kind = kinds.Doctype; ends = refl }
doctype_end (suc (suc (suc (suc (suc zero))))) h = record { next = 80; more = codes "E"; kind = kinds.Doctype; ends = refl }
doctype_end (suc (suc (suc (suc (suc (suc zero)))))) h = record { next = 69; more = []; kind = kinds.Doctype; ends = refl }
doctype_end (suc (suc (suc (suc (suc (suc (suc n))))))) h = absurd (omega arith)

cdata_end : (n : ℕ) → n < 7 → CanEnd (InCdata n)
cdata_end zero h = record { next = 91; more = codes "CDATA["; kind = kinds.Cdata; ends = refl }
cdata_end (suc zero) h = record { next = 67; more = codes "DATA["; kind = kinds.Cdata; ends = refl }
cdata_end (suc (suc zero)) h = record { next = 68; more = codes "ATA["; kind = kinds.Cdata; ends = refl }
cdata_end (suc (suc (suc zero))) h = record { next = 65; more = codes "TA["; kind = kinds.Cdata; ends = refl }
cdata_end (suc (suc (suc (suc zero)))) h = record { next = 84; more = codes "A["; kind = kinds.Cdata; ends = refl }
cdata_end (suc (suc (suc (suc (suc zero))))) h = record { next = 65; more = codes "["; kind = kinds.Cdata; ends = refl }
cdata_end (suc (suc (suc (suc (suc (suc zero)))))) h = record { next = 91; more = []; kind = kinds.Cdata; ends = refl }
cdata_end (suc (suc (suc (suc (suc (suc (suc n))))))) h = absurd (omega arith)

can_end : (stage : Stage) → IsLive stage → kind_done stage ≡ None → CanEnd stage
can_end Begin h d = record { next = 60; more = codes "??>"; kind = kinds.Declaration; ends = refl }
can_end Open h d = record { next = 63; more = codes "?>"; kind = kinds.Declaration; ends = refl }
can_end Name h d = record { next = 62; more = []; kind = kinds.Start; ends = refl }
can_end Space h d = record { next = 62; more = []; kind = kinds.Start; ends = refl }
can_end AttributeName h d = record { next = 61; more = 34 ∷ 34 ∷ 62 ∷ []; kind = kinds.Start; ends = refl }
can_end AttributeGap h d = record { next = 61; more = 34 ∷ 34 ∷ 62 ∷ []; kind = kinds.Start; ends = refl }
can_end Equals h d = record { next = 34; more = 34 ∷ 62 ∷ []; kind = kinds.Start; ends = refl }
can_end (Value q) h d = record { next = q; more = 62 ∷ []; kind = kinds.Start; ends = go (Value q) ValueEnd q (62 ∷ []) (cond_true _ _ _ (eq-eqb q q refl)) }
can_end ValueEnd h d = record { next = 62; more = []; kind = kinds.Start; ends = refl }
can_end Slash h d = record { next = 62; more = []; kind = kinds.Empty; ends = refl }
can_end EndOpen h d = record { next = 97; more = 62 ∷ []; kind = kinds.End; ends = refl }
can_end EndName h d = record { next = 62; more = []; kind = kinds.End; ends = refl }
can_end EndGap h d = record { next = 62; more = []; kind = kinds.End; ends = refl }
can_end Bang h d = record { next = 45; more = codes "--->"; kind = kinds.Comment; ends = refl }
can_end Dash h d = record { next = 45; more = codes "-->"; kind = kinds.Comment; ends = refl }
can_end InComment h d = record { next = 45; more = codes "->"; kind = kinds.Comment; ends = refl }
can_end OneDash h d = record { next = 45; more = codes ">"; kind = kinds.Comment; ends = refl }
can_end TwoDashes h d = record { next = 62; more = []; kind = kinds.Comment; ends = refl }
can_end (InDoctype n) h d = doctype_end n h
can_end (InCdata n) h d = cdata_end n h
can_end InDeclaration h d = record { next = 63; more = codes ">"; kind = kinds.Declaration; ends = refl }
can_end Question h d = record { next = 62; more = []; kind = kinds.Declaration; ends = refl }
can_end (Done kind) h d = absurd (cc d)

-- where the bytes end, a mark is cut
pub cut_of : (p : List ℕ) (stage : Stage) → run Begin p ≡ Some stage → kind_done stage ≡ None → IsCut p
cut_of p stage e d =
    let live = lives_on (Some Begin) p stage (lives Begin tt) e in
    let end = can_end stage live d in
    let whole = sound (p ++ end.next ∷ end.more) end.kind (run_append (Some Begin) p (end.next ∷ end.more) ∙ ap (λ o. then o (end.next ∷ end.more)) e ∙ end.ends) in
    record { mark = whole.mark; valid = whole.valid; next = end.next; more = end.more; spelled = whole.spelled }

-- a byte that the stage doesn't take continues no mark
pub no_front : (p : List ℕ) (stage : Stage) (b : ℕ) → run Begin p ≡ Some stage → step stage b ≡ None → IsFront (p ++ b ∷ []) → ⊥
no_front p stage b e dead h =
    let stuck : run Begin (p ++ b ∷ []) ≡ None = run_append (Some Begin) p (b ∷ []) ∙ ap (λ o. then o (b ∷ [])) e ∙ ap (λ o. then o []) dead in
    let none : Some (Done (kind_of_mark h.mark)) ≡ None = sym (complete h.mark h.valid) ∙ ap (run Begin) h.spelled ∙ run_append (Some Begin) (p ++ b ∷ []) h.more ∙ ap (λ o. then o h.more) stuck in
    cc none

pub bad_of : (text p more : List ℕ) (stage : Stage) (b : ℕ) → text ≡ p ++ b ∷ more → run Begin p ≡ Some stage → kind_done stage ≡ None → step stage b ≡ None → IsBadAt text (length p)
bad_of text p more stage b is e d dead =
    let cut = cut_of p stage e d in
    record { front = p; bad = b; more = more; is = is; place = refl; good = cut; wrong = no_front p stage b e dead }

-- one byte more is taken
pub run_more : (text : List ℕ) (i : ℕ) (stage next : Stage) → i < length text → run Begin (take i text) ≡ Some stage → step stage (get_or text i 0) ≡ Some next → run Begin (take (i + 1) text) ≡ Some next
run_more text i stage next l e s =
    ap (run Begin) (take_more text i 0 l) ∙ run_append (Some Begin) (take i text) (get_or text i 0 ∷ []) ∙ ap (λ o. then o (get_or text i 0 ∷ [])) e ∙ ap (λ o. then o []) s

-- the byte at i is bad
pub bad_at : (text : List ℕ) (i : ℕ) (stage : Stage) → i < length text → run Begin (take i text) ≡ Some stage → kind_done stage ≡ None → step stage (get_or text i 0) ≡ None → IsBadAt text i
bad_at text i stage l e d dead =
    let cut : text ≡ take i text ++ get_or text i 0 ∷ drop (i + 1) text = sym (take-append-drop i text) ∙ ap (λ t. take i text ++ t) (drop-cons text i 0 l ∙ ap (λ n. get_or text i 0 ∷ drop n text) (sym (add-one i))) in
    let count : length (take i text) ≡ i = length-take-le i text (omega (arith, l)) in
    subst (IsBadAt text) count (bad_of text (take i text) (drop (i + 1) text) stage (get_or text i 0) cut e d dead)

-- a mark is whole
pub whole_at : (text : List ℕ) (i : ℕ) (next : Stage) (kind : Kind) → run Begin (take (i + 1) text) ≡ Some next → kind_done next ≡ Some kind → IsOf kind (take (i + 1) text)
whole_at text i (Done j) kind e d =
    let same : j ≡ kind = cc d in
    subst (λ k. IsOf k (take (i + 1) text)) same (sound (take (i + 1) text) j e)
whole_at text i _ kind e d = absurd (cc d)

-- the bytes end inside a mark
pub cut_at : (text : List ℕ) (i : ℕ) (stage : Stage) → length text ≤ i → run Begin (take i text) ≡ Some stage → kind_done stage ≡ None → IsCut text
cut_at text i stage l e d = subst IsCut (take_all i text l) (cut_of (take i text) stage e d)
