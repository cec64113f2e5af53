-- No mark is the front of another.
use Rattle.std.proofs.Common.{◌≡◌, ◌∙◌, sym, ap, refl, subst, ℕ, List, [], ◌∷◌, ◌++◌, Option, None, Some}
use Rattle.std.proofs.Common.{arith, length, length-append, append_assoc, ◌+◌, ◌≤◌, ◌⊎◌, inl, inr}
use Rattle.std.proofs.lemmas.List.{append-nil}
use Rattle.sqd_scan.specs.Fronts.{IsFront, IsCut, IsBadAt, IsFaultOf}
use Rattle.sqd_scan.specs.declared.fault.SqdFault.{SqdFault}
use Rattle.sqd_scan.specs.declared.fault.SqdFault.TheVariants.{BadMark, NotClosed}
use Rattle.sqd_marks.specs.Marks.{TextMark, IsWellFormedMark, mark_bytes, kind_of_mark}
use Rattle.sqd_scan.specs.Scanning.{step}
use Rattle.sqd_scan.proofs.Runs.{then, run}
use Rattle.sqd_marks.specs.declared.kind.Kind.{Kind}
use Rattle.sqd_scan.specs.declared.stage.Stage.{Stage}
use Rattle.sqd_scan.specs.declared.stage.Stage.TheVariants.{Begin, Done}
use Rattle.sqd_scan.proofs.Complete.{complete}

nothing_after : (stage : Stage) (j k : Kind) (b : ℕ) (s : List ℕ) → Some stage ≡ Some (Done j) → run stage (b ∷ s) ≡ Some (Done k) → ⊥
nothing_after stage j k b s e r =
    let is : stage ≡ Done j = cc e in
    let none : None ≡ Some (Done k) = sym (ap (λ t. run t (b ∷ s)) is) ∙ r in
    cc none

same_end : (o : Option Stage) (a b x y : List ℕ) (j k : Kind) → then o a ≡ Some (Done j) → then o b ≡ Some (Done k) → a ++ x ≡ b ++ y → a ≡ b
same_end None a b x y j k h g e = absurd (cc h)
same_end (Some stage) [] [] x y j k h g e = refl
same_end (Some stage) [] (d ∷ b) x y j k h g e = absurd (nothing_after stage j k d b h g)
same_end (Some stage) (c ∷ a) [] x y j k h g e = absurd (nothing_after stage k j c a g h)
same_end (Some stage) (c ∷ a) (d ∷ b) x y j k h g e =
    let first : c ≡ d = cc e in
    let rest : a ++ x ≡ b ++ y = cc e in
    let same = same_end (step stage c) a b x y j k h (subst (λ n. then (step stage n) b ≡ Some (Done k)) (sym first) g) rest in
    cc (first, same)

-- two marks that one text begins with have the same bytes
same_spelling : (m n : TextMark) (x y : List ℕ) → IsWellFormedMark m → IsWellFormedMark n → mark_bytes m ++ x ≡ mark_bytes n ++ y → mark_bytes m ≡ mark_bytes n
same_spelling m n x y h g e = same_end (Some Begin) (mark_bytes m) (mark_bytes n) x y (kind_of_mark m) (kind_of_mark n) (complete m h) (complete n g) e

-- marks of one kind with the same bytes are one
abbrev pub OneSpelling : Type 0
OneSpelling = (m n : TextMark) → IsWellFormedMark m → IsWellFormedMark n → kind_of_mark m ≡ kind_of_mark n → mark_bytes m ≡ mark_bytes n → m ≡ n

pub of_kind : (m n : TextMark) → IsWellFormedMark m → IsWellFormedMark n → mark_bytes m ≡ mark_bytes n → kind_of_mark m ≡ kind_of_mark n
of_kind m n h g e =
    let same : Some (Done (kind_of_mark m)) ≡ Some (Done (kind_of_mark n)) = sym (complete m h) ∙ ap (run Begin) e ∙ complete n g in
    cc same

-- a text begins with one mark
pub one_mark : OneSpelling → (m n : TextMark) (x y : List ℕ) → IsWellFormedMark m → IsWellFormedMark n → mark_bytes m ++ x ≡ mark_bytes n ++ y → m ≡ n
one_mark law m n x y h g e =
    let same = same_spelling m n x y h g e in
    law m n h g (of_kind m n h g same) same

-- bytes that end inside a mark begin with none
cut_no_mark : (bytes : List ℕ) (m : TextMark) (x : List ℕ) → IsCut bytes → IsWellFormedMark m → bytes ≡ mark_bytes m ++ x → ⊥
cut_no_mark bytes m x h g e =
    let longer : mark_bytes h.mark ++ [] ≡ mark_bytes m ++ (x ++ h.next ∷ h.more) = append-nil (mark_bytes h.mark) ∙ h.spelled ∙ ap (λ b. b ++ h.next ∷ h.more) e ∙ append_assoc (mark_bytes m) x (h.next ∷ h.more) in
    let same = same_spelling h.mark m [] (x ++ h.next ∷ h.more) h.valid g longer in
    let whole : length (mark_bytes h.mark) ≡ length (mark_bytes m) = ap length same in
    let long : length (mark_bytes h.mark ++ []) ≡ length (mark_bytes m) + length (x ++ h.next ∷ h.more) = ap length longer ∙ length-append (mark_bytes m) (x ++ h.next ∷ h.more) in
    omega (arith, whole, long, length-append (mark_bytes h.mark) [], length-append x (h.next ∷ h.more))

-- a mark in front ends before a byte, or takes it
record Ends (f m : List ℕ) : Type 0 where
  more : List ℕ
  is : f ≡ m ++ more

record Takes (f m : List ℕ) (b : ℕ) : Type 0 where
  more : List ℕ
  is : m ≡ (f ++ b ∷ []) ++ more

on_ends : (c d : ℕ) (f m : List ℕ) → c ≡ d → Ends f m → Ends (c ∷ f) (d ∷ m)
on_ends c d f m e h = record { more = h.more; is = ap (λ n. n ∷ f) e ∙ ap (λ t. d ∷ t) h.is }

on_takes : (c d : ℕ) (f m : List ℕ) (b : ℕ) → c ≡ d → Takes f m b → Takes (c ∷ f) (d ∷ m) b
on_takes c d f m b e h = record { more = h.more; is = ap (λ n. n ∷ m) (sym e) ∙ ap (λ t. c ∷ t) h.is }

ends_or_takes : (f more m x : List ℕ) (b : ℕ) → f ++ b ∷ more ≡ m ++ x → Ends f m ⊎ Takes f m b
ends_or_takes [] more [] x b e = inl (record { more = []; is = refl })
ends_or_takes [] more (c ∷ m) x b e =
    let first : b ≡ c = cc e in
    inr (record { more = m; is = ap (λ n. n ∷ m) (sym first) })
ends_or_takes (c ∷ f) more [] x b e = inl (record { more = c ∷ f; is = refl })
ends_or_takes (c ∷ f) more (d ∷ m) x b e =
    let first : c ≡ d = cc e in
    let rest : f ++ b ∷ more ≡ m ++ x = cc e in
    elim (ends_or_takes f more m x b rest) [
      | inl h ↦ inl (on_ends c d f m first h)
      | inr h ↦ inr (on_takes c d f m b first h)
    ]

-- bytes with a bad byte begin with no mark
bad_no_mark : (bytes : List ℕ) (at : ℕ) (m : TextMark) (x : List ℕ) → IsBadAt bytes at → IsWellFormedMark m → bytes ≡ mark_bytes m ++ x → ⊥
bad_no_mark bytes at m x h g e = elim (ends_or_takes h.front h.more (mark_bytes m) x h.bad (sym h.is ∙ e)) [
  | inl ends ↦ cut_no_mark h.front m ends.more h.good g ends.is
  | inr takes ↦ h.wrong (record { mark = m; valid = g; more = takes.more; spelled = takes.is })
]

-- bytes that begin with a mark have no fault of a mark
pub no_fault : (at : ℕ) (bytes : List ℕ) (m : TextMark) (x : List ℕ) (fault : SqdFault) → IsWellFormedMark m → bytes ≡ mark_bytes m ++ x → IsFaultOf at bytes fault → ⊥
no_fault at bytes m x (NotClosed k) g e h = cut_no_mark bytes m x h.1 g e
no_fault at bytes m x (BadMark k) g e h = bad_no_mark bytes h.0 m x h.2 g e
no_fault at bytes m x _ g e h = absurd h

-- bytes that end inside a mark are a front of one, and so are those before
cut_front : (bytes front more : List ℕ) (bad : ℕ) → IsCut bytes → bytes ≡ (front ++ bad ∷ []) ++ more → IsFront (front ++ bad ∷ [])
cut_front bytes front more bad h e = record {
  mark = h.mark;
  valid = h.valid;
  more = more ++ h.next ∷ h.more;
  spelled = h.spelled ∙ ap (λ b. b ++ h.next ∷ h.more) e ∙ append_assoc (front ++ bad ∷ []) more (h.next ∷ h.more);
}

-- bytes that end inside a mark have no bad byte
cut_not_bad : (bytes : List ℕ) (at : ℕ) → IsCut bytes → IsBadAt bytes at → ⊥
cut_not_bad bytes at h g = g.wrong (cut_front bytes g.front g.more g.bad h (g.is ∙ sym (append_assoc g.front (g.bad ∷ []) g.more)))

-- a bad byte stands no later than another
not_later : (bytes : List ℕ) (i j : ℕ) → IsBadAt bytes i → IsBadAt bytes j → j ≤ i
not_later bytes i j h g = elim (ends_or_takes h.front h.more g.front (g.bad ∷ g.more) h.bad (sym h.is ∙ g.is)) [
  | inl ends ↦
      let long : length h.front ≡ length g.front + length ends.more = ap length ends.is ∙ length-append g.front ends.more in
      omega (arith, h.place, g.place, long)
  | inr takes ↦ absurd (h.wrong (cut_front g.front h.front takes.more h.bad g.good takes.is))
]

-- bytes have one fault of a mark
pub one_fault : (at : ℕ) (bytes : List ℕ) (f g : SqdFault) → IsFaultOf at bytes f → IsFaultOf at bytes g → f ≡ g
one_fault at bytes (NotClosed a) (NotClosed b) h k = ap NotClosed (h.0 ∙ sym k.0)
one_fault at bytes (NotClosed a) (BadMark b) h k = absurd (cut_not_bad bytes k.0 h.1 k.2)
one_fault at bytes (BadMark a) (NotClosed b) h k = absurd (cut_not_bad bytes h.0 k.1 h.2)
one_fault at bytes (BadMark a) (BadMark b) h k =
    let first = not_later bytes h.0 k.0 h.2 k.2 in
    let second = not_later bytes k.0 h.0 k.2 h.2 in
    let same : a ≡ b = omega (arith, first, second, h.1, k.1) in
    ap BadMark same
one_fault at bytes (NotClosed a) g h k = absurd k
one_fault at bytes (BadMark a) g h k = absurd k
one_fault at bytes f g h k = absurd h
