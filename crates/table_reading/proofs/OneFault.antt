-- A text has one first fault: its lines lack one thing first.
use Rattle.std.proofs.Common.{◌≡◌, sym, subst, ℕ, ℤ, ◌<◌, ◌≤◌, List, Option, None, Some, arith, ◌⊎◌, inl, inr}
use Rattle.std.specs.Option.{IsSome}
use Rattle.std.proofs.lemmas.Bool.{cases_lt, cases_eq}
use Rattle.table_lines.specs.declared.line.TableLine.{TableLine}
use Rattle.table_lines.specs.declared.fault.TableFault.{TableFault}
use Rattle.table_lines.specs.declared.fault.TableFault.TheVariants.{MissingPair, MissingNear}
use Rattle.table_lines.proofs.Unique.{one_row_fault, no_row_fault, one_reading}
use Rattle.table_reading.specs.Reading.{IsEarlierPair, IsFirstMissingPair, IsFirstNear, IsLack, IsTableFault}

-- lines lack one thing first
some_none : (o : Option ℤ) → IsSome o → o ≡ None → ⊥
some_none None h e = cc h
some_none (Some c) h e = cc e

not_earlier : (i j k l : ℕ) → (IsEarlierPair i j k l → ⊥) → (IsEarlierPair k l i j → ⊥) → (i ≡ k) × (j ≡ l)
not_earlier i j k l h g = by (cases_eq i k) (cases_lt i k)
  where
    columns : (j ≡ l) ⊎ (j ≡ l → ⊥) → (j < l) ⊎ (l ≤ j) → i ≡ k → (i ≡ k) × (j ≡ l)
    columns (inl same) c e = (e, same)
    columns (inr other) (inl less) e = absurd (h (inr (e, less)))
    columns (inr other) (inr more) e = absurd (g (inr (sym e, omega (arith, other, more))))

    by : (i ≡ k) ⊎ (i ≡ k → ⊥) → (i < k) ⊎ (k ≤ i) → (i ≡ k) × (j ≡ l)
    by (inl same) c = columns (cases_eq j l) (cases_lt j l) same
    by (inr other) (inl less) = absurd (h (inl less))
    by (inr other) (inr more) = absurd (g (inl (omega (arith, other, more))))

one_pair : (ls : List TableLine) (i j k l : ℕ) → IsFirstMissingPair ls i j → IsFirstMissingPair ls k l → MissingPair i j ≡ MissingPair k l
one_pair ls i j k l a b =
    let same = not_earlier i j k l (λ e. some_none _ (b.least i j a.order a.below e) a.missing) (λ e. some_none _ (a.least k l b.order b.below e) b.missing) in
    let first = same.0 in
    let second = same.1 in
    cc (first, second)

one_near : (ls : List TableLine) (i j k l : ℕ) → IsFirstNear ls i j → IsFirstNear ls k l → MissingNear i j ≡ MissingNear k l
one_near ls i j k l a b =
    let same = not_earlier i j k l (λ e. some_none _ (b.least i j a.site a.charge e) a.missing) (λ e. some_none _ (a.least k l b.site b.charge e) b.missing) in
    let first = same.0 in
    let second = same.1 in
    cc (first, second)

pub one_lack : (ls : List TableLine) (f g : TableFault) → IsLack ls f → IsLack ls g → f ≡ g
one_lack ls (MissingPair i j) (MissingPair k l) a b = one_pair ls i j k l a b
one_lack ls (MissingNear i j) (MissingNear k l) a b = one_near ls i j k l a b
one_lack ls (MissingPair i j) (MissingNear k l) a b = absurd (some_none _ (b.pairs i j a.order a.below) a.missing)
one_lack ls (MissingNear k l) (MissingPair i j) a b = absurd (some_none _ (a.pairs i j b.order b.below) b.missing)
one_lack ls (MissingPair i j) _ a b = absurd b
one_lack ls (MissingNear i j) _ a b = absurd b
one_lack ls _ g a b = absurd a

pub one_fault : (text : List ℕ) (f g : TableFault) → IsTableFault text f → IsTableFault text g → f ≡ g
one_fault text f g (inl a) (inl b) = one_row_fault 1 text f g a b
one_fault text f g (inl a) (inr b) = absurd (no_row_fault 1 text b.0 f b.1 a)
one_fault text f g (inr a) (inl b) = absurd (no_row_fault 1 text a.0 g a.1 b)
one_fault text f g (inr a) (inr b) =
    let same = one_reading text a.0 b.0 a.1 b.1 in
    one_lack b.0 f g (subst (λ ls. IsLack ls f) same a.2) b.2
