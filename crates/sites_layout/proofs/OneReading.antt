-- a sites text has one lattice and one first fault, or none
use Rattle.std.proofs.Common.{◌≡◌, ◌∙◌, sym, ap, subst, refl, ℕ, zero, suc, ◌+◌, ◌<◌, ◌≤◌, ℤ, ◌⊎◌, inl, inr, List, [], ◌∷◌, take, slice_get, All, Option, None, Some, unsigned_abs, arith}
use Rattle.std.specs.Prelude.{IsSomeAnd, MatchOption}
use Rattle.std.proofs.Math.Bridge.{le_prop}
use Rattle.std.proofs.lemmas.Bool.{cases_order}
use Rattle.std.proofs.lemmas.List.Elements.{All-head, All-tail}
use Rattle.sidb_layout.specs.declared.TheConstants.{MAX_STEPS, MAX_OFFSET}
use Rattle.sidb_layout.specs.declared.site.Site.{Site}
use Rattle.sidb_layout.specs.declared.lattice.Lattice.{Lattice as CrystalLattice}
use Rattle.sidb_layout.specs.Lattice.{silicon}
use Rattle.sidb_layout.specs.Layout.{Arrangement}
use Rattle.sidb_layout.specs.Refusal.{IsFirstOutside, IsTooClose}
use Rattle.sites_layout.specs.declared.line.Vectors.{Vectors}
use Rattle.sites_layout.specs.declared.line.SitesLine.{SitesLine}
use Rattle.sqd_scan.specs.declared.fault.SqdFault.{SqdFault}
use Rattle.sqd_scan.specs.declared.fault.SqdFault.TheVariants.{BadLine, OutOfRange, TooMany, TooManyFixes, Duplicate, TooClose}
use Rattle.sites_layout.specs.SitesLines.{lines_in, sites_lines_of, vectors_of}
use Rattle.sites_layout.specs.SitesFaults.{AreFineSitesLines, IsFirstBadLine, IsLineInRange, AreLinesInRange, HasTheseVectors, IsLatticeOf, HasNoClash, IsFirstClash, AtLine, AtLines, IsLinesFault, IsLayoutOf, IsSitesText, IsSitesFault}
use Rattle.sites_layout.proofs.FineLines.{fine_front}

-- a lattice of these vectors
built : (ax ay bx by cx cy : ℤ) → unsigned_abs ax + unsigned_abs bx ≤ MAX_STEPS → unsigned_abs ay + unsigned_abs by ≤ MAX_STEPS
    → unsigned_abs cx ≤ MAX_OFFSET → unsigned_abs cy ≤ MAX_OFFSET → CrystalLattice
built ax ay bx by cx cy p q r s = record {
  ax = ax;
  ay = ay;
  bx = bx;
  by = by;
  cx = cx;
  cy = cy;
  x_steps = p;
  y_steps = q;
  x_offset = r;
  y_offset = s;
}

-- v is each lattice of these vectors
abbrev IsEach : CrystalLattice → ℤ → ℤ → ℤ → ℤ → ℤ → ℤ → Type 0
IsEach v ax ay bx by cx cy =
    (p : unsigned_abs ax + unsigned_abs bx ≤ MAX_STEPS) (q : unsigned_abs ay + unsigned_abs by ≤ MAX_STEPS)
    (r : unsigned_abs cx ≤ MAX_OFFSET) (s : unsigned_abs cy ≤ MAX_OFFSET) → v ≡ built ax ay bx by cx cy p q r s

is_own : (v : CrystalLattice) → IsEach v v.ax v.ay v.bx v.by v.cx v.cy
unfolding built
is_own v p q r s =
    ap (λ x. built v.ax v.ay v.bx v.by v.cx v.cy x v.y_steps v.x_offset v.y_offset) (le_prop v.x_steps p)
    ∙ (ap (λ x. built v.ax v.ay v.bx v.by v.cx v.cy p x v.x_offset v.y_offset) (le_prop v.y_steps q)
    ∙ (ap (λ x. built v.ax v.ay v.bx v.by v.cx v.cy p q x v.y_offset) (le_prop v.x_offset r)
    ∙ ap (λ x. built v.ax v.ay v.bx v.by v.cx v.cy p q r x) (le_prop v.y_offset s)))

-- a lattice is told by its vectors
told : (u : Vectors) (v w : CrystalLattice) → HasTheseVectors u v → HasTheseVectors u w → v ≡ w
unfolding built
told u v w h k =
    let column_x = subst (λ x. IsEach v x v.ay v.bx v.by v.cx v.cy) (h.column_x ∙ sym k.column_x) (is_own v) in
    let columns = subst (λ x. IsEach v w.ax x v.bx v.by v.cx v.cy) (h.column_y ∙ sym k.column_y) column_x in
    let row_x = subst (λ x. IsEach v w.ax w.ay x v.by v.cx v.cy) (h.row_x ∙ sym k.row_x) columns in
    let rows = subst (λ x. IsEach v w.ax w.ay w.bx x v.cx v.cy) (h.row_y ∙ sym k.row_y) row_x in
    let atom_x = subst (λ x. IsEach v w.ax w.ay w.bx w.by x v.cy) (h.atom_x ∙ sym k.atom_x) rows in
    let atoms = subst (λ x. IsEach v w.ax w.ay w.bx w.by w.cx x) (h.atom_y ∙ sym k.atom_y) atom_x in
    atoms w.x_steps w.y_steps w.x_offset w.y_offset

-- lines give one lattice
pub one_lattice : (ls : List SitesLine) (v w : CrystalLattice) → IsLatticeOf ls v → IsLatticeOf ls w → v ≡ w
one_lattice ls v w = by (vectors_of ls)
  where
    by : (o : Option Vectors) → MatchOption o (v ≡ silicon) (λ u. HasTheseVectors u v) → MatchOption o (w ≡ silicon) (λ u. HasTheseVectors u w) → v ≡ w
    by None h k = h ∙ sym k
    by (Some u) h k = told u v w h k

-- the first line out of range
not_outside : {X : Type 0} (P : X → Type 0) (xs : List X) (i : ℕ) → All P xs → IsSomeAnd (slice_get xs i) (λ x. ¬ P x) → ⊥
not_outside P [] i all h = h
not_outside P (x ∷ xs) zero all h = h (All-head P x xs all)
not_outside P (x ∷ xs) (suc i) all h = not_outside P xs i (All-tail P x xs all) h

not_outside_below : {X : Type 0} (P : X → Type 0) (xs : List X) (i j : ℕ) → i < j → All P (take j xs) → IsSomeAnd (slice_get xs i) (λ x. ¬ P x) → ⊥
not_outside_below P [] i j l all h = h
not_outside_below P (x ∷ xs) i zero l all h = absurd (omega arith)
not_outside_below P (x ∷ xs) zero (suc j) l all h = h (All-head P x (take j xs) all)
not_outside_below P (x ∷ xs) (suc i) (suc j) l all h = not_outside_below P xs i j (omega arith) (All-tail P x (take j xs) all) h

one_outside : {X : Type 0} (P : X → Type 0) (xs : List X) (i j : ℕ) → IsFirstOutside P xs i → IsFirstOutside P xs j → i ≡ j
one_outside P xs i j f g = by (cases_order i j)
  where
    by : (i ≡ j) ⊎ ((i < j) ⊎ (j < i)) → i ≡ j
    by (inl e) = e
    by (inr (inl l)) = absurd (not_outside_below P xs i j l g.before f.outside)
    by (inr (inr l)) = absurd (not_outside_below P xs j i l f.before g.outside)

-- the first bad line
take_less : {X : Type 0} (xs : List X) (i j : ℕ) → i < j → take (suc i) (take j xs) ≡ take (suc i) xs
take_less xs i zero l = absurd (omega arith)
take_less [] i (suc j) l = refl
take_less (x ∷ xs) zero (suc j) l = refl
take_less (x ∷ xs) (suc i) (suc j) l = ap (λ r. x ∷ r) (take_less xs i j (omega arith))

fine_before : (found : List (Option SitesLine)) (i j : ℕ) → i < j → AreFineSitesLines (take j found) → AreFineSitesLines (take (i + 1) found)
fine_before found i j l fine =
    let next : i + 1 ≡ suc i = omega arith in
    rw next (subst AreFineSitesLines (take_less found i j l) (fine_front (take j found) (suc i) fine))

one_bad : (found : List (Option SitesLine)) (i j : ℕ) → IsFirstBadLine found i → IsFirstBadLine found j → i ≡ j
one_bad found i j f g = by (cases_order i j)
  where
    by : (i ≡ j) ⊎ ((i < j) ⊎ (j < i)) → i ≡ j
    by (inl e) = e
    by (inr (inl l)) = absurd (f.here (fine_before found i j l g.before))
    by (inr (inr l)) = absurd (g.here (fine_before found j i l f.before))

-- the first clash
pub record IsSamePair (i j k m : ℕ) : Type 0 where
  pub earlier : i ≡ k
  pub later : j ≡ m

one_clash : (R : Site → Site → Type 0) (ls : List SitesLine) (i j k m : ℕ) → IsFirstClash R ls i j → IsFirstClash R ls k m → IsSamePair i j k m
one_clash R ls i j k m f g = by (cases_order j m)
  where
    same : j ≡ m → (i ≡ k) ⊎ ((i < k) ⊎ (k < i)) → i ≡ k
    same e (inl h) = h
    same e (inr (inl l)) = absurd (g.earliest.earliest i l (rw e at f.earliest.related))
    same e (inr (inr l)) = absurd (f.earliest.earliest k l (rw (sym e) at g.earliest.related))

    by : (j ≡ m) ⊎ ((j < m) ⊎ (m < j)) → IsSamePair i j k m
    by (inl e) = record { earlier = same e (cases_order i k); later = e }
    by (inr (inl l)) = absurd (g.first i j f.earliest.before l f.earliest.related)
    by (inr (inr l)) = absurd (f.first k m g.earliest.before l g.earliest.related)

no_clash : (R : Site → Site → Type 0) (ls : List SitesLine) (i j : ℕ) → HasNoClash R ls → IsFirstClash R ls i j → ⊥
no_clash R ls i j none f = none i j f.earliest.before f.within f.earliest.related

-- the same by numbers of lines
one_number : (P : ℕ → Type 0) → ((i j : ℕ) → P i → P j → i ≡ j) → (k m : ℕ) → AtLine P k → AtLine P m → k ≡ m
one_number P one k m (i, e, p) (j, f, q) = omega (arith, one i j p q, e, f)

one_pair : (R : Site → Site → Type 0) (ls : List SitesLine) (a b c d : ℕ) → AtLines (IsFirstClash R ls) a b → AtLines (IsFirstClash R ls) c d → IsSamePair a b c d
one_pair R ls a b c d (i, e, (j, f, p)) (k, g, (m, h, q)) =
    let same = one_clash R ls i j k m p q in
    record { earlier = omega (arith, same.earlier, e, g); later = omega (arith, same.later, f, h) }

no_clash_at : (R : Site → Site → Type 0) (ls : List SitesLine) (a b : ℕ) → HasNoClash R ls → AtLines (IsFirstClash R ls) a b → ⊥
no_clash_at R ls a b none (i, e, (j, f, p)) = no_clash R ls i j none p

in_range_all : (ls : List SitesLine) (k : ℕ) → AreLinesInRange ls → AtLine (IsFirstOutside IsLineInRange ls) k → ⊥
in_range_all ls k all (i, e, f) = not_outside IsLineInRange ls i all f.outside

same_pair : (make : ℕ → ℕ → SqdFault) (a b c d : ℕ) → IsSamePair a b c d → make a b ≡ make c d
same_pair make a b c d same = ap (λ x. make x b) same.earlier ∙ ap (λ y. make c y) same.later

on_one_lattice : (ls : List SitesLine) (a b : ℕ) (v w : CrystalLattice) → IsLatticeOf ls v → IsLatticeOf ls w
    → AtLines (IsFirstClash (IsTooClose w) ls) a b → AtLines (IsFirstClash (IsTooClose v) ls) a b
on_one_lattice ls a b v w h k f = subst (λ u. AtLines (IsFirstClash (IsTooClose u) ls) a b) (one_lattice ls w v k h) f

lines_one_fault : (ls : List SitesLine) (f g : SqdFault) → IsLinesFault ls f → IsLinesFault ls g → f ≡ g
lines_one_fault ls (OutOfRange a) (OutOfRange b) h k = ap OutOfRange (one_number (IsFirstOutside IsLineInRange ls) (one_outside IsLineInRange ls) a b h k)
lines_one_fault ls (OutOfRange a) TooMany h k = absurd (in_range_all ls a k.0 h)
lines_one_fault ls (OutOfRange a) TooManyFixes h k = absurd (in_range_all ls a k.0 h)
lines_one_fault ls (OutOfRange a) (Duplicate c d) h k = absurd (in_range_all ls a k.0.in_range h)
lines_one_fault ls (OutOfRange a) (TooClose c d) h k = absurd (in_range_all ls a k.0.in_range h)
lines_one_fault ls TooMany (OutOfRange b) h k = absurd (in_range_all ls b h.0 k)
lines_one_fault ls TooMany TooMany h k = refl
lines_one_fault ls TooMany TooManyFixes h k = absurd (omega (arith, h.1, k.1))
lines_one_fault ls TooMany (Duplicate c d) h k = absurd (omega (arith, h.1, k.0.few_sites))
lines_one_fault ls TooMany (TooClose c d) h k = absurd (omega (arith, h.1, k.0.few_sites))
lines_one_fault ls TooManyFixes (OutOfRange b) h k = absurd (in_range_all ls b h.0 k)
lines_one_fault ls TooManyFixes TooMany h k = absurd (omega (arith, h.1, k.1))
lines_one_fault ls TooManyFixes TooManyFixes h k = refl
lines_one_fault ls TooManyFixes (Duplicate c d) h k = absurd (omega (arith, h.2, k.0.few_fixes))
lines_one_fault ls TooManyFixes (TooClose c d) h k = absurd (omega (arith, h.2, k.0.few_fixes))
lines_one_fault ls (Duplicate a b) (OutOfRange n) h k = absurd (in_range_all ls n h.0.in_range k)
lines_one_fault ls (Duplicate a b) TooMany h k = absurd (omega (arith, k.1, h.0.few_sites))
lines_one_fault ls (Duplicate a b) TooManyFixes h k = absurd (omega (arith, k.2, h.0.few_fixes))
lines_one_fault ls (Duplicate a b) (Duplicate c d) h k = same_pair Duplicate a b c d (one_pair (λ p q. p ≡ q) ls a b c d h.1 k.1)
lines_one_fault ls (Duplicate a b) (TooClose c d) h k = absurd (no_clash_at (λ p q. p ≡ q) ls a b k.1 h.1)
lines_one_fault ls (TooClose a b) (OutOfRange n) h k = absurd (in_range_all ls n h.0.in_range k)
lines_one_fault ls (TooClose a b) TooMany h k = absurd (omega (arith, k.1, h.0.few_sites))
lines_one_fault ls (TooClose a b) TooManyFixes h k = absurd (omega (arith, k.2, h.0.few_fixes))
lines_one_fault ls (TooClose a b) (Duplicate c d) h k = absurd (no_clash_at (λ p q. p ≡ q) ls c d h.1 k.1)
lines_one_fault ls (TooClose a b) (TooClose c d) (few, apart, (v, of_v, f)) (few', apart', (w, of_w, g)) =
    same_pair TooClose a b c d (one_pair (IsTooClose v) ls a b c d f (on_one_lattice ls c d v w of_v of_w g))
lines_one_fault ls (OutOfRange a) _ h k = absurd k
lines_one_fault ls TooMany _ h k = absurd k
lines_one_fault ls TooManyFixes _ h k = absurd k
lines_one_fault ls (Duplicate a b) _ h k = absurd k
lines_one_fault ls (TooClose a b) _ h k = absurd k
lines_one_fault ls _ g h k = absurd h

lines_no_fault : (ls : List SitesLine) (p : Arrangement) (f : SqdFault) → IsLayoutOf ls p → IsLinesFault ls f → ⊥
lines_no_fault ls p (OutOfRange k) h f = in_range_all ls k h.clear.few.in_range f
lines_no_fault ls p TooMany h f = omega (arith, f.1, h.clear.few.few_sites)
lines_no_fault ls p TooManyFixes h f = omega (arith, f.2, h.clear.few.few_fixes)
lines_no_fault ls p (Duplicate a b) h f = no_clash_at (λ x y. x ≡ y) ls a b h.clear.distinct f.1
lines_no_fault ls p (TooClose a b) h (few, apart, (w, of_w, f)) =
    no_clash_at (IsTooClose h.lattice) ls a b h.clear.apart (on_one_lattice ls a b h.lattice w h.of_lines of_w f)
lines_no_fault ls p _ h f = f

-- a fault of a text is a bad line, or one of fine lines
abbrev IsBadOrLines : List ℕ → SqdFault → Type 0
IsBadOrLines text f =
    ((k : ℕ) × (f ≡ BadLine k) × AtLine (IsFirstBadLine (lines_in text)) k)
    ⊎ (AreFineSitesLines (lines_in text) × IsLinesFault (sites_lines_of text) f)

bad_or_lines : (text : List ℕ) (f : SqdFault) → IsSitesFault text f → IsBadOrLines text f
bad_or_lines text (BadLine k) h = inl (k, refl, h)
bad_or_lines text f h = inr h

no_bad : (text : List ℕ) (k : ℕ) → AreFineSitesLines (lines_in text) → AtLine (IsFirstBadLine (lines_in text)) k → ⊥
no_bad text k fine (i, e, f) = f.here (fine_front (lines_in text) (i + 1) fine)

pub one_fault : (text : List ℕ) (f g : SqdFault) → IsSitesFault text f → IsSitesFault text g → f ≡ g
one_fault text f g h k = by (bad_or_lines text f h) (bad_or_lines text g k)
  where
    by : IsBadOrLines text f → IsBadOrLines text g → f ≡ g
    by (inl (a, e, bad)) (inl (b, e', bad')) =
        e ∙ (ap BadLine (one_number (IsFirstBadLine (lines_in text)) (one_bad (lines_in text)) a b bad bad') ∙ sym e')
    by (inl (a, e, bad)) (inr (fine, lines)) = absurd (no_bad text a fine bad)
    by (inr (fine, lines)) (inl (b, e, bad)) = absurd (no_bad text b fine bad)
    by (inr (fine, lines)) (inr (fine', lines')) = lines_one_fault (sites_lines_of text) f g lines lines'

pub no_fault : (text : List ℕ) (p : Arrangement) (f : SqdFault) → IsSitesText text p → IsSitesFault text f → ⊥
no_fault text p f h k = by (bad_or_lines text f k)
  where
    by : IsBadOrLines text f → ⊥
    by (inl (a, e, bad)) = no_bad text a h.fine bad
    by (inr (fine, lines)) = lines_no_fault (sites_lines_of text) p f h.layout lines
