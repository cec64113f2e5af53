-- whether places and fixed charges are in range, and whether two places are the same, is decided
use Rattle.std.proofs.Common.{◌≡◌, ℕ, ◌<◌, ◌≤◌, ℤ, pos, neg_ℤ, ◌≤ℤ◌, Bool, true, false, ◌⊎◌, inl, inr, unsigned_abs, Ordering, arith, refl, ap, ◌∙◌}
use Rattle.std.specs.Prelude.{int_le}
use Rattle.std.specs.declared.cmp.Ordering.TheVariants.{Less, Equal, Greater}
use Rattle.std.specs.Ordering.{int_cmp}
use Rattle.std.proofs.lemmas.Bool.{cases_lt}
use Rattle.std.proofs.lemmas.Cmp.{int_ranked}
use Rattle.std.proofs.lemmas.Int.{ints}
use Rattle.charge_model.specs.declared.TheConstants.{MAX_FIXED_CHARGE}
use Rattle.charge_model.specs.Problem.{IsFixedCharge}
use Rattle.sidb_layout.specs.declared.TheConstants.{MAX_PLACE}
use Rattle.sidb_layout.specs.declared.site.Site.{Site}
use Rattle.sidb_layout.specs.declared.site.Fix.{Fix}
use Rattle.sidb_layout.specs.declared.lattice.Lattice.{Lattice}
use Rattle.sidb_layout.specs.declared.TheConstants.{LEAST_SQUARED_DISTANCE}
use Rattle.sidb_layout.specs.Site.{IsInRange, IsFixInRange}
use Rattle.sidb_layout.specs.Lattice.{squared_distance}
use Rattle.sidb_layout.specs.Refusal.{IsTooClose}

-- it holds, or it does not
abbrev pub Decided : Type 0 → Type 0
Decided P = P ⊎ (P → ⊥)

both : (P Q : Type 0) → Decided P → Decided Q → Decided (P × Q)
both P Q (inl a) (inl b) = inl (a, b)
both P Q (inr never) b = inr (λ h. never h.0)
both P Q (inl a) (inr never) = inr (λ h. never h.1)

either : (P Q : Type 0) → Decided P → Decided Q → Decided (P ⊎ Q)
either P Q (inl a) b = inl (inl a)
either P Q (inr never) (inl b) = inl (inr b)
either P Q (inr never) (inr none) = inr neither
  where
    neither : P ⊎ Q → ⊥
    neither (inl a) = never a
    neither (inr b) = none b

-- two statements that follow from each other
as_well : (P Q : Type 0) → (P → Q) → (Q → P) → Decided P → Decided Q
as_well P Q to from (inl a) = inl (to a)
as_well P Q to from (inr never) = inr (λ q. never (from q))

at_most : (m n : ℕ) → Decided (m ≤ n)
at_most m n = by (cases_lt n m)
  where
    by : (n < m) ⊎ (m ≤ n) → Decided (m ≤ n)
    by (inl more) = inr (λ h. omega (arith, h, more))
    by (inr most) = inl most

at_most_ℤ : (x y : ℤ) → Decided (x ≤ℤ y)
at_most_ℤ x y = by (int_le x y) refl
  where
    by : (b : Bool) → int_le x y ≡ b → Decided (x ≤ℤ y)
    by true e = inl (omega (arith, ints, e))
    by false e = inr (λ h. omega (arith, ints, h, e))

equal_ℤ : (x y : ℤ) → Decided (x ≡ y)
equal_ℤ x y = by (int_cmp x y) refl
  where
    by : (r : Ordering) → r ≡ int_cmp x y → Decided (x ≡ y)
    by Less e = let less = int_ranked x y Less e in inr (λ same. omega (arith, ints, less, same))
    by Equal e = inl (int_ranked x y Equal e)
    by Greater e = let greater = int_ranked x y Greater e in inr (λ same. omega (arith, ints, greater, same))

pub in_range : (s : Site) → Decided (IsInRange s)
in_range s = as_well parts (IsInRange s)
    (λ h. record { column = h.0; row = h.1.0; atom = h.1.1 }) (λ h. (h.column, (h.row, h.atom)))
    (both (unsigned_abs s.n ≤ MAX_PLACE) ((unsigned_abs s.m ≤ MAX_PLACE) × atoms) (at_most (unsigned_abs s.n) MAX_PLACE)
    (both (unsigned_abs s.m ≤ MAX_PLACE) atoms (at_most (unsigned_abs s.m) MAX_PLACE)
    (either (s.l ≡ pos 0) (s.l ≡ pos 1) (equal_ℤ s.l (pos 0)) (equal_ℤ s.l (pos 1)))))
  where
    atoms : Type 0
    atoms = (s.l ≡ pos 0) ⊎ (s.l ≡ pos 1)

    parts : Type 0
    parts = (unsigned_abs s.n ≤ MAX_PLACE) × ((unsigned_abs s.m ≤ MAX_PLACE) × atoms)

is_charge : (q : ℤ) → Decided (IsFixedCharge q)
is_charge q = by (at_most_ℤ (neg_ℤ MAX_FIXED_CHARGE) q) (at_most_ℤ q MAX_FIXED_CHARGE) (equal_ℤ q (pos 0))
  where
    by : Decided (neg_ℤ MAX_FIXED_CHARGE ≤ℤ q) → Decided (q ≤ℤ MAX_FIXED_CHARGE) → Decided (q ≡ pos 0) → Decided (IsFixedCharge q)
    by (inr never) b c = inr (λ h. never h.least)
    by (inl a) (inr never) c = inr (λ h. never h.greatest)
    by (inl a) (inl b) (inl is) = inr (λ h. h.charged is)
    by (inl a) (inl b) (inr charged) = inl (record { least = a; greatest = b; charged = charged })

pub fix_in_range : (f : Fix) → Decided (IsFixInRange f)
fix_in_range f = by (in_range f.site) (is_charge f.charge)
  where
    by : Decided (IsInRange f.site) → Decided (IsFixedCharge f.charge) → Decided (IsFixInRange f)
    by (inr never) b = inr (λ h. never h.place)
    by (inl a) (inr never) = inr (λ h. never h.charge)
    by (inl a) (inl b) = inl (record { place = a; charge = b })

pub same_site : (a b : Site) → a.n ≡ b.n → a.m ≡ b.m → a.l ≡ b.l → a ≡ b
same_site a b n m l =
    ap (λ (k : ℤ). let s : Site = record { n = k; m = a.m; l = a.l } in s) n
    ∙ (ap (λ (k : ℤ). let s : Site = record { n = b.n; m = k; l = a.l } in s) m
    ∙ ap (λ (k : ℤ). let s : Site = record { n = b.n; m = b.m; l = k } in s) l)

pub same : (a b : Site) → Decided (a ≡ b)
same a b = by (equal_ℤ a.n b.n) (equal_ℤ a.m b.m) (equal_ℤ a.l b.l)
  where
    by : Decided (a.n ≡ b.n) → Decided (a.m ≡ b.m) → Decided (a.l ≡ b.l) → Decided (a ≡ b)
    by (inr never) q r = inr (λ e. never (ap (λ (s : Site). s.n) e))
    by (inl p) (inr never) r = inr (λ e. never (ap (λ (s : Site). s.m) e))
    by (inl p) (inl q) (inr never) = inr (λ e. never (ap (λ (s : Site). s.l) e))
    by (inl p) (inl q) (inl r) = inl (same_site a b p q r)

pub too_close : (v : Lattice) (a b : Site) → Decided (IsTooClose v a b)
too_close v a b = by (cases_lt (squared_distance v a b) LEAST_SQUARED_DISTANCE)
  where
    by : (squared_distance v a b < LEAST_SQUARED_DISTANCE) ⊎ (LEAST_SQUARED_DISTANCE ≤ squared_distance v a b) → Decided (IsTooClose v a b)
    by (inl close) = inl close
    by (inr far) = inr (λ h. omega (arith, h, far))
