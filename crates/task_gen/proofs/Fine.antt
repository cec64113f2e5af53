-- generated sites make a layout
use Rattle.std.proofs.Common.{◌≡◌, ◌≢◌, ap, subst, refl, ℕ, zero, suc, pos, ◌+◌, ◌*◌, ◌%◌, ◌<◌, ◌≤◌, ◌⊎◌, inl, inr, List, [], length, arith, Result, Err, None, Some}
use Rattle.std.specs.Prelude.{All, ◌↔◌, slice_index_or, slice_get, IsSomeAnd, unsigned_abs}
use Rattle.std.proofs.lemmas.List.{append-nil}
use Rattle.std.proofs.lemmas.List.Elements.{All-nil, All-cons}
use Rattle.std.proofs.lemmas.Option.{slice_get_within, get_or_from_slice_get}
use Rattle.charge_model.specs.declared.TheConstants.{MAX_SITES}
use Rattle.sidb_layout.specs.declared.site.Site.{Site}
use Rattle.sidb_layout.specs.declared.fault.LayoutFault.{LayoutFault}
use Rattle.sidb_layout.specs.declared.fault.LayoutFault.TheVariants.{OutOfRange, TooMany, TooManyFixes, Duplicate, TooClose, Memory}
use Rattle.sidb_layout.specs.Lattice.{silicon}
use Rattle.sidb_layout.specs.Layout.{Arrangement}
use Rattle.sidb_layout.specs.Refusal.{IsFirstOutside, IsFirstPair, IsLayoutRefusal}
use Rattle.sidb_layout.specs.Site.{IsInRange, origin}
use Rattle.task_gen.specs.Generator.{column_after, drawn, generated, site_by, sites_for_number, state_after}

-- so many sites
pub count_of : (count state column : ℕ) → length (generated count state column) ≡ count
count_of zero state column = refl
count_of (suc count) state column = ap suc (count_of count (state_after state) (column_after state column))

-- the column of a site, or of a site in its place
abbrev pub column_at : Site → List Site → ℕ → ℕ
column_at d sites i = unsigned_abs (slice_index_or sites i d).n

-- each site stands behind the column before
behind : (d : Site) (count state column i : ℕ) → i < count → column < column_at d (generated count state column) i
behind d zero state column i lt = absurd (omega arith)
behind d (suc count) state column zero lt = omega arith
behind d (suc count) state column (suc i) lt = omega (arith, behind d count (state_after state) (column_after state column) i (omega arith))

-- and each later one behind it
pub rising : (d : Site) (count state column i j : ℕ) → i < j → j < count → column_at d (generated count state column) i < column_at d (generated count state column) j
rising d zero state column i j before within = absurd (omega arith)
rising d (suc count) state column i zero before within = absurd (omega arith)
rising d (suc count) state column zero (suc j) before within = behind d count (state_after state) (column_after state column) j (omega arith)
rising d (suc count) state column (suc i) (suc j) before within = rising d count (state_after state) (column_after state column) i j (omega arith) (omega arith)

atom_in_range : (n : ℕ) → (pos (n % 2) ≡ pos 0) ⊎ (pos (n % 2) ≡ pos 1)
atom_in_range n = by (n % 2) (omega arith)
  where
    by : (k : ℕ) → k < 2 → (pos k ≡ pos 0) ⊎ (pos k ≡ pos 1)
    by zero lt = inl refl
    by (suc zero) lt = inr refl
    by (suc (suc k)) lt = absurd (omega arith)

-- each column is at most 11 further than the one before, so all are in range
pub in_range : (count state column : ℕ) → column + 11 * count ≤ 5000 → All IsInRange (generated count state column)
in_range zero state column few = All-nil IsInRange
in_range (suc count) state column few =
    All-cons IsInRange (site_by state column) (generated count (state_after state) (column_after state column))
    (record { column = omega arith; row = omega arith; atom = atom_in_range (drawn (state_after state)) })
    (in_range count (state_after state) (column_after state column) (omega arith))

none_outside : {X : Type 0} (P : X → Type 0) (xs : List X) (i : ℕ) → All P xs → IsFirstOutside P xs i → ⊥
none_outside P xs i all first = by (slice_get xs i) refl first.outside
  where
    by : (r : _) → slice_get xs i ≡ r → IsSomeAnd r (λ x. ¬ P x) → ⊥
    by None e out = out
    by (Some x) e out = out (subst P (get_or_from_slice_get xs i x x e) (all i x (slice_get_within xs i x e)))

-- so they are not refused
pub not_refused : (number count : ℕ) (fault : LayoutFault) → count ≤ MAX_SITES → ((i j : ℕ) → fault ≢ TooClose i j) → IsLayoutRefusal silicon (sites_for_number number count) [] fault → ⊥
not_refused number count (OutOfRange i) few apart (inl first) = none_outside IsInRange (sites_for_number number count) i (in_range count number 0 (omega arith)) first
not_refused number count (OutOfRange i) few apart (inr (a, at, all, first)) = absurd first.outside
not_refused number count TooMany few apart refused = omega (arith, refused.1, count_of count number 0)
not_refused number count TooManyFixes few apart refused = absurd (omega (arith, refused.2))
not_refused number count (Duplicate i j) few apart refused =
    let pair = subst (λ l. IsFirstPair (λ a b. a ≡ b) l i j) (append-nil (sites_for_number number count)) refused.1 in
    let rise : column_at origin (sites_for_number number count) i < column_at origin (sites_for_number number count) j = rising origin count number 0 i j pair.earliest.before (omega (arith, pair.within, count_of count number 0)) in
    let same : column_at origin (sites_for_number number count) i ≡ column_at origin (sites_for_number number count) j = ap (λ (s : Site). unsigned_abs s.n) pair.earliest.related in
    omega (arith, rise, same)
not_refused number count (TooClose i j) few apart refused = apart i j refl
not_refused number count Memory few apart refused = refused

-- the fault is want of memory
pub is_memory : (number count : ℕ) (sites : List Site) (r : Result Arrangement LayoutFault) (fault : LayoutFault) → count ≤ MAX_SITES → sites ≡ sites_for_number number count → r ≡ Err fault → ((f : LayoutFault) → f ≢ Memory → ((r ≡ Err f) ↔ IsLayoutRefusal silicon sites [] f)) → ((i j : ℕ) → r ≢ Err (TooClose i j)) → fault ≡ Memory
is_memory number count sites r Memory few same is refused apart = refl
is_memory number count sites r (OutOfRange i) few same is refused apart = absurd (not_refused number count (OutOfRange i) few (λ i j e. absurd (cc)) (subst (λ l. IsLayoutRefusal silicon l [] (OutOfRange i)) same ((refused (OutOfRange i) (λ e. absurd (cc))).0 is)))
is_memory number count sites r TooMany few same is refused apart = absurd (not_refused number count TooMany few (λ i j e. absurd (cc)) (subst (λ l. IsLayoutRefusal silicon l [] TooMany) same ((refused TooMany (λ e. absurd (cc))).0 is)))
is_memory number count sites r TooManyFixes few same is refused apart = absurd (not_refused number count TooManyFixes few (λ i j e. absurd (cc)) (subst (λ l. IsLayoutRefusal silicon l [] TooManyFixes) same ((refused TooManyFixes (λ e. absurd (cc))).0 is)))
is_memory number count sites r (Duplicate i j) few same is refused apart = absurd (not_refused number count (Duplicate i j) few (λ i j e. absurd (cc)) (subst (λ l. IsLayoutRefusal silicon l [] (Duplicate i j)) same ((refused (Duplicate i j) (λ e. absurd (cc))).0 is)))
is_memory number count sites r (TooClose i j) few same is refused apart = absurd (apart i j is)
