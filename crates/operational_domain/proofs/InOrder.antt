-- lists whose element k is what place k asks for
use Rattle.std.proofs.Common.{◌≡◌, ◌⊎◌, inl, inr, ℕ, zero, suc, ◌+◌, ◌*◌, ◌<◌, ◌≤◌, refl, sym, ap, ◌∙◌, arith, subst, List, [], ◌∷◌, ◌++◌, length, slice_index_or, Result, Ok, Err, IfOk}
use Rattle.std.proofs.lemmas.Bool.{cases_lt}
use Rattle.std.proofs.lemmas.List.{length-append, get_or_default}
use Rattle.std.proofs.lemmas.Slice.Zip.{AllZip-long}
use Rattle.std.proofs.Math.ListN.{get_or-append}
use Rattle.std.specs.List.{AllZip}
use Rattle.sidb_layout.specs.Layout.{Arrangement}
use Rattle.model_params.specs.declared.params.Params.{Params}
use Rattle.gate_model.specs.Logic.{Logic, pattern_count}
use Rattle.gate_model.specs.Grids.{Axes}
use Rattle.bdl_pairs.specs.declared.cell.Cell.{Cell}
use Rattle.bdl_pairs.specs.Remaining.{Remaining}
use Rattle.operational_domain.specs.Placed.{AreShapes, IsShape, Placed, placed_of}
use Rattle.operational_domain.specs.Points.{ArePoints, IsPoint}
use Rattle.operational_domain.specs.Cells.{IsCellOf}
use Rattle.operational_domain.specs.Domain.{AreCells, IsCellAt}

-- the last of a list with one more
last : {X : Type 0} (xs : List X) (x d : X) → slice_index_or (xs ++ x ∷ []) (length xs) d ≡ x
last [] x d = refl
last (y ∷ xs) x d = last xs x d

-- place k of a list has what it asks for
abbrev pub AreThere : {X : Type 0} → (ℕ → X → Type 0) → ℕ → List X → Type 0
AreThere P n xs = (k : ℕ) → k < n → (x : _) × (slice_index_or xs k x ≡ x) × P k x

-- one more is there
pub more_there : {X : Type 0} (P : ℕ → X → Type 0) (n : ℕ) (xs : List X) (x : X) → length xs ≡ n → AreThere P n xs → P n x → AreThere P (n + 1) (xs ++ x ∷ [])
more_there P n xs x count there is k lt = by (cases_lt k n)
  where
    by : (k < n) ⊎ (n ≤ k) → (y : _) × (slice_index_or (xs ++ x ∷ []) k y ≡ y) × P k y
    by (inl less) = let old = there k less in
        (old.0, get_or-append xs (x ∷ []) old.0 k (subst (λ m. k < m) (sym count) less) ∙ old.1, old.2)
    by (inr more) = let same : n ≡ k = omega (arith, lt, more) in
        (x, subst (λ m. slice_index_or (xs ++ x ∷ []) m x ≡ x) (count ∙ same) (last xs x x), subst (λ m. P m x) same is)

pub shapes_more : (whole : Arrangement) (gate : Logic) (n : ℕ) (shapes : List Remaining) (left : Remaining) → AreShapes whole gate n shapes → IsShape whole gate n left → AreShapes whole gate (n + 1) (shapes ++ left ∷ [])
shapes_more whole gate n shapes left are is = record {
  count = length-append shapes (left ∷ []) ∙ ap (λ m. m + 1) are.count;
  each = more_there (IsShape whole gate) n shapes left are.count are.each is;
}

pub no_shapes : (whole : Arrangement) (gate : Logic) → AreShapes whole gate 0 []
no_shapes whole gate = record { count = refl; each = λ k lt. absurd (omega (arith, lt)) }

-- the shape of a pattern of a placed gate
pub shape_at : (v : Placed) (whole : Arrangement) (gate : Logic) (limit : ℕ) (shapes : List Remaining) (k : ℕ) (left : Remaining) → placed_of whole gate limit ≡ v → AreShapes whole gate (pattern_count gate) shapes → k < pattern_count v.gate → left ≡ slice_index_or shapes k left → IsShape v.whole v.gate k left
shape_at v whole gate limit shapes k left same are lt at =
    let less : k < pattern_count gate = subst (λ (u : Placed). k < pattern_count u.gate) (sym same) lt in
    let one = are.each k less in
    let within : k < length shapes = subst (λ m. k < m) (sym are.count) less in
    subst (λ (u : Placed). IsShape u.whole u.gate k left) same (subst (IsShape whole gate k) (sym (at ∙ get_or_default shapes k left one.0 within ∙ one.1)) one.2)

-- what holds of a result that is there
pub if_ok : {X E : Type 0} (P Q : X → Type 0) (r : Result X E) → ((x : X) → P x → Q x) → IfOk r P → IfOk r Q
if_ok P Q (Ok x) f h = f x h
if_ok P Q (Err e) f h = tt

pub points_more : (p : Params) (a : Axes) (n : ℕ) (points : List Params) (point : Params) → ArePoints p a n points → IsPoint p a n point → ArePoints p a (n + 1) (points ++ point ∷ [])
points_more p a n points point are is = record {
  count = length-append points (point ∷ []) ∙ ap (λ m. m + 1) are.count;
  each = more_there (IsPoint p a) n points point are.count are.each is;
}

pub no_points : (p : Params) (a : Axes) → ArePoints p a 0 []
no_points p a = record { count = refl; each = λ k lt. absurd (omega (arith, lt)) }

-- the element beside another
beside : {X Y : Type 0} (R : X → Y → Type 0) (xs : List X) (ys : List Y) (k : ℕ) (x : X) → AllZip R xs ys → k < length xs → slice_index_or xs k x ≡ x → (y : Y) × (slice_index_or ys k y ≡ y) × R x y
beside R [] ys k x zip lt at = absurd (omega arith)
beside R (w ∷ xs) [] k x zip lt at = absurd zip
beside R (w ∷ xs) (y ∷ ys) zero x zip lt at = (y, refl, subst (λ v. R v y) at zip.0)
beside R (w ∷ xs) (y ∷ ys) (suc k) x zip lt at = beside R xs ys k x zip.1 (omega arith) at

-- the cells of points are those of the grid
pub cells_of_points : (placed : Placed) (p : Params) (a : Axes) (points : List Params) (cells : List Cell) → ArePoints p a (a.eps.count * a.lam.count) points → AllZip (IsCellOf placed) points cells → AreCells placed p a cells
cells_of_points placed p a points cells are zip = record {
  count = AllZip-long (IsCellOf placed) points cells zip ∙ are.count;
  each = λ k lt.
      let one = are.each k lt in
      let cell = beside (IsCellOf placed) points cells k one.0 zip (subst (λ m. k < m) (sym are.count) lt) one.1 in
      (cell.0, cell.1, record { point = one.0; of_grid = one.2; answers = cell.2 });
}
