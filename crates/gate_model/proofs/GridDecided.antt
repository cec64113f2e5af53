-- each text is some grid, or is none
use Rattle.std.proofs.Common.{◌≡◌, refl, ℕ, pos, ◌+◌, ◌-◌, ◌*◌, ◌<◌, ◌≤◌, ◌≤ℤ◌, List, [], ◌∷◌, ◌⊎◌, inl, inr, arith}
use Rattle.std.proofs.lemmas.Bool.{cases_lt}
use Rattle.std.proofs.lemmas.Int.{ints}
use Rattle.std.proofs.Math.Nat.{mul-le-mul_left}
use Rattle.sidb_units.specs.declared.TheConstants.{MAX_GRID}
use Rattle.model_params.specs.declared.quantity.Quantity.{Quantity}
use Rattle.model_params.specs.Quantities.{permittivity, screening_length}
use Rattle.gate_model.specs.declared.TheConstants.{MAX_GRID_STEP}
use Rattle.gate_model.specs.declared.grid.Axis.{Axis}
use Rattle.gate_model.specs.Grids.{HasPointsIn, point_at}
use Rattle.gate_model.specs.GridTexts.{AreNumbers, IsAxisText, IsCount, IsGridText, IsGridStart, IsGridStep}
use Rattle.gate_model.specs.Pairs.{between_colons, parts}
use Rattle.gate_model.proofs.PairLemmas.{IsReadOnce}
use Rattle.gate_model.proofs.GridLemmas.{no_first_axis, no_numbers, no_second_axis, outside_text}
use Rattle.gate_model.proofs.Decided.{AreReadings, HasSomeOrNone, IsDecided, as_count, some_count}

-- a direction with counted numbers
abbrev made : ℕ → ℕ → ℕ → Axis
made s t n = record { start = pos s; step = pos t; count = n }

-- its points are counted
point_is : (s t n k : ℕ) → point_at (made s t n) k ≡ pos (s + t * k)
point_is s t n k = refl

-- a range from a counted number to a counted number
pub record IsCounted (q : Quantity) : Type 0 where
  pub least : ℕ
  pub greatest : ℕ
  pub from : q.least ≡ pos least
  pub to : q.greatest ≡ pos greatest

-- whether each point is in the range: the last one tells
points_decided : (q : Quantity) → IsCounted q → (s t n : ℕ) → q.least ≤ℤ pos s → pos 1 ≤ℤ pos n → IsDecided (HasPointsIn q (made s t n))
points_decided q counted s t n from some = by (cases_lt counted.greatest (s + t * (n - 1)))
  where
    by : (counted.greatest < s + t * (n - 1)) ⊎ (s + t * (n - 1) ≤ counted.greatest) → IsDecided (HasPointsIn q (made s t n))
    by (inl over) = inr (λ inside.
        let last = inside (n - 1) (omega (arith, ints, some)) in
        omega (arith, ints, last.to, counted.to, over, point_is s t n (n - 1)))
    by (inr within) = inl (λ k lt.
        let before : t * k ≤ t * (n - 1) = mul-le-mul_left t (omega (arith, lt)) in
        record { from = omega (arith, ints, from, point_is s t n k); to = omega (arith, ints, before, within, counted.to, point_is s t n k) })

module _ (readings : AreReadings) (once : IsReadOnce) (q : Quantity) (counted : IsCounted q) (part : List ℕ) where
  -- three words are some direction, or are none
  three_words : (x y z : List ℕ) → between_colons part ≡ x ∷ y ∷ z ∷ [] → HasSomeOrNone (IsAxisText q part)
  three_words x y z words = by (some_count readings x q.places q.least q.greatest) (some_count readings y 4 (pos 1) MAX_GRID_STEP) (some_count readings z 0 (pos 1) (pos MAX_GRID))
    where
      by_points : (s t n : ℕ) → AreNumbers q x y z (made s t n) → IsDecided (HasPointsIn q (made s t n)) → HasSomeOrNone (IsAxisText q part)
      by_points s t n numbers (inl inside) = inl (
        made s t n,
        record { start = x; step = y; count = z; words = words; numbers = numbers; inside = inside },
      )
      by_points s t n numbers (inr outside) = inr (outside_text once q part x y z words (made s t n) numbers outside)

      by : HasSomeOrNone (λ n. IsGridStart q x (pos n)) → HasSomeOrNone (λ n. IsGridStep y (pos n)) → HasSomeOrNone (IsCount z) → HasSomeOrNone (IsAxisText q part)
      by (inl (s, is_start)) (inl (t, is_step)) (inl (n, is_count)) =
          by_points s t n (record { start_number = is_start; step_number = is_step; count_number = is_count }) (points_decided q counted s t n is_start.from is_count.from)
      by (inr never) step count = inr (no_numbers q part x y z words (λ axis are.
          let n = as_count x q.places q.least q.greatest axis.start are.start_number in never n.0 n.1))
      by (inl start) (inr never) count = inr (no_numbers q part x y z words (λ axis are. let n = as_count y 4 (pos 1) MAX_GRID_STEP axis.step are.step_number in never n.0 n.1))
      by (inl start) (inl step) (inr never) = inr (no_numbers q part x y z words (λ axis are. never axis.count are.count_number))

  -- a part of a text is some direction, or is none
  some_axis : HasSomeOrNone (IsAxisText q part)
  some_axis = by (between_colons part) refl
    where
      by : (words : List (List ℕ)) → between_colons part ≡ words → HasSomeOrNone (IsAxisText q part)
      by [] none = inr (λ axis is. cc (none, is.words))
      by (x ∷ []) one = inr (λ axis is. cc (one, is.words))
      by (x ∷ y ∷ []) two = inr (λ axis is. cc (two, is.words))
      by (x ∷ y ∷ z ∷ []) three = three_words x y z three
      by (x ∷ y ∷ z ∷ w ∷ rest) more = inr (λ axis is. cc (more, is.words))

module _ (readings : AreReadings) (once : IsReadOnce) (text : List ℕ) where
  -- two parts are some grid, or are none
  two_parts : (x y : List ℕ) → parts text ≡ x ∷ y ∷ [] → HasSomeOrNone (IsGridText text)
  two_parts x y both =
      by
      (some_axis readings once permittivity (record { least = 10000; greatest = 1000000; from = refl; to = refl }) x)
      (some_axis readings once screening_length (record { least = 1000; greatest = 10000000; from = refl; to = refl }) y)
    where
      by : HasSomeOrNone (IsAxisText permittivity x) → HasSomeOrNone (IsAxisText screening_length y) → HasSomeOrNone (IsGridText text)
      by (inl (eps, is_eps)) (inl (lam, is_lam)) = inl (
        record { eps = eps; lam = lam },
        record { eps_part = x; lam_part = y; both = both; eps = is_eps; lam = is_lam },
      )
      by (inr never) second = inr (no_first_axis text x y both never)
      by (inl first) (inr never) = inr (no_second_axis text x y both never)

  -- a text is some grid, or is none
  pub some_grid_text : HasSomeOrNone (IsGridText text)
  some_grid_text = by (parts text) refl
    where
      by : (words : List (List ℕ)) → parts text ≡ words → HasSomeOrNone (IsGridText text)
      by [] none = inr (λ a is. cc (none, is.both))
      by (x ∷ []) one = inr (λ a is. cc (one, is.both))
      by (x ∷ y ∷ []) two = two_parts x y two
      by (x ∷ y ∷ z ∷ rest) more = inr (λ a is. cc (more, is.both))
