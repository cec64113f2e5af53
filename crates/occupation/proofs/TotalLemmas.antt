-- the lower ends of the shares of a list add up to at most the whole
use Rattle.std.proofs.Common.{◌≡◌, ◌∙◌, ℕ, zero, suc, ◌+◌, ◌-◌, ◌*◌, ◌/◌, ◌^◌, ◌<◌, ◌≤◌, min, ℤ, pos, negsuc, ◌+ℤ◌, ◌-ℤ◌, ◌*ℤ◌, ◌≤ℤ◌, ◌⊎◌, inl, inr, List, [], ◌∷◌, Option, Some, None, refl, sym, ap, subst, arith}
use Rattle.std.specs.List.{AllZip}
use Rattle.std.proofs.lemmas.Bool.{cases_lt}
use Rattle.std.proofs.lemmas.Int.{ints}
use Rattle.std.proofs.lemmas.Grind.{div_ceil_times}
use Rattle.std.proofs.Math.Nat.{mul-le-mul, mul-le-mul_left, mul-le-mul_right, div-mul-le_self}
use Rattle.std.specs.Int.{div_ceil}
use Rattle.charge_model.specs.declared.charge.Charge.{Charge}
use Rattle.charge_model.specs.declared.span.Span.{Span}
use Rattle.charge_model.specs.Problem.{Problem, IsProblem}
use Rattle.charge_model.specs.Rules.{energy}
use Rattle.occupation.specs.declared.TheConstants.{ONE, WHOLE}
use Rattle.occupation.specs.declared.share.Share.{Share}
use Rattle.occupation.specs.Rounding.{far_of, greatest_factor, least_factor, rounded_upper, share_lo, upper_sum}
use Rattle.occupation.specs.Shares.{AreRoundedShares, IsRoundedShare, sum_of_lows}
use Rattle.occupation.proofs.FactorLemmas.{AreLaws, cancel, greatest_sized, least_sized}
use Rattle.occupation.proofs.PairLemmas.{chosen, other}
use Rattle.occupation.proofs.OrderLemmas.{ClosedIsGreater, factors_in_order}
use Rattle.occupation.proofs.LawLemmas.{same_upper}
use Rattle.occupation.proofs.ShareLemmas.{own_greatest, upper_at_zero}
use Rattle.occupation.proofs.ListsOfShares.{HaveExtremes, gap_between, gaps_to}

-- an upper factor as a number; a great one for an infinite one
abbrev number_of : Option ℕ → ℕ
number_of None = ONE * ONE
number_of (Some h) = h

-- the arithmetic and the geometric mean
four_below : (P d : ℕ) → 4 * (P * (P + d)) ≤ (P + (P + d)) * (P + (P + d))
four_below P d = omega arith

four_products : (P Q : ℕ) → 4 * (P * Q) ≤ (P + Q) * (P + Q)
four_products P Q = by (cases_lt P Q) where
  by : (P < Q) ⊎ (Q ≤ P) → 4 * (P * Q) ≤ (P + Q) * (P + Q)
  by (inl less) =
      let same : P + (Q - P) ≡ Q = omega (arith, less) in
      subst (λ (q : ℕ). 4 * (P * q) ≤ (P + q) * (P + q)) same (four_below P (Q - P))
  by (inr more) =
      let same : Q + (P - Q) ≡ P = omega (arith, more) in
      let turned = four_below Q (P - Q) in
      subst (λ (q : ℕ). 4 * (q * Q) ≤ (q + Q) * (q + Q)) same (omega (arith, turned))

root_below : (u v : ℕ) → u * u ≤ v * v → u ≤ v
root_below u v squares = by (cases_lt v u) where
  by : (v < u) ⊎ (u ≤ v) → u ≤ v
  by (inl less) =
      let greater : suc v * suc v ≤ u * u = mul-le-mul less less in
      absurd (omega (arith, greater, squares))
  by (inr is) = is

squares_of : (a b x y : ℕ) → (a * (x * x)) * (b * (y * y)) ≡ a * b * ((x * y) * (x * y))
squares_of a b x y = omega arith

doubled : (o k : ℕ) → (2 * o * k) * (2 * o * k) ≡ 4 * (o * o * (k * k))
doubled o k = omega arith

-- factors whose product is at least 1 weigh the squares of two numbers to at least twice their product
means : (o a b x y : ℕ) → o * o ≤ a * b → 2 * o * (x * y) ≤ a * (x * x) + b * (y * y)
means o a b x y product =
    let P = a * (x * x) in
    let Q = b * (y * y) in
    let k = (x * y) * (x * y) in
    let more : o * o * k ≤ a * b * k = mul-le-mul_right k product in
    let four = four_products P Q in
    root_below (2 * o * (x * y)) (P + Q) (omega (arith, more, four, squares_of a b x y, doubled o (x * y)))

-- the factors of two entries against each other
module _ (laws : AreLaws) (greater : ClosedIsGreater) (kt : ℕ) (some : 1 ≤ kt) where
  from_one : (y : ℕ) → ONE ≤ number_of (rounded_upper kt (pos y))
  unfolding rounded_upper
  from_one y = by (cases_lt (far_of kt) y) where
    by : (far_of kt < y) ⊎ (y ≤ far_of kt) → ONE ≤ number_of (rounded_upper kt (pos y))
    by (inl far) = rw (chosen {A = Option ℕ} (far_of kt) y None (Some (greatest_factor kt y)) far) (omega arith)
    by (inr near) = rw (other {A = Option ℕ} (far_of kt) y None (Some (greatest_factor kt y)) near) (greatest_sized laws kt some y near).from_one

  both_above : (h g : ℕ) → ONE ≤ h → ONE ≤ g → ONE * ONE ≤ h * g
  both_above h g one two = mul-le-mul one two

  reciprocal : (L A B : ℕ) → L ≤ A → 2 ^ 80 ≤ B * L → ONE * ONE ≤ A * B
  reciprocal L A B order high = omega (arith, high, mul-le-mul_left B order)

  some_left : (B L : ℕ) → 2 ^ 80 ≤ B * L → 1 ≤ B
  some_left zero L high = absurd (omega (arith, high))
  some_left (suc B) L high = omega arith

  great_left : (B : ℕ) → 1 ≤ B → ONE * ONE ≤ ONE * ONE * B
  great_left B one = omega (arith, mul-le-mul_left (ONE * ONE) one)

  across : (y n : ℕ) → suc n ≤ y → ONE * ONE ≤ number_of (rounded_upper kt (pos y)) * number_of (rounded_upper kt (negsuc n))
  unfolding rounded_upper
  across y n order =
      let m = min (suc n) (far_of kt) in
      let L = least_factor kt m in
      let B = div_ceil (ONE * ONE) L in
      let least : 1 ≤ L = omega (arith, (least_sized laws kt some m (omega arith)).from_one) in
      let high : 2 ^ 80 ≤ B * L = (div_ceil_times (2 ^ 80) L least).0 in
      by L B high (factors_in_order laws greater kt some m) (cases_lt (far_of kt) y)
    where
      by : (L B : ℕ) → 2 ^ 80 ≤ B * L → ((b : ℕ) → min (suc n) (far_of kt) ≤ b → b ≤ far_of kt → L ≤ greatest_factor kt b) → (far_of kt < y) ⊎ (y ≤ far_of kt)
          → ONE * ONE ≤ number_of (rounded_upper kt (pos y)) * B
      by L B high below (inl far) = rw (chosen {A = Option ℕ} (far_of kt) y None (Some (greatest_factor kt y)) far) (great_left B (some_left B L high))
      by L B high below (inr near) =
          rw (other {A = Option ℕ} (far_of kt) y None (Some (greatest_factor kt y)) near)
          (reciprocal L (greatest_factor kt y) B (below y (omega (arith, order)) near) high)

  turn : (a b : ℕ) → ONE * ONE ≤ a * b → ONE * ONE ≤ b * a
  turn a b h = omega (arith, h)

  pub products : (a b : ℤ) → pos 0 ≤ℤ (a +ℤ b) → ONE * ONE ≤ number_of (rounded_upper kt a) * number_of (rounded_upper kt b)
  products (pos y) (pos z) both = both_above (number_of (rounded_upper kt (pos y))) (number_of (rounded_upper kt (pos z))) (from_one y) (from_one z)
  products (pos y) (negsuc n) both = across y n (omega (arith, ints, both))
  products (negsuc n) (pos y) both = turn (number_of (rounded_upper kt (pos y))) (number_of (rounded_upper kt (negsuc n))) (across y n (omega (arith, ints, both)))
  products (negsuc m) (negsuc n) both = absurd (omega (arith, ints, both))

-- sums over entries of a number for each pair of them
module _ (h : List Charge → List Charge → ℕ) (x : List Charge → ℕ) where
  abbrev weight : List Charge → List Charge → ℕ
  weight c e = h c e * (x c * x c)

  abbrev numbers : List (List Charge) → ℕ
  numbers [] = 0
  numbers (e ∷ es) = x e + numbers es

  abbrev row : List Charge → List (List Charge) → ℕ
  row c [] = 0
  row c (e ∷ es) = weight c e + row c es

  abbrev column : List Charge → List (List Charge) → ℕ
  column e [] = 0
  column e (c ∷ cs) = weight c e + column e cs

  abbrev total : List (List Charge) → List (List Charge) → ℕ
  total [] es = 0
  total (c ∷ cs) es = row c es + total cs es

  columns : (cs es : List (List Charge)) (e : List Charge) → total cs (e ∷ es) ≡ column e cs + total cs es
  columns [] es e = refl
  columns (c ∷ cs) es e = let rest = columns cs es e in omega (arith, rest)

  module _ (o : ℕ) (product : (c e : List Charge) → o * o ≤ h c e * h e c) (own : (c : List Charge) → o ≤ h c c) where
    pair : (c e : List Charge) → 2 * o * (x c * x e) ≤ weight c e + weight e c
    pair c e = means o (h c e) (h e c) (x c) (x e) (product c e)

    both : (c : List Charge) (es : List (List Charge)) → 2 * o * (x c * numbers es) ≤ row c es + column c es
    both c [] = omega arith
    both c (e ∷ es) = let rest = both c es in let first = pair c e in omega (arith, rest, first)

    square : (es : List (List Charge)) → o * (numbers es * numbers es) ≤ total es es
    square [] = omega arith
    square (e ∷ es) =
        let rest = square es in
        let cross = both e es in
        let corner : o * (x e * x e) ≤ weight e e = mul-le-mul_right (x e * x e) (own e) in
        let split = columns es es e in
        omega (arith, rest, cross, corner, split)

  module _ (whole : ℕ) (l : List (List Charge)) (bounded : (c : List Charge) → row c l ≤ whole * x c) where
    all_rows : (cs : List (List Charge)) → total cs l ≤ whole * numbers cs
    all_rows [] = omega arith
    all_rows (c ∷ cs) = let rest = all_rows cs in let first = bounded c in omega (arith, rest, first)

-- a number whose square is at most a multiple of it
at_most_whole : (o w n : ℕ) → 1 ≤ o → o * (n * n) ≤ w * o * n → n ≤ w
at_most_whole o w zero some product = omega arith
at_most_whole o w (suc n) some product =
    let one : 1 ≤ suc n = omega arith in
    let positive : 1 * 1 ≤ o * suc n = mul-le-mul some one in
    cancel (o * suc n) (suc n) w positive (omega (arith, product))

module _ (laws : AreLaws) (greater : ClosedIsGreater) (have : HaveExtremes) (p : Problem) (valid : IsProblem p) (kt : ℕ) (some : 1 ≤ kt) (l : List (List Charge)) where
  abbrev gap : (c e : List Charge) → Span
  gap c e = (gap_between have p valid c e).0

  abbrev factor : List Charge → List Charge → ℕ
  factor c e = number_of (rounded_upper kt (gap c e).hi)

  abbrev upper_of : List Charge → Option ℕ
  upper_of c = upper_sum kt (gaps_to have p valid c l).0

  abbrev low_of : List Charge → ℕ
  low_of c = share_lo (upper_of c)

  opposite : (c e : List Charge) → pos 0 ≤ℤ ((gap c e).hi +ℤ (gap e c).hi)
  opposite c e =
      let one = (gap_between have p valid c e).1.greatest in
      let two = (gap_between have p valid e c).1.greatest in
      let at = one.reached in
      let bound = subst (λ (s : ℕ). (energy p at.0 e -ℤ energy p at.0 c) ≤ℤ (pos s *ℤ (gap e c).hi)) at.2.0 (two.bounds at.0 at.1) in
      omega (arith, ints, bound, at.2.1)

  product : (c e : List Charge) → ONE * ONE ≤ factor c e * factor e c
  product c e = products laws greater kt some (gap c e).hi (gap e c).hi (opposite c e)

  own : (c : List Charge) → ONE ≤ factor c c
  own c =
      let one = ap (λ z. number_of (rounded_upper kt z)) (own_greatest p c (gap c c) (gap_between have p valid c c).1) ∙ ap number_of (upper_at_zero kt) in
      omega (arith, one)

  -- a finite sum of factors, times a square, is the row
  finite_row : (x : List Charge → ℕ) (c : List Charge) (es : List (List Charge)) (n : ℕ) → upper_sum kt (gaps_to have p valid c es).0 ≡ Some n → row factor x c es ≡ n * (x c * x c)
  unfolding upper_sum gaps_to
  finite_row x c [] n is = let none = ap (λ (m : ℕ). m * (x c * x c)) (some_of 0 n is) in omega (arith, none)
    where
      some_of : (a b : ℕ) → Some a ≡ Some b → a ≡ b
      some_of a b e = cc
  finite_row x c (e ∷ es) n is = by (rounded_upper kt (gap c e).hi) refl (upper_sum kt (gaps_to have p valid c es).0) refl (finite_row x c es)
    where
      by : (one : Option ℕ) → rounded_upper kt (gap c e).hi ≡ one → (rest : Option ℕ) → upper_sum kt (gaps_to have p valid c es).0 ≡ rest
          → ((m : ℕ) → upper_sum kt (gaps_to have p valid c es).0 ≡ Some m → row factor x c es ≡ m * (x c * x c)) → row factor x c (e ∷ es) ≡ n * (x c * x c)
      by None first rest others more = absurd (cc)
      by (Some a) first None others more = absurd (cc)
      by (Some a) first (Some b) others more =
          let sum : a + b ≡ n = cc in
          let whole = ap (λ (m : ℕ). m * (x c * x c)) sum in
          let rest = more b others in
          let number = ap (λ o. number_of o * (x c * x c)) first in
          omega (arith, whole, rest, number)

  -- a row is at most the whole times its number
  bounded : (c : List Charge) → row factor low_of c l ≤ WHOLE * ONE * low_of c
  bounded c = by (upper_of c) refl
    where
      no_row : (es : List (List Charge)) → low_of c ≡ 0 → row factor low_of c es ≡ 0
      no_row [] none = refl
      no_row (e ∷ es) none = let rest = no_row es none in omega (arith, rest, ap (λ (n : ℕ). factor c e * (n * n)) none)

      by : (upper : Option ℕ) → upper_of c ≡ upper → row factor low_of c l ≤ WHOLE * ONE * low_of c
      by None is = let none = no_row l (ap share_lo is) in omega (arith, none)
      by (Some n) is =
          let low : low_of c ≡ WHOLE * ONE / n = ap share_lo is in
          let below : WHOLE * ONE / n * n ≤ WHOLE * ONE = div-mul-le_self (WHOLE * ONE) n in
          let small : low_of c * n ≤ WHOLE * ONE = subst (λ (m : ℕ). m * n ≤ WHOLE * ONE) (sym low) below in
          let more = mul-le-mul_right (low_of c) small in
          let is_row = finite_row low_of c l n is in
          omega (arith, more, is_row)

  lows_fit : numbers factor low_of l ≤ WHOLE
  lows_fit =
      let low = square factor low_of ONE product own l in
      let high = all_rows factor low_of (WHOLE * ONE) l bounded l in
      at_most_whole ONE WHOLE (numbers factor low_of l) (omega arith) (omega (arith, low, high))

  -- the lower ends of shares are these numbers
  lows_are : (es : List (List Charge)) (ss : List Share) → AllZip (IsRoundedShare p kt l) es ss → sum_of_lows ss ≡ pos (numbers factor low_of es)
  lows_are [] [] are = refl
  lows_are [] (s ∷ ss) are = absurd are
  lows_are (e ∷ es) [] are = absurd are
  lows_are (e ∷ es) (s ∷ ss) are =
      let is = are.0 in
      let same = same_upper p kt e e (λ t is. refl) l is.gaps (gaps_to have p valid e l).0 is.are_gaps (gaps_to have p valid e l).1 in
      let first : s.lo ≡ pos (low_of e) = ap (λ r. r.lo) is.rounded ∙ ap (λ o. pos (share_lo o)) same in
      let rest = lows_are es ss are.1 in
      omega (arith, ints, first, rest)

  pub lows_fit_the_whole : (ss : List Share) → AreRoundedShares p kt l ss → sum_of_lows ss ≤ℤ pos WHOLE
  lows_fit_the_whole ss are = let sum = lows_are l ss are in let fit = lows_fit in omega (arith, ints, sum, fit)
