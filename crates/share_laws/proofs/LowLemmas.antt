-- the lower ends of the intervals of a list add up to at most 1
use Rattle.std.proofs.Common.{◌≡◌, ◌∙◌, ℕ, ◌+◌, ◌*◌, ◌/◌, ◌≤◌, ℤ, pos, ◌+ℤ◌, ◌-ℤ◌, List, [], ◌∷◌, Option, Some, None, refl, sym, ap, subst, arith}
use Rattle.std.specs.Prelude.{All, Contains}
use Rattle.std.proofs.lemmas.Int.{ints}
use Rattle.std.proofs.lemmas.List.Elements.{All-head, All-tail, All-contains_itself}
use Rattle.std.proofs.Math.Nat.{mul-le-mul, mul-le-mul_left, div-mul-le_self}
use Rattle.std.proofs.lemmas.Nat.{div-mul-add}
use Rattle.root_exp.specs.Series.{Fraction}
use Rattle.charge_model.specs.declared.charge.Charge.{Charge}
use Rattle.charge_model.specs.Problem.{Problem, Table, IsTable}
use Rattle.charge_model.specs.Rules.{energy}
use Rattle.occupation.specs.Fractions.{nothing, plus}
use Rattle.occupation.specs.Intervals.{differences, inverse_finite, upper_factor, upper_total}
use Rattle.occupation.proofs.OrderLemmas.{ClosedIsGreater}
use Rattle.occupation.proofs.FractionLemmas.{ends_are_fractions}
use Rattle.share_laws.specs.Sums.{IsAtMostOne, lows_at, sum_of}
use Rattle.share_laws.proofs.Squares.{at_most_whole, numbers, root_below, row, square, total}
use Rattle.share_laws.proofs.Numbers.{first_part, number_of, numbers_reach}
use Rattle.share_laws.proofs.Factors.{HasBottom, opposite, factor_bottom, total_bottom}

-- the bottom of a sum, 1 for an infinite one
bottom_of : Option Fraction → ℕ
bottom_of None = 1
bottom_of (Some f) = f.bottom

-- the quotient of a multiple
quotient_is : (a b n : ℕ) → 1 ≤ b → a ≡ n * b → a / b ≡ n
quotient_is a b n some is = ap (λ (m : ℕ). m / b) (omega (arith, is)) ∙ div-mul-add n b 0 some

-- so many times a fraction, rounded down
down_of : ℕ → Fraction → ℕ
down_of w f = w * f.top / f.bottom

down_below : (w : ℕ) (f : Fraction) → down_of w f * f.bottom ≤ w * f.top
unfolding down_of
down_below w f = div-mul-le_self (w * f.top) f.bottom

down_nothing : (w : ℕ) → down_of w nothing ≡ 0
unfolding down_of
down_nothing w = quotient_is (w * 0) 1 0 (omega arith) (omega arith)

down_part : (m : ℕ) (f : Fraction) (b : ℕ) → 1 ≤ f.bottom → down_of (m * (f.bottom * b)) f ≡ m * (f.top * b)
unfolding down_of
down_part m f b some = quotient_is (m * (f.bottom * b) * f.top) f.bottom (m * (f.top * b)) some (omega arith)

module _ (greater : ClosedIsGreater) (p : Problem) (kt : ℕ) (some : 1 ≤ kt) (l : List (List Charge)) (t : Table) (is_table : IsTable p t) (k : ℕ) where
  abbrev q : ℕ
  q = t.scale * kt

  q_some : 1 ≤ q
  q_some = let one : 1 * 1 ≤ t.scale * kt = mul-le-mul is_table.positive some in omega (arith, one)

  abbrev factor : List Charge → List Charge → Option Fraction
  factor c e = upper_factor k q (energy p t c -ℤ energy p t e)

  abbrev upper : List Charge → List (List Charge) → Option Fraction
  upper c es = upper_total k q (differences p t es c)

  abbrev low : List Charge → Fraction
  low c = inverse_finite (upper c l)

  -- in steps of 1 / o
  abbrev step_of : ℕ → List Charge → List Charge → ℕ
  step_of o c e = number_of o (factor c e)

  gaps_cancel : (x y : ℤ) → ((x -ℤ y) +ℤ (y -ℤ x)) ≡ pos 0
  gaps_cancel x y = omega (arith, ints)

  product : (o : ℕ) → 1 ≤ o → (c e : List Charge) → o * o ≤ step_of o c e * step_of o e c
  product o one c e =
      numbers_reach o (factor c e) (factor e c) one (opposite greater k q q_some (energy p t c -ℤ energy p t e) (energy p t e -ℤ energy p t c) (gaps_cancel (energy p t c) (energy p t e)))

  own : (o : ℕ) → 1 ≤ o → (c : List Charge) → o ≤ step_of o c c
  own o one c = root_below o (step_of o c c) (product o one c c)

  -- the numbers of a finite sum, in steps of one divided by a multiple of its bottom
  row_is : (x : List Charge → ℕ) (c : List Charge) (es : List (List Charge)) (m o : ℕ) (u : Fraction) → upper c es ≡ Some u → o ≡ m * u.bottom
      → row (step_of o) x c es ≡ m * u.top * (x c * x c)
  unfolding upper_total
  row_is x c [] m o u is steps = let none : 0 ≡ u.top = ap top_of is in rw (sym none) (omega arith)
    where
      top_of : Option Fraction → ℕ
      top_of None = 0
      top_of (Some f) = f.top
  row_is x c (e ∷ es) m o u is steps = by (factor c e) refl (upper c es) refl (factor_bottom greater k q q_some (energy p t c -ℤ energy p t e)) (row_is x c es)
    where
      whole : (m fb ft vb vt s first rest o : ℕ) → first ≡ m * (ft * vb) → rest ≡ m * fb * vt * s → first * s + rest ≡ m * (ft * vb + vt * fb) * s
      whole m fb ft vb vt s first rest o one two = rw (one, two) (omega arith)

      by : (f : Option Fraction) → factor c e ≡ f → (v : Option Fraction) → upper c es ≡ v → HasBottom (factor c e)
          → ((n r : ℕ) (w : Fraction) → upper c es ≡ Some w → r ≡ n * w.bottom → row (step_of r) x c es ≡ n * w.top * (x c * x c))
          → row (step_of o) x c (e ∷ es) ≡ m * u.top * (x c * x c)
      by None first v others bottom more = absurd (cc)
      by (Some f) first None others bottom more = absurd (cc)
      by (Some f) first (Some v) others bottom more =
          let sum : plus f v ≡ u = cc in
          let some_bottom : 1 ≤ f.bottom = subst HasBottom first bottom in
          let at : o ≡ m * (f.bottom * v.bottom) = steps ∙ ap (λ (g : Fraction). m * g.bottom) (sym sum) in
          let one : step_of o c e ≡ m * (f.top * v.bottom) = ap (number_of o) first ∙ ap (λ (r : ℕ). number_of r (Some f)) at ∙ first_part m f v.bottom some_bottom in
          let rest = more (m * f.bottom) o v others (at ∙ omega arith) in
          whole m f.bottom f.top v.bottom v.top (x c * x c) (step_of o c e) (row (step_of o) x c es) o one rest ∙ ap (λ (g : Fraction). m * g.top * (x c * x c)) sum

  -- the product of the bottoms of the sums of these entries
  bottoms : List (List Charge) → ℕ
  bottoms [] = 1
  bottoms (c ∷ cs) = bottom_of (upper c l) * bottoms cs

  bottoms_some : (cs : List (List Charge)) → 1 ≤ bottoms cs
  unfolding bottoms bottom_of
  bottoms_some [] = omega arith
  bottoms_some (c ∷ cs) = mul-le-mul (by (upper c l) (total_bottom greater k q q_some (differences p t l c))) (bottoms_some cs) where
    by : (u : Option Fraction) → HasBottom u → 1 ≤ bottom_of u
    by None h = omega arith
    by (Some f) h = h

  -- the lower ends, in steps of 1 / w
  abbrev low_of : ℕ → List Charge → ℕ
  low_of w c = down_of w (low c)

  bounded : (w : ℕ) (c : List Charge) (m o : ℕ) → o ≡ m * bottom_of (upper c l) → row (step_of o) (low_of w) c l ≤ w * o * low_of w c
  unfolding bottom_of
  bounded w c m o steps = by (upper c l) refl
    where
      no_row : (es : List (List Charge)) → low_of w c ≡ 0 → row (step_of o) (low_of w) c es ≡ 0
      no_row [] none = refl
      no_row (e ∷ es) none = let rest = no_row es none in omega (arith, rest, ap (λ (n : ℕ). step_of o c e * (n * n)) none)

      last : (m b s x w o : ℕ) → o ≡ m * b → x * s ≤ w * b → m * s * (x * x) ≤ w * o * x
      last m b s x w o steps less = rw steps (omega (arith, mul-le-mul_left (m * x) less))

      by : (u : Option Fraction) → upper c l ≡ u → row (step_of o) (low_of w) c l ≤ w * o * low_of w c
      by None is =
          let none : low_of w c ≡ 0 = ap (λ v. down_of w (inverse_finite v)) is ∙ down_nothing w in
          let zero_row = no_row l none in
          omega (arith, zero_row)
      by (Some u) is =
          let at : o ≡ m * u.bottom = steps ∙ ap (λ v. m * bottom_of v) is in
          let below : low_of w c * u.top ≤ w * u.bottom = subst (λ v. low_of w c * (inverse_finite v).bottom ≤ w * (inverse_finite v).top) is (down_below w (low c)) in
          let equal = row_is (low_of w) c l m o u is at in
          let least = last m u.bottom u.top (low_of w c) w o at below in
          omega (arith, equal, least)

  all_rows : (w : ℕ) (cs : List (List Charge)) (m o : ℕ) → o ≡ m * bottoms cs → total (step_of o) (low_of w) cs l ≤ w * o * numbers (step_of o) (low_of w) cs
  unfolding bottoms
  all_rows w [] m o steps = omega arith
  all_rows w (c ∷ cs) m o steps =
      let first = bounded w c (m * bottoms cs) o (steps ∙ omega arith) in
      let rest = all_rows w cs (m * bottom_of (upper c l)) o (steps ∙ omega arith) in
      omega (arith, first, rest)

  -- the sum of the lower ends
  abbrev sum_at : List (List Charge) → Fraction
  sum_at cs = sum_of (lows_at p kt l t k cs)

  low_bottom : (c : List Charge) → Contains l c → 1 ≤ (low c).bottom
  low_bottom c inside = (ends_are_fractions p kt l c t k some inside is_table).0

  sum_bottom : (cs : List (List Charge)) → All (Contains l) cs → 1 ≤ (sum_at cs).bottom
  unfolding sum_of
  sum_bottom [] inside = omega arith
  sum_bottom (c ∷ cs) inside = mul-le-mul (low_bottom c (All-head (Contains l) c cs inside)) (sum_bottom cs (All-tail (Contains l) c cs inside))

  -- the numbers of all lower ends add up to it exactly
  sum_is : (h : List Charge → List Charge → ℕ) (cs : List (List Charge)) (m w : ℕ) → All (Contains l) cs → w ≡ m * (sum_at cs).bottom → numbers h (low_of w) cs ≡ m * (sum_at cs).top
  unfolding sum_of
  sum_is h [] m w inside steps = omega arith
  sum_is h (c ∷ cs) m w inside steps =
      let rest = sum_is h cs (m * (low c).bottom) w (All-tail (Contains l) c cs inside) (steps ∙ omega arith) in
      let one : low_of w c ≡ m * ((low c).top * (sum_at cs).bottom) = ap (λ (r : ℕ). down_of r (low c)) steps ∙ down_part m (low c) (sum_at cs).bottom (low_bottom c (All-head (Contains l) c cs inside)) in
      whole m (low c).bottom (low c).top (sum_at cs).bottom (sum_at cs).top (low_of w c) (numbers h (low_of w) cs) one rest
    where
      whole : (m fb ft vb vt first rest : ℕ) → first ≡ m * (ft * vb) → rest ≡ m * fb * vt → first + rest ≡ m * (ft * vb + vt * fb)
      whole m fb ft vb vt first rest one two = rw (one, two) (omega arith)

  fits : IsAtMostOne (sum_at l)
  fits =
      let inside = All-contains_itself l in
      let o = bottoms l in
      let w = (sum_at l).bottom in
      let some_steps = bottoms_some l in
      let least = square (step_of o) (low_of w) o (product o some_steps) (own o some_steps) l in
      let most = all_rows w l 1 o (omega arith) in
      let n = numbers (step_of o) (low_of w) l in
      let fit : n ≤ w = at_most_whole o w n some_steps (omega (arith, least, most)) in
      let equal = sum_is (step_of o) l 1 w inside (omega arith) in
      record { is_fraction = sum_bottom l inside; at_most = omega (arith, fit, equal) }

pub lows_at_most_one : ClosedIsGreater → (p : Problem) (kt : ℕ) (l : List (List Charge)) (t : Table) (k : ℕ) → 1 ≤ kt → IsTable p t → IsAtMostOne (sum_of (lows_at p kt l t k l))
lows_at_most_one greater p kt l t k some is_table = fits greater p kt some l t is_table k
