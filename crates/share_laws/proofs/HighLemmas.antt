-- the upper ends of the intervals of a list add up to at least 1
use Rattle.std.proofs.Common.{◌≡◌, ℕ, suc, ◌+◌, ◌-◌, ◌*◌, ◌^◌, ◌<◌, ◌≤◌, ℤ, pos, negsuc, unsigned_abs, ◌+ℤ◌, ◌-ℤ◌, ◌⊎◌, inl, inr, List, [], ◌∷◌, subst, arith}
use Rattle.std.specs.Prelude.{All, Contains}
use Rattle.std.proofs.lemmas.Bool.{cases_lt}
use Rattle.std.proofs.lemmas.Int.{ints}
use Rattle.std.proofs.lemmas.List.Elements.{All-cons, All-head, All-nil, All-tail, All-contains_itself}
use Rattle.std.proofs.Math.Nat.{one-le-pow, mul-le-mul, mul-le-mul_left, mul-le-mul_right}
use Rattle.charge_model.specs.declared.charge.Charge.{Charge}
use Rattle.charge_model.specs.Problem.{Problem, Table, IsTable}
use Rattle.charge_model.specs.Rules.{energy}
use Rattle.root_exp.specs.Series.{divisor_of, series_sum, Fraction}
use Rattle.occupation.specs.Intervals.{differences, lower_factor, lower_total}
use Rattle.occupation.proofs.FactorLemmas.{cancel}
use Rattle.occupation.proofs.OrderLemmas.{ClosedIsGreater}
use Rattle.occupation.proofs.PowerLemmas.{powers_below, powers_near}
use Rattle.occupation.proofs.FractionLemmas.{ends_are_fractions}
use Rattle.share_laws.specs.Sums.{IsAtLeastOne, highs_at, sum_of}
use Rattle.share_laws.proofs.Orders.{ClosedSumsFall, SumsGrow, order, order_is, under_neg, under_pos}
use Rattle.share_laws.proofs.Powers.{above, below}

-- the bound of a lower factor by weights
through : (g o w P v vc b bc : ℕ) → 1 ≤ P → g * v ≤ o * vc → vc * bc ≤ P → w * P ≤ suc w * (v * b) → w * (g * bc) ≤ suc w * (o * b)
through g o w P v vc b bc some factor most near =
    let first : g * v * bc ≤ o * P = omega (arith, mul-le-mul_right bc factor, mul-le-mul_left o most) in
    cancel P (w * (g * bc)) (suc w * (o * b)) some (omega (arith, mul-le-mul_left (suc w * b) first, mul-le-mul_left (g * bc) near))

slack : (g o w b bc : ℕ) → g * bc ≤ o * b → w * (g * bc) ≤ suc w * (o * b)
slack g o w b bc h = omega (arith, mul-le-mul_left w h)

-- w times a number is at most w + 1 times another, for parts and so for their sum
row_step : (w ft fb vt vb b be r : ℕ) → w * (ft * b) ≤ suc w * (fb * be) → w * (vt * b) ≤ suc w * (vb * r) → w * ((ft * vb + vt * fb) * b) ≤ suc w * (fb * vb * (be + r))
row_step w ft fb vt vb b be r one rest = omega (arith, mul-le-mul_left vb one, mul-le-mul_left fb rest)

sum_step : (w ft fb vt vb b bs r : ℕ) → w * (b * fb) ≤ suc w * (r * ft) → w * (bs * vb) ≤ suc w * (r * vt) → w * ((b + bs) * (fb * vb)) ≤ suc w * (r * (ft * vb + vt * fb))
sum_step w ft fb vt vb b bs r one rest = omega (arith, mul-le-mul_left vb one, mul-le-mul_left fb rest)

turned : (w gt gb b r : ℕ) → w * (gt * b) ≤ suc w * (gb * r) → w * (b * gt) ≤ suc w * (r * gb)
turned w gt gb b r h = omega (arith, h)

-- a bottom above the top would show at this w
reaches : (t b r : ℕ) → 1 ≤ r → suc t * (r * b) ≤ suc (suc t) * (r * t) → b ≤ t
reaches t b r some h = by (cases_lt t b) where
  less : suc t * b ≤ suc (suc t) * t
  less = cancel r (suc t * b) (suc (suc t) * t) some (omega (arith, h))

  by : (t < b) ⊎ (b ≤ t) → b ≤ t
  by (inl more) = absurd (omega (arith, less, mul-le-mul_left (suc t) more))
  by (inr is) = is

shift_is : (x : ℤ) (B : ℕ) → unsigned_abs x ≤ B → pos (unsigned_abs (x +ℤ pos B)) ≡ x +ℤ pos B
shift_is x B small = omega (arith, ints, small)

shift_small : (x : ℤ) (B : ℕ) → unsigned_abs x ≤ B → unsigned_abs (x +ℤ pos B) ≤ B + B
shift_small x B small = omega (arith, ints, small)

shifted : (x y : ℤ) (a e B : ℕ) → pos a ≡ x +ℤ pos B → pos e ≡ y +ℤ pos B → (x -ℤ y) ≡ (pos a -ℤ pos e)
shifted x y a e B one two = omega (arith, ints, one, two)

module _ (greater : ClosedIsGreater) (grow : SumsGrow) (fall : ClosedSumsFall) (k q : ℕ) (q_some : 1 ≤ q) (w bound : ℕ) where
  -- an order so great that the powers are near each other
  above_k : ℕ
  above_k = suc w * (bound * bound) + bound

  abbrev K : ℕ
  K = order greater grow fall k q q_some above_k

  abbrev n : ℕ
  n = suc K

  abbrev N : ℕ
  N = n * q

  n_is : n ≡ suc (suc w * (bound * bound) + bound + k)
  unfolding above_k
  n_is = let is = order_is greater grow fall k q q_some above_k in omega (arith, is)

  n_at_most : n ≤ N
  n_at_most = omega (arith, mul-le-mul_left n q_some)

  within : (a : ℕ) → a ≤ bound → suc a ≤ N
  within a small = omega (arith, n_is, n_at_most, small)

  far_enough : (a : ℕ) → a ≤ bound → suc w * (n * (a * a)) ≤ N * N
  far_enough a small =
      let square : a * a ≤ bound * bound = mul-le-mul small small in
      let less : suc w * (a * a) ≤ n = omega (arith, mul-le-mul_left (suc w) square, n_is) in
      let wide : n * n ≤ N * N = mul-le-mul n_at_most n_at_most in
      omega (arith, mul-le-mul_left n less, wide)

  abbrev IsWeighed : ℕ → ℕ → ℤ → Type 0
  IsWeighed a e d = w * ((lower_factor k q d).top * (N - a) ^ n) ≤ suc w * ((lower_factor k q d).bottom * (N - e) ^ n)

  weighed : (d : ℤ) (a e : ℕ) → a ≤ bound → e ≤ bound → d ≡ (pos a -ℤ pos e) → IsWeighed a e d
  weighed d a e a_small e_small is = by (cases_lt a e)
    where
      by : (a < e) ⊎ (e ≤ a) → IsWeighed a e d
      by (inr more) =
          let same : pos (a - e) ≡ d = omega (arith, ints, is, more) in
          let f = lower_factor k q (pos (a - e)) in
          let factor = under_pos greater grow fall k q q_some (a - e) (suc above_k) in
          subst (IsWeighed a e) same
          (slack f.top f.bottom w ((N - e) ^ n) ((N - a) ^ n) (above f.top f.bottom q n (omega arith) q_some a e more (omega (arith, within a a_small)) factor))
      by (inl less) =
          let m = e - suc a in
          let gap : suc m ≡ e - a = omega (arith, less) in
          let same : negsuc m ≡ d = omega (arith, ints, is, less) in
          let f = lower_factor k q (negsuc m) in
          let factor = under_neg greater grow fall k q q_some m (suc above_k) in
          let at_gap = subst (λ (z : ℕ). f.top * series_sum z q n ≤ f.bottom * divisor_of q n) gap factor in
          let bounded = below f.top f.bottom q n (omega arith) q_some a e (omega (arith, less)) at_gap in
          let one : 1 ≤ N = omega (arith, within a a_small) in
          let square : 1 * 1 ≤ N * N = mul-le-mul one one in
          subst (IsWeighed a e) same
          (through f.top f.bottom w ((N * N) ^ n) ((N + e) ^ n) ((N + a) ^ n) ((N - e) ^ n) ((N - a) ^ n) (one-le-pow n (N * N) square) bounded
          (powers_below N a n (omega (arith, within a a_small))) (powers_near N e K w (omega (arith, within e e_small)) (far_enough e e_small)))

module _ (greater : ClosedIsGreater) (grow : SumsGrow) (fall : ClosedSumsFall) (p : Problem) (kt : ℕ) (kt_some : 1 ≤ kt) (l : List (List Charge))
    (t : Table) (is_table : IsTable p t) (k w B : ℕ) where
  abbrev q : ℕ
  q = t.scale * kt

  q_some : 1 ≤ t.scale * kt
  q_some = let one : 1 * 1 ≤ t.scale * kt = mul-le-mul is_table.positive kt_some in omega (arith, one)

  abbrev IsSmall : List Charge → Type 0
  IsSmall c = unsigned_abs (energy p t c) ≤ B

  abbrev shift : List Charge → ℕ
  shift c = unsigned_abs (energy p t c +ℤ pos B)

  abbrev power : ℕ
  power = n greater grow fall k q q_some w (B + B)

  weight : List Charge → ℕ
  weight c = (power * q - shift c) ^ power

  weight_some : (c : List Charge) → IsSmall c → 1 ≤ weight c
  unfolding weight
  weight_some c small =
      let room = within greater grow fall k q q_some w (B + B) (shift c) (shift_small (energy p t c) B small) in
      one-le-pow power (power * q - shift c) (omega (arith, room))

  weights : List (List Charge) → ℕ
  weights [] = 0
  weights (e ∷ es) = weight e + weights es

  abbrev factor : List Charge → List Charge → Fraction
  factor c e = lower_factor k q (energy p t c -ℤ energy p t e)

  pair : (c e : List Charge) → IsSmall c → IsSmall e → w * ((factor c e).top * weight c) ≤ suc w * ((factor c e).bottom * weight e)
  unfolding weight
  pair c e c_small e_small =
      let is = shifted (energy p t c) (energy p t e) (shift c) (shift e) B (shift_is (energy p t c) B c_small) (shift_is (energy p t e) B e_small) in
      weighed greater grow fall k q q_some w (B + B) (energy p t c -ℤ energy p t e) (shift c) (shift e) (shift_small (energy p t c) B c_small) (shift_small (energy p t e) B e_small) is

  abbrev lower : List Charge → List (List Charge) → Fraction
  lower c es = lower_total k q (differences p t es c)

  row : (c : List Charge) (es : List (List Charge)) → IsSmall c → All IsSmall es → w * ((lower c es).top * weight c) ≤ suc w * ((lower c es).bottom * weights es)
  unfolding lower_total weights
  row c [] small all = omega arith
  row c (e ∷ es) small all =
      row_step w (factor c e).top (factor c e).bottom (lower c es).top (lower c es).bottom (weight c) (weight e) (weights es)
      (pair c e small (All-head IsSmall e es all)) (row c es small (All-tail IsSmall e es all))

  abbrev sum_at : List (List Charge) → Fraction
  sum_at cs = sum_of (highs_at p kt l t k cs)

  all_rows : (cs : List (List Charge)) → All IsSmall cs → All IsSmall l → w * (weights cs * (sum_at cs).bottom) ≤ suc w * (weights l * (sum_at cs).top)
  unfolding sum_of weights
  all_rows [] all whole = omega arith
  all_rows (c ∷ cs) all whole =
      let first = turned w (lower c l).top (lower c l).bottom (weight c) (weights l) (row c l (All-head IsSmall c cs all) whole) in
      sum_step w (lower c l).bottom (lower c l).top (sum_at cs).top (sum_at cs).bottom (weight c) (weights cs) (weights l) first (all_rows cs (All-tail IsSmall c cs all) whole)

  some_weight : (e : List Charge) (es : List (List Charge)) → IsSmall e → 1 ≤ weights (e ∷ es)
  unfolding weights
  some_weight e es small = let one = weight_some e small in omega (arith, one)

-- the energies of these entries without their signs
sizes : Problem → Table → List (List Charge) → ℕ
sizes p t [] = 0
sizes p t (c ∷ cs) = unsigned_abs (energy p t c) + sizes p t cs

all_small : (p : Problem) (t : Table) (B : ℕ) (cs : List (List Charge)) → sizes p t cs ≤ B → All (λ c. unsigned_abs (energy p t c) ≤ B) cs
unfolding sizes
all_small p t B [] most = All-nil (λ c. unsigned_abs (energy p t c) ≤ B)
all_small p t B (c ∷ cs) most = All-cons (λ x. unsigned_abs (energy p t x) ≤ B) c cs (omega (arith, most)) (all_small p t B cs (omega (arith, most)))

high_bottom : (p : Problem) (kt : ℕ) (l : List (List Charge)) (t : Table) (k : ℕ) → 1 ≤ kt → IsTable p t → (cs : List (List Charge)) → All (Contains l) cs
    → 1 ≤ (sum_of (highs_at p kt l t k cs)).bottom
unfolding sum_of
high_bottom p kt l t k some is_table [] inside = omega arith
high_bottom p kt l t k some is_table (c ∷ cs) inside =
    mul-le-mul (ends_are_fractions p kt l c t k some (All-head (Contains l) c cs inside) is_table).1
    (high_bottom p kt l t k some is_table cs (All-tail (Contains l) c cs inside))

pub highs_at_least_one : ClosedIsGreater → SumsGrow → ClosedSumsFall → (p : Problem) (kt : ℕ) (c : List Charge) (l : List (List Charge)) (t : Table) (k : ℕ) → 1 ≤ kt → IsTable p t
    → IsAtLeastOne (sum_of (highs_at p kt (c ∷ l) t k (c ∷ l)))
highs_at_least_one greater grow fall p kt c l t k some is_table =
    let all = c ∷ l in
    let sum = sum_of (highs_at p kt all t k all) in
    let w = suc sum.top in
    let B = sizes p t all in
    let small = all_small p t B all (omega arith) in
    let rows = all_rows greater grow fall p kt some all t is_table k w B all small small in
    let reach = some_weight greater grow fall p kt some all t is_table k w B c l (All-head (λ x. unsigned_abs (energy p t x) ≤ B) c l small) in
    record {
      is_fraction = high_bottom p kt all t k some is_table all (All-contains_itself all);
      at_least = reaches sum.top sum.bottom (weights greater grow fall p kt some all t is_table k w B all) reach rows;
    }
