-- the upper ends of the shares of a list add up to at least the whole
use Rattle.std.proofs.Common.{◌≡◌, ◌∙◌, ℕ, suc, ◌+◌, ◌-◌, ◌*◌, ◌^◌, ◌<◌, ◌≤◌, ℤ, pos, negsuc, unsigned_abs, ◌+ℤ◌, ◌-ℤ◌, ◌*ℤ◌, ◌≤ℤ◌, ◌⊎◌, inl, inr, List, [], ◌∷◌, refl, sym, ap, subst, arith}
use Rattle.std.specs.Prelude.{All, Contains}
use Rattle.std.specs.List.{AllZip}
use Rattle.std.proofs.lemmas.Bool.{cases_lt}
use Rattle.std.proofs.lemmas.Int.{ints}
use Rattle.std.proofs.lemmas.Grind.{div_ceil_times}
use Rattle.std.proofs.lemmas.List.Elements.{All-head, All-tail, All-contains_itself}
use Rattle.std.proofs.Math.Nat.{one-le-pow, mul-le-mul, mul-le-mul_left, mul-le-mul_right}
use Rattle.std.specs.Int.{div_ceil}
use Rattle.charge_model.specs.declared.charge.Charge.{Charge}
use Rattle.charge_model.specs.declared.TheConstants.{MAX_WEIGHT, MAX_POTENTIAL}
use Rattle.charge_model.specs.Problem.{Problem, Table, IsProblem, IsTable, UnderEveryTable, UnderSomeTable}
use Rattle.charge_model.specs.Rules.{energy}
use Rattle.root_exp.specs.Series.{closed_divisor, closed_sum, divisor_of, series_sum}
use Rattle.occupation.specs.declared.TheConstants.{ONE, WHOLE}
use Rattle.occupation.specs.declared.share.Share.{Share}
use Rattle.occupation.specs.Fractions.{inverse, nothing}
use Rattle.occupation.specs.Intervals.{closed_at, lower_factor}
use Rattle.occupation.specs.Rounding.{share_hi, rounded_lower, lower_sum}
use Rattle.occupation.specs.Shares.{AreRoundedShares, IsRoundedShare, sum_of_highs}
use Rattle.occupation.proofs.FactorLemmas.{AreLaws, cancel}
use Rattle.occupation.proofs.PairLemmas.{IsUnder, chosen, lower_under}
use Rattle.occupation.proofs.OrderLemmas.{ClosedIsGreater, closed_positive}
use Rattle.occupation.proofs.ShareLemmas.{hi_within, own_lower}
use Rattle.occupation.proofs.LawLemmas.{same_lower}
use Rattle.occupation.proofs.ListsOfShares.{HaveExtremes, gap_between, gaps_to}
use Rattle.occupation.proofs.PowerLemmas.{above, below, powers_below, powers_near}

-- the bound of a lower factor by weights
through : (g o w P v vc b bc : ℕ) → 1 ≤ P → g * v ≤ o * vc → vc * bc ≤ P → w * P ≤ suc w * (v * b) → w * (g * bc) ≤ suc w * (o * b)
through g o w P v vc b bc some factor most near =
    let first : g * v * bc ≤ o * P = omega (arith, mul-le-mul_right bc factor, mul-le-mul_left o most) in
    cancel P (w * (g * bc)) (suc w * (o * b)) some (omega (arith, mul-le-mul_left (suc w * b) first, mul-le-mul_left (g * bc) near))

slack : (g o w b bc : ℕ) → g * bc ≤ o * b → w * (g * bc) ≤ suc w * (o * b)
slack g o w b bc h = omega (arith, mul-le-mul_left w h)

module _ (laws : AreLaws) (greater : ClosedIsGreater) (kt : ℕ) (kt_some : 1 ≤ kt) (s bound : ℕ) (s_some : 1 ≤ s) where
  abbrev q : ℕ
  q = s * kt

  abbrev w : ℕ
  w = WHOLE

  k : ℕ
  k = suc w * (bound * bound) + bound + 96

  abbrev n : ℕ
  n = suc k

  abbrev N : ℕ
  N = n * q

  q_some : 1 ≤ q
  q_some = let one : 1 * 1 ≤ s * kt = mul-le-mul s_some kt_some in omega (arith, one)

  n_at_most : n ≤ N
  n_at_most = omega (arith, mul-le-mul_left n q_some)

  within : (a : ℕ) → a ≤ bound → suc a ≤ N
  unfolding k
  within a small = omega (arith, n_at_most, small)

  far_enough : (a : ℕ) → a ≤ bound → suc w * (n * (a * a)) ≤ N * N
  unfolding k
  far_enough a small =
      let square : a * a ≤ bound * bound = mul-le-mul small small in
      let less : suc w * (a * a) ≤ n = omega (arith, square) in
      let wide : n * n ≤ N * N = mul-le-mul n_at_most n_at_most in
      omega (arith, mul-le-mul_left n less, wide)

  from : 96 ≤ n
  unfolding k
  from = omega arith

  -- what a factor of order n says of g
  under_pos : (g p : ℕ) → IsUnder g (lower_factor n q (pos p)) → g * divisor_of q n ≤ ONE * series_sum p q n
  unfolding lower_factor
  under_pos g p h = h

  under_neg : (g m : ℕ) → suc m ≤ bound → IsUnder g (lower_factor n q (negsuc m)) → g * series_sum (suc m) q n ≤ ONE * divisor_of q n
  unfolding lower_factor
  under_neg g m small h =
      let near : suc m < suc (suc n) * q = omega (arith, within (suc m) small, q_some) in
      let closed = rw (chosen (suc m) (suc (suc n) * q) (inverse (closed_at n q (suc m))) nothing near) at h in
      last g (series_sum (suc m) q n) (divisor_of q n) (closed_sum (suc m) q n) (closed_divisor (suc m) q n) ONE (closed_positive (suc m) q n q_some near) closed (greater (suc m) q n near)
    where
      last : (g S D C E o : ℕ) → 1 ≤ E → g * C ≤ o * E → S * E ≤ C * D → g * S ≤ o * D
      last g S D C E o some factor order = cancel E (g * S) (o * D) some (omega (arith, mul-le-mul_left g order, mul-le-mul_right D factor))

  weighed : (lo : ℤ) (a e : ℕ) → a ≤ bound → e ≤ bound → (pos s *ℤ lo) ≤ℤ (pos a -ℤ pos e)
      → w * (rounded_lower kt lo * (N - a) ^ n) ≤ suc w * (ONE * (N - e) ^ n)
  weighed lo a e a_small e_small least = by (cases_lt a e)
    where
      by : (a < e) ⊎ (e ≤ a) → w * (rounded_lower kt lo * (N - a) ^ n) ≤ suc w * (ONE * (N - e) ^ n)
      by (inr more) =
          let difference : (pos s *ℤ lo) ≤ℤ pos (a - e) = omega (arith, ints, least, more) in
          let factor = under_pos (rounded_lower kt lo) (a - e) (lower_under laws kt s n kt_some s_some from lo (pos (a - e)) difference) in
          slack (rounded_lower kt lo) ONE w ((N - e) ^ n) ((N - a) ^ n) (above (rounded_lower kt lo) q n (omega arith) q_some a e more (omega (arith, within a a_small)) factor)
      by (inl less) =
          let m = e - suc a in
          let same : suc m ≡ e - a = omega (arith, less) in
          let difference : (pos s *ℤ lo) ≤ℤ negsuc m = omega (arith, ints, least, less) in
          let near : suc m ≤ bound = omega (arith, same, e_small) in
          let factor = under_neg (rounded_lower kt lo) m near (lower_under laws kt s n kt_some s_some from lo (negsuc m) difference) in
          let turned = subst (λ (z : ℕ). rounded_lower kt lo * series_sum z q n ≤ ONE * divisor_of q n) same factor in
          let bounded = below (rounded_lower kt lo) q n (omega arith) q_some a e (omega (arith, less)) turned in
          let one : 1 ≤ N = omega (arith, n_at_most) in
          let square : 1 * 1 ≤ N * N = mul-le-mul one one in
          through (rounded_lower kt lo) ONE w ((N * N) ^ n) ((N + e) ^ n) ((N + a) ^ n) ((N - e) ^ n) ((N - a) ^ n) (one-le-pow n (N * N) square) bounded
          (powers_below N a n (omega (arith, within a a_small))) (powers_near N e k w (omega (arith, within e e_small)) (far_enough e e_small))

-- a number that is not below the whole
entry_share : (W o hi G b R : ℕ) → 1 ≤ o → W * o ≤ hi * G → W * (G * b) ≤ suc W * (o * R) → W * (W * b) ≤ hi * (suc W * R)
entry_share W o hi G b R some high row = cancel o (W * (W * b)) (hi * (suc W * R)) some (omega (arith, mul-le-mul_right (W * b) high, mul-le-mul_left hi row))

at_least_whole : (W H R : ℕ) → 1 ≤ R → W * (W * R) ≤ H * (suc W * R) → W ≤ H
at_least_whole W H R some h = by (cases_lt H W)
  where
    square : W * W ≤ H * suc W
    square = cancel R (W * W) (H * suc W) some (omega (arith, h))

    never : (d : ℕ) → W ≡ suc H + d → W * W ≤ H * suc W → ⊥
    never d is low = let wrong = rw is at low in omega (arith, wrong)

    by : (H < W) ⊎ (W ≤ H) → W ≤ H
    by (inl less) = absurd (never (W - suc H) (omega (arith, less)) square)
    by (inr is) = is

shift_is : (x : ℤ) (B : ℕ) → unsigned_abs x ≤ B → pos (unsigned_abs (x +ℤ pos B)) ≡ x +ℤ pos B
shift_is x B small = omega (arith, ints, small)

shift_small : (x : ℤ) (B : ℕ) → unsigned_abs x ≤ B → unsigned_abs (x +ℤ pos B) ≤ B + B
shift_small x B small = omega (arith, ints, small)

shifted : (x y z : ℤ) (a e B : ℕ) → pos a ≡ x +ℤ pos B → pos e ≡ y +ℤ pos B → z ≤ℤ (x -ℤ y) → z ≤ℤ (pos a -ℤ pos e)
shifted x y z a e B one two h = omega (arith, ints, one, two, h)

module _ (laws : AreLaws) (greater : ClosedIsGreater) (have : HaveExtremes) (p : Problem) (valid : IsProblem p) (kt : ℕ) (kt_some : 1 ≤ kt) (l : List (List Charge))
    (t : Table) (is_table : IsTable p t) (B : ℕ) (small : (c : List Charge) → unsigned_abs (energy p t c) ≤ B) where
  abbrev shift : List Charge → ℕ
  shift c = unsigned_abs (energy p t c +ℤ pos B)

  abbrev top : ℕ
  top = N laws greater kt kt_some t.scale (B + B) is_table.positive

  abbrev power : ℕ
  power = n laws greater kt kt_some t.scale (B + B) is_table.positive

  weight : List Charge → ℕ
  weight c = (top - shift c) ^ power

  weight_some : (c : List Charge) → 1 ≤ weight c
  unfolding weight
  weight_some c =
      let room = within laws greater kt kt_some t.scale (B + B) is_table.positive (shift c) (shift_small (energy p t c) B (small c)) in
      one-le-pow power (top - shift c) (omega (arith, room))

  weights : List (List Charge) → ℕ
  weights [] = 0
  weights (e ∷ es) = weight e + weights es

  pair : (c e : List Charge) → WHOLE * (rounded_lower kt (gap_between have p valid c e).0.lo * weight c) ≤ suc WHOLE * (ONE * weight e)
  unfolding weight
  pair c e =
      let least = (gap_between have p valid c e).1.least.bounds t is_table in
      let lo = (gap_between have p valid c e).0.lo in
      let difference = shifted (energy p t c) (energy p t e) (pos t.scale *ℤ lo) (shift c) (shift e) B (shift_is (energy p t c) B (small c)) (shift_is (energy p t e) B (small e)) least in
      weighed laws greater kt kt_some t.scale (B + B) is_table.positive lo (shift c) (shift e) (shift_small (energy p t c) B (small c)) (shift_small (energy p t e) B (small e)) difference

  row_step : (W o g G b be R : ℕ) → W * (g * b) ≤ suc W * (o * be) → W * (G * b) ≤ suc W * (o * R) → W * ((g + G) * b) ≤ suc W * (o * (be + R))
  row_step W o g G b be R one rest = omega (arith, one, rest)

  row : (c : List Charge) (es : List (List Charge)) → WHOLE * (lower_sum kt (gaps_to have p valid c es).0 * weight c) ≤ suc WHOLE * (ONE * weights es)
  unfolding lower_sum gaps_to weights
  row c [] = omega arith
  row c (e ∷ es) =
      row_step WHOLE ONE (rounded_lower kt (gap_between have p valid c e).0.lo) (lower_sum kt (gaps_to have p valid c es).0) (weight c) (weight e) (weights es) (pair c e) (row c es)

  high_of : List Charge → ℕ
  high_of c = share_hi (lower_sum kt (gaps_to have p valid c l).0)

  highs : List (List Charge) → ℕ
  highs [] = 0
  highs (e ∷ es) = high_of e + highs es

  entry : (c : List Charge) → Contains l c → WHOLE * (WHOLE * weight c) ≤ high_of c * (suc WHOLE * weights l)
  unfolding high_of
  entry c inside =
      let G = lower_sum kt (gaps_to have p valid c l).0 in
      let one = own_lower p kt c l (gaps_to have p valid c l).0 inside.0 inside.1 inside.2 (gaps_to have p valid c l).1 in
      let reach : WHOLE * ONE ≤ div_ceil (WHOLE * ONE) G * G = (div_ceil_times (WHOLE * ONE) G (omega (arith, one))).0 in
      let high : WHOLE * ONE ≤ share_hi G * G = subst (λ (m : ℕ). WHOLE * ONE ≤ m * G) (sym (hi_within G one)) reach in
      entry_share WHOLE ONE (share_hi G) G (weight c) (weights l) (omega arith) high (row c l)

  sum_step : (W b bs h hs r : ℕ) → W * (W * b) ≤ h * r → W * (W * bs) ≤ hs * r → W * (W * (b + bs)) ≤ (h + hs) * r
  sum_step W b bs h hs r one rest = omega (arith, one, rest)

  all_entries : (es : List (List Charge)) → All (Contains l) es → WHOLE * (WHOLE * weights es) ≤ highs es * (suc WHOLE * weights l)
  unfolding weights highs
  all_entries [] inside = omega arith
  all_entries (e ∷ es) inside =
      sum_step WHOLE (weight e) (weights es) (high_of e) (highs es) (suc WHOLE * weights l) (entry e (All-head (Contains l) e es inside)) (all_entries es (All-tail (Contains l) e es inside))

  some_weight : (e : List Charge) (es : List (List Charge)) → 1 ≤ weights (e ∷ es)
  unfolding weights
  some_weight e es = let one = weight_some e in omega (arith, one)

  highs_are : (es : List (List Charge)) (ss : List Share) → AllZip (IsRoundedShare p kt l) es ss → sum_of_highs ss ≡ pos (highs es)
  unfolding highs high_of
  highs_are [] [] are = refl
  highs_are [] (s ∷ ss) are = absurd are
  highs_are (e ∷ es) [] are = absurd are
  highs_are (e ∷ es) (s ∷ ss) are =
      let is = are.0 in
      let same = same_lower p kt e e (λ t is. refl) l is.gaps (gaps_to have p valid e l).0 is.are_gaps (gaps_to have p valid e l).1 in
      let first : s.hi ≡ pos (high_of e) = ap (λ r. r.hi) is.rounded ∙ ap (λ (m : ℕ). pos (share_hi m)) same in
      let rest = highs_are es ss are.1 in
      omega (arith, ints, first, rest)

  highs_reach : 1 ≤ weights l → (ss : List Share) → AreRoundedShares p kt l ss → pos WHOLE ≤ℤ sum_of_highs ss
  highs_reach some ss are =
      let sum = highs_are l ss are in
      let reach = at_least_whole WHOLE (highs l) (weights l) some (all_entries l (All-contains_itself l)) in
      omega (arith, ints, sum, reach)

pub highs_reach_the_whole : AreLaws → ClosedIsGreater → HaveExtremes → ((p : Problem) → IsProblem p → UnderSomeTable p (λ t. t.scale ≡ 1))
    → ((p : Problem) (c : List Charge) → IsProblem p → UnderEveryTable p (λ t. unsigned_abs (energy p t c) ≤ t.scale * (MAX_WEIGHT * unsigned_abs MAX_POTENTIAL)))
    → (p : Problem) (kt : ℕ) (c : List Charge) (l : List (List Charge)) (ss : List Share) → IsProblem p → 1 ≤ kt → AreRoundedShares p kt (c ∷ l) ss → pos WHOLE ≤ℤ sum_of_highs ss
highs_reach_the_whole laws greater have tables bounds p kt c l ss valid some are =
    let table = tables p valid in
    let B = table.0.scale * (MAX_WEIGHT * unsigned_abs MAX_POTENTIAL) in
    let small = λ (e : List Charge). bounds p e valid table.0 table.1 in
    highs_reach laws greater have p valid kt some (c ∷ l) table.0 table.1 B small (some_weight laws greater have p valid kt some (c ∷ l) table.0 table.1 B small c l) ss are
