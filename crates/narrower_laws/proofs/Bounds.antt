-- with narrower spans the bound of an open prefix only rises
use Rattle.std.proofs.Common.{◌≡◌, ℕ, ◌<◌, ◌≤◌, List, [], ◌∷◌, length, map, ℤ, pos, neg_ℤ, ◌≤ℤ◌, refl, arith, ◌⊎◌, inl, inr, Bool, true, false, cond, ltb, ◌||◌}
use Rattle.std.specs.Prelude.{filter}
use Rattle.std.proofs.lemmas.Int.{ints}
use Rattle.std.proofs.lemmas.Bool.{cases_lt, lt-ltb, le-ltb}
use Rattle.charge_model.specs.declared.charge.Charge.{Charge}
use Rattle.charge_model.specs.declared.charge.Charge.TheVariants.{Neg, Neutral, Pos}
use Rattle.charge_model.specs.declared.span.Span.{Span}
use Rattle.charge_model.specs.Problem.{Problem, class_of, near_class_of, fixed_count}
use Rattle.charge_model.specs.Rules.{sum_below}
use Rattle.charge_model.specs.Prefixes.{lesser, may_be_positive, can_be, IsOpen, charged_low, least_of, all_charges, site_low, pair_low, low}
use Rattle.charge_model.proofs.Products.{lesser-le}
use Rattle.charge_model.proofs.Sums.{sum_below-le}
use Rattle.narrower_laws.proofs.Extremes.{AreWithin, le-lesser, product_low, not_below_zero, may_too, can_too, charged_falls}

-- the charges that pass, by whether each does
abbrev passing : Bool → Bool → Bool → List Charge
passing a b c = cond a (Neg ∷ cond b (Neutral ∷ cond c (Pos ∷ []) []) (cond c (Pos ∷ []) [])) (cond b (Neutral ∷ cond c (Pos ∷ []) []) (cond c (Pos ∷ []) []))

-- the least over some charges is at most what each of them gives
least-le : (f : Charge → ℤ) (a b c : Bool) → (a ≡ true → least_of (map f (passing a b c)) ≤ℤ f Neg) × (b ≡ true → least_of (map f (passing a b c)) ≤ℤ f Neutral) × (c ≡ true → least_of (map f (passing a b c)) ≤ℤ f Pos)
least-le f true true true =
    let outer = lesser-le (f Neg) (lesser (f Neutral) (f Pos)) in
    let inner = lesser-le (f Neutral) (f Pos) in
    (λ e. outer.0, λ e. omega (arith, ints, outer.1, inner.0), λ e. omega (arith, ints, outer.1, inner.1))
least-le f true true false = let both = lesser-le (f Neg) (f Neutral) in (λ e. both.0, λ e. both.1, λ e. absurd (cc))
least-le f true false true = let both = lesser-le (f Neg) (f Pos) in (λ e. both.0, λ e. absurd (cc), λ e. both.1)
least-le f true false false = (λ e. omega (arith, ints), λ e. absurd (cc), λ e. absurd (cc))
least-le f false true true = let both = lesser-le (f Neutral) (f Pos) in (λ e. absurd (cc), λ e. both.0, λ e. both.1)
least-le f false true false = (λ e. absurd (cc), λ e. omega (arith, ints), λ e. absurd (cc))
least-le f false false true = (λ e. absurd (cc), λ e. absurd (cc), λ e. omega (arith, ints))
least-le f false false false = (λ e. absurd (cc), λ e. absurd (cc), λ e. absurd (cc))

-- what is at most what each of some charges gives is at most the least over them
le-least : (f : Charge → ℤ) (z : ℤ) (a b c : Bool) → (a ≡ true → z ≤ℤ f Neg) → (b ≡ true → z ≤ℤ f Neutral) → (c ≡ true → z ≤ℤ f Pos) → (a || b || c) ≡ true → z ≤ℤ least_of (map f (passing a b c))
le-least f z true true true first second third some = le-lesser z (f Neg) (lesser (f Neutral) (f Pos)) (first refl) (le-lesser z (f Neutral) (f Pos) (second refl) (third refl))
le-least f z true true false first second third some = le-lesser z (f Neg) (f Neutral) (first refl) (second refl)
le-least f z true false true first second third some = le-lesser z (f Neg) (f Pos) (first refl) (third refl)
le-least f z true false false first second third some = first refl
le-least f z false true true first second third some = le-lesser z (f Neutral) (f Pos) (second refl) (third refl)
le-least f z false true false first second third some = second refl
le-least f z false false true first second third some = third refl
le-least f z false false false first second third some = absurd (cc)

any_passes : (g : Charge → Bool) (d : Charge) → g d ≡ true → (g Neg || g Neutral || g Pos) ≡ true
any_passes g Neg e = rw e refl
any_passes g Neutral e = by (g Neg) (g Neutral) (g Pos) e
  where
    by : (a b c : Bool) → b ≡ true → (a || b || c) ≡ true
    by true b c e = refl
    by false b c e = rw e refl
any_passes g Pos e = by (g Neg) (g Neutral) (g Pos) e
  where
    by : (a b c : Bool) → c ≡ true → (a || b || c) ≡ true
    by true b c e = refl
    by false true c e = refl
    by false false c e = e

-- the least over more charges, each of which gives no more, is no more
least_falls : (f h : Charge → ℤ) (g k : Charge → Bool) → ((c : Charge) → f c ≤ℤ h c) → ((c : Charge) → k c ≡ true → g c ≡ true) → (d : Charge) → k d ≡ true
    → least_of (map f (filter g all_charges)) ≤ℤ least_of (map h (filter k all_charges))
least_falls f h g k less more d e =
    let each = least-le f (g Neg) (g Neutral) (g Pos) in
    le-least h (least_of (map f (filter g all_charges))) (k Neg) (k Neutral) (k Pos)
    (λ i. let below = each.0 (more Neg i) in let here = less Neg in omega (arith, ints, below, here))
    (λ i. let below = each.1 (more Neutral i) in let here = less Neutral in omega (arith, ints, below, here))
    (λ i. let below = each.2 (more Pos i) in let here = less Pos in omega (arith, ints, below, here))
    (any_passes k d e)

-- what a pair adds is compared case by case
pair_chosen : (a b : Bool) (x y u v : ℤ) → x ≤ℤ u → y ≤ℤ v → cond a x (cond b (pos 0) y) ≤ℤ cond a u (cond b (pos 0) v)
pair_chosen true b x y u v first second = first
pair_chosen false true x y u v first second = omega (arith, ints)
pair_chosen false false x y u v first second = second

pair_may : (a b : Bool) (x y : ℤ) → (a ≡ true → b ≡ true) → pos 0 ≤ℤ x → x ≤ℤ y → cond b (neg_ℤ y) (pos 0) ≤ℤ cond a (neg_ℤ x) (pos 0)
pair_may true true x y more low high = omega (arith, ints, high)
pair_may true false x y more low high = let wrong = more refl in absurd (cc)
pair_may false true x y more low high = omega (arith, ints, low, high)
pair_may false false x y more low high = omega (arith, ints)

or_too : (a b c d : Bool) → (a ≡ true → c ≡ true) → (b ≡ true → d ≡ true) → (a || b) ≡ true → (c || d) ≡ true
or_too true b c d first second e = rw (first refl) refl
or_too false b true d first second e = refl
or_too false b false d first second e = second e

module _ (p : Problem) (s : List Span) (within : AreWithin s p.spans) where
  pair_falls : (q : List Charge) (i j : ℕ) → pair_low (record p { spans = s }) q i j ≤ℤ pair_low p q i j
  unfolding pair_low class_of
  pair_falls q i j = pair_chosen (ltb j (length q)) (ltb i (length q)) _ _ _ _
      (product_low p s within (class_of p i j) _)
      (pair_may (may_be_positive p i || may_be_positive p j) (may_be_positive (record p { spans = s }) i || may_be_positive (record p { spans = s }) j) _ _
      (or_too (may_be_positive p i) (may_be_positive p j) _ _ (may_too p s within i) (may_too p s within j))
      (not_below_zero p s within (class_of p i j)) (within.hi (class_of p i j)))

  site_falls : (q : List Charge) (k : ℕ) → IsOpen p q → k < p.sites → (k < length q) ⊎ (length q ≤ k) → site_low (record p { spans = s }) q k ≤ℤ site_low p q k
  unfolding site_low near_class_of
  site_falls q k opens l (inl a) = rw (lt-ltb k (length q) a) (sum_below-le (fixed_count p) _ _ (λ f m. product_low p s within (near_class_of p k f) _))
  site_falls q k opens l (inr g) =
      let some = opens.unassigned k g l in
      rw (le-ltb k (length q) g)
      (least_falls (charged_low (record p { spans = s }) q k) (charged_low p q k) (can_be (record p { spans = s }) q k) (can_be p q k) (charged_falls p s within q k) (can_too p s within q k) some.0 some.1)

  pub low_falls : (q : List Charge) → IsOpen p q → low (record p { spans = s }) q ≤ℤ low p q
  unfolding low
  low_falls q opens =
      let pairs = sum_below-le p.sites (λ j. sum_below j (λ i. pair_low (record p { spans = s }) q i j)) (λ j. sum_below j (λ i. pair_low p q i j))
      (λ j l. sum_below-le j _ _ (λ i m. pair_falls q i j)) in
      let sites = sum_below-le p.sites (site_low (record p { spans = s }) q) (site_low p q) (λ k l. site_falls q k opens l (cases_lt k (length q))) in
      omega (arith, ints, pairs, sites)
