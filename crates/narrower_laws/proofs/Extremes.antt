-- with narrower spans the least of a potential only rises, and the greatest only falls, so fewer prefixes are open
use Rattle.std.proofs.Common.{◌≡◌, ℕ, List, [], length, ℤ, pos, negsuc, ◌*ℤ◌, ◌≤ℤ◌, refl, arith, Bool, true, false, cond, eqb, ltb, ◌&&◌}
use Rattle.std.specs.Prelude.{int_le}
use Rattle.std.proofs.lemmas.Int.{ints}
use Rattle.charge_model.specs.declared.charge.Charge.{Charge}
use Rattle.charge_model.specs.declared.charge.Charge.TheVariants.{Neg, Neutral, Pos}
use Rattle.charge_model.specs.declared.span.Span.{Span}
use Rattle.charge_model.specs.Charges.{number_at, charge_at}
use Rattle.charge_model.specs.Problem.{Problem, class_of, near_class_of, fixed_count, fixed_at, lo_in, hi_in}
use Rattle.charge_model.specs.Prefixes.{lesser, greater, least_product, greatest_product, least_fixed, greatest_fixed, least_from, greatest_from, least_potential, greatest_potential, may_be_positive, can_be, IsOpen, least_known, greatest_known, charged_low}
use Rattle.charge_model.proofs.Sums.{mul-le, mul_negative-le, sum_below-le}
use Rattle.charge_model.proofs.Products.{lesser-le}

-- at each class the one span lies within the other, and at least at 0
pub record AreWithin (outer inner : List Span) : Type 0 where
  pub lo : (c : ℕ) → lo_in outer c ≤ℤ lo_in inner c
  pub some : (c : ℕ) → lo_in inner c ≤ℤ hi_in inner c
  pub hi : (c : ℕ) → hi_in inner c ≤ℤ hi_in outer c
  pub least : (c : ℕ) → pos 0 ≤ℤ lo_in inner c

pub le-lesser : (z x y : ℤ) → z ≤ℤ x → z ≤ℤ y → z ≤ℤ lesser x y
le-lesser z x y first second = grind (arith, ints)

greater-le : (x y z : ℤ) → x ≤ℤ z → y ≤ℤ z → greater x y ≤ℤ z
greater-le x y z first second = grind (arith, ints)

le-greater : (x y : ℤ) → (x ≤ℤ greater x y) × (y ≤ℤ greater x y)
le-greater x y = (grind (arith, ints), grind (arith, ints))

-- the least of a product over the outer ends is at most that over the inner ends, and the greatest at least
product_falls : (n a b c d : ℤ) → a ≤ℤ b → b ≤ℤ c → c ≤ℤ d → lesser (n *ℤ a) (n *ℤ d) ≤ℤ lesser (n *ℤ b) (n *ℤ c)
product_falls (pos k) a b c d low some high =
    let first = mul-le a b k low in
    let next = mul-le b c k some in
    let below = (lesser-le (pos k *ℤ a) (pos k *ℤ d)).0 in
    le-lesser (lesser (pos k *ℤ a) (pos k *ℤ d)) (pos k *ℤ b) (pos k *ℤ c) (omega (arith, ints, first, below)) (omega (arith, ints, first, next, below))
product_falls (negsuc k) a b c d low some high =
    let first = mul_negative-le c d k high in
    let next = mul_negative-le b c k some in
    let below = (lesser-le (negsuc k *ℤ a) (negsuc k *ℤ d)).1 in
    le-lesser (lesser (negsuc k *ℤ a) (negsuc k *ℤ d)) (negsuc k *ℤ b) (negsuc k *ℤ c) (omega (arith, ints, first, next, below)) (omega (arith, ints, first, below))

product_rises : (n a b c d : ℤ) → a ≤ℤ b → b ≤ℤ c → c ≤ℤ d → greater (n *ℤ b) (n *ℤ c) ≤ℤ greater (n *ℤ a) (n *ℤ d)
product_rises (pos k) a b c d low some high =
    let last = mul-le c d k high in
    let next = mul-le b c k some in
    let above = (le-greater (pos k *ℤ a) (pos k *ℤ d)).1 in
    greater-le (pos k *ℤ b) (pos k *ℤ c) (greater (pos k *ℤ a) (pos k *ℤ d)) (omega (arith, ints, last, next, above)) (omega (arith, ints, last, above))
product_rises (negsuc k) a b c d low some high =
    let last = mul_negative-le a b k low in
    let next = mul_negative-le b c k some in
    let above = (le-greater (negsuc k *ℤ a) (negsuc k *ℤ d)).0 in
    greater-le (negsuc k *ℤ b) (negsuc k *ℤ c) (greater (negsuc k *ℤ a) (negsuc k *ℤ d)) (omega (arith, ints, last, above)) (omega (arith, ints, last, next, above))

-- what a site adds is compared case by case
chosen-le : (own assigned : Bool) (x y u v : ℤ) → x ≤ℤ u → y ≤ℤ v → cond own (pos 0) (cond assigned x y) ≤ℤ cond own (pos 0) (cond assigned u v)
chosen-le true assigned x y u v first second = omega (arith, ints)
chosen-le false true x y u v first second = first
chosen-le false false x y u v first second = second

-- a greatest that is at least 0 counts where it may
may-le : (a b : Bool) (x y : ℤ) → (a ≡ true → b ≡ true) → pos 0 ≤ℤ x → x ≤ℤ y → cond a x (pos 0) ≤ℤ cond b y (pos 0)
may-le true true x y more low high = high
may-le true false x y more low high = let wrong = more refl in absurd (cc)
may-le false true x y more low high = omega (arith, ints, low, high)
may-le false false x y more low high = omega (arith, ints)

-- a number that is less passes each test from above, and one that is more each test from below
passes_below : (a : Bool) (x y m : ℤ) → x ≤ℤ y → (a && int_le y m) ≡ true → (a && int_le x m) ≡ true
passes_below true x y m less e = grind (arith, ints)
passes_below false x y m less e = e

passes_above : (x y m : ℤ) → x ≤ℤ y → int_le m x ≡ true → int_le m y ≡ true
passes_above x y m less e = grind (arith, ints)

both_pass : (x y u v m n : ℤ) → x ≤ℤ y → u ≤ℤ v → (int_le m x && int_le v n) ≡ true → (int_le m y && int_le u n) ≡ true
both_pass x y u v m n above below e = grind (arith, ints)

module _ (p : Problem) (s : List Span) (within : AreWithin s p.spans) where
  pub product_low : (c : ℕ) (n : ℤ) → least_product (record p { spans = s }) c n ≤ℤ least_product p c n
  product_low c n = product_falls n (lo_in s c) (lo_in p.spans c) (hi_in p.spans c) (hi_in s c) (within.lo c) (within.some c) (within.hi c)

  product_high : (c : ℕ) (n : ℤ) → greatest_product p c n ≤ℤ greatest_product (record p { spans = s }) c n
  product_high c n = product_rises n (lo_in s c) (lo_in p.spans c) (hi_in p.spans c) (hi_in s c) (within.lo c) (within.some c) (within.hi c)

  pub not_below_zero : (c : ℕ) → pos 0 ≤ℤ hi_in p.spans c
  not_below_zero c = let low = within.least c in let some = within.some c in omega (arith, ints, low, some)

  fixed_low : (k : ℕ) → least_fixed (record p { spans = s }) k ≤ℤ least_fixed p k
  unfolding least_fixed near_class_of
  fixed_low k = sum_below-le (fixed_count p) _ _ (λ a l. product_low (near_class_of p k a) (fixed_at p a))

  fixed_high : (k : ℕ) → greatest_fixed p k ≤ℤ greatest_fixed (record p { spans = s }) k
  unfolding greatest_fixed near_class_of
  fixed_high k = sum_below-le (fixed_count p) _ _ (λ a l. product_high (near_class_of p k a) (fixed_at p a))

  from_low : (q : List Charge) (k j : ℕ) → least_from (record p { spans = s }) q k j ≤ℤ least_from p q k j
  unfolding class_of
  from_low q k j = chosen-le (eqb j k) (ltb j (length q)) _ _ _ _ (product_low (class_of p k j) (number_at q j))
      (let high = within.hi (class_of p k j) in omega (arith, ints, high))

  pub potential_low : (q : List Charge) (k : ℕ) → least_potential (record p { spans = s }) q k ≤ℤ least_potential p q k
  unfolding least_potential
  potential_low q k =
      let fixed = fixed_low k in
      let sites = sum_below-le p.sites (least_from (record p { spans = s }) q k) (least_from p q k) (λ j l. from_low q k j) in
      omega (arith, ints, fixed, sites)

  -- a site that may be positive may be so with wider spans
  pub may_too : (k : ℕ) → may_be_positive p k ≡ true → may_be_positive (record p { spans = s }) k ≡ true
  unfolding may_be_positive
  may_too k e = passes_below (eqb p.base 3) (least_potential (record p { spans = s }) [] k) (least_potential p [] k) p.mu_plus (potential_low [] k) e

  from_high : (q : List Charge) (k j : ℕ) → greatest_from p q k j ≤ℤ greatest_from (record p { spans = s }) q k j
  unfolding class_of
  from_high q k j = chosen-le (eqb j k) (ltb j (length q)) _ _ _ _ (product_high (class_of p k j) (number_at q j))
      (may-le (may_be_positive p j) (may_be_positive (record p { spans = s }) j) _ _ (may_too j) (not_below_zero (class_of p k j)) (within.hi (class_of p k j)))

  pub potential_high : (q : List Charge) (k : ℕ) → greatest_potential p q k ≤ℤ greatest_potential (record p { spans = s }) q k
  unfolding greatest_potential
  potential_high q k =
      let fixed = fixed_high k in
      let sites = sum_below-le p.sites (greatest_from p q k) (greatest_from (record p { spans = s }) q k) (λ j l. from_high q k j) in
      omega (arith, ints, fixed, sites)

  -- a charge that a site can have it can have with wider spans
  pub can_too : (q : List Charge) (k : ℕ) (c : Charge) → can_be p q k c ≡ true → can_be (record p { spans = s }) q k c ≡ true
  unfolding can_be
  can_too q k Neg e = passes_above (greatest_potential p q k) (greatest_potential (record p { spans = s }) q k) p.mu_minus (potential_high q k) e
  can_too q k Neutral e =
      both_pass (greatest_potential p q k) (greatest_potential (record p { spans = s }) q k) (least_potential (record p { spans = s }) q k) (least_potential p q k) p.mu_plus p.mu_minus
      (potential_high q k) (potential_low q k) e
  can_too q k Pos e = passes_below (eqb p.base 3) (least_potential (record p { spans = s }) q k) (least_potential p q k) p.mu_plus (potential_low q k) e

  pub open_too : (q : List Charge) → IsOpen p q → IsOpen (record p { spans = s }) q
  open_too q opens = record {
    assigned = λ k l. can_too q k (charge_at q k) (opens.assigned k l);
    unassigned = λ k g l. let some = opens.unassigned k g l in (some.0, can_too q k some.0 some.1);
  }

  known_low : (q : List Charge) (k : ℕ) → least_known (record p { spans = s }) q k ≤ℤ least_known p q k
  unfolding least_known class_of
  known_low q k =
      let fixed = fixed_low k in
      let sites = sum_below-le (length q) (λ j. least_product (record p { spans = s }) (class_of p k j) (number_at q j)) (λ j. least_product p (class_of p k j) (number_at q j)) (λ j l. product_low (class_of p k j) (number_at q j)) in
      omega (arith, ints, fixed, sites)

  known_high : (q : List Charge) (k : ℕ) → greatest_known p q k ≤ℤ greatest_known (record p { spans = s }) q k
  unfolding greatest_known class_of
  known_high q k =
      let fixed = fixed_high k in
      let sites = sum_below-le (length q) (λ j. greatest_product p (class_of p k j) (number_at q j)) (λ j. greatest_product (record p { spans = s }) (class_of p k j) (number_at q j)) (λ j l. product_high (class_of p k j) (number_at q j)) in
      omega (arith, ints, fixed, sites)

  pub charged_falls : (q : List Charge) (k : ℕ) (c : Charge) → charged_low (record p { spans = s }) q k c ≤ℤ charged_low p q k c
  charged_falls q k Neg = let high = known_high q k in omega (arith, ints, high)
  charged_falls q k Neutral = omega (arith, ints)
  charged_falls q k Pos = known_low q k
