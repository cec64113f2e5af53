-- extremes and the lower bound, in their parts
use Rattle.std.proofs.Common.{◌≡◌, ℕ, zero, suc, ◌+◌, ◌-◌, ◌<◌, ◌≤◌, ◌*◌, ◌^◌, unsigned_abs, List, [], ◌∷◌, length, map, ℤ, pos, negsuc, neg_ℤ, ◌+ℤ◌, ◌*ℤ◌, refl, ap, ◌∙◌, arith, Bool, true, false, cond, min, max, None}
use Rattle.std.proofs.lemmas.Int.{ints}
use Rattle.std.proofs.lemmas.Bool.{lt-ltb, le-ltb, ne_eqb}
use Rattle.std.proofs.Math.IntN.{*ℤ_comm}
use borrow.Author.Differences.{up, down, neg_is}
use Rattle.charge_model.specs.declared.charge.Charge.{Charge}
use Rattle.charge_model.specs.declared.charge.Charge.TheVariants.{Neg, Neutral, Pos}
use Rattle.charge_model.specs.Charges.{charge_at, number_at, number_of}
use Rattle.charge_model.specs.Problem.{Problem, class_of, near_class_of, fixed_count, fixed_at, lo_in, hi_in}
use Rattle.charge_model.specs.Rules.{sum_below}
use Rattle.charge_model.specs.Prefixes.{lesser, greater, least_product, greatest_product, least_fixed, greatest_fixed, least_from, greatest_from, least_potential, greatest_potential, can_be, least_known, greatest_known, charged_low, least_of, site_low, pair_low, low}
use Rattle.prefix_extremes.specs.Parts.{least_term, greatest_term, least_open_term, greatest_open_term, least_assigned, greatest_assigned, least_unassigned, greatest_unassigned, cost_of, with_choice, or_zero, least_cost, assigned_low, unassigned_low, open_pair_low, pairs_low}

-- sums
pub sum_same : (n : ℕ) (f g : ℕ → ℤ) → ((k : ℕ) → k < n → f k ≡ g k) → sum_below n f ≡ sum_below n g
sum_same zero f g same = refl
sum_same (suc n) f g same =
    let rest = sum_same n f g (λ k h. same k (omega arith)) in
    let here = same n (omega arith) in cc

sum_zero : (n : ℕ) (f : ℕ → ℤ) → ((k : ℕ) → k < n → f k ≡ pos 0) → sum_below n f ≡ pos 0
sum_zero zero f none = refl
sum_zero (suc n) f none =
    let rest = sum_zero n f (λ k h. none k (omega arith)) in
    let here = none n (omega arith) in omega (arith, ints, rest, here)

sum_add : (n : ℕ) (f g : ℕ → ℤ) → sum_below n (λ k. f k +ℤ g k) ≡ sum_below n f +ℤ sum_below n g
sum_add zero f g = refl
sum_add (suc n) f g = omega (arith, ints, sum_add n f g)

-- a sum is that of its first m terms and that of the n others
sum_split : (m n : ℕ) (f : ℕ → ℤ) → sum_below (m + n) f ≡ sum_below m f +ℤ sum_below n (λ a. f (m + a))
sum_split m zero f = let whole : m + 0 ≡ m = omega arith in rw whole (omega (arith, ints))
sum_split m (suc n) f =
    let whole : m + suc n ≡ suc (m + n) = omega arith in
    rw whole (omega (arith, ints, sum_split m n f))

sum_parts : (m s : ℕ) (f : ℕ → ℤ) → m ≤ s → sum_below s f ≡ sum_below m f +ℤ sum_below (s - m) (λ a. f (m + a))
sum_parts m s f h =
    let whole : s ≡ m + (s - m) = omega (arith, h) in
    ap (λ z. sum_below z f) whole ∙ sum_split m (s - m) f

-- extremes of a potential: what is assigned, and what is not
pub least_split : (p : Problem) (q : List Charge) (k : ℕ) → length q ≤ p.sites
    → least_potential p q k ≡ least_assigned p q k (length q) +ℤ least_unassigned p (length q) k (p.sites - length q)
unfolding least_potential
least_split p q k h =
    let m = length q in
    let split = sum_parts m p.sites (least_from p q k) h in
    let first = sum_same m (least_from p q k) (least_term p q k) (λ j l. rw (lt-ltb j m l) refl) in
    let second = sum_same (p.sites - m) (λ a. least_from p q k (m + a)) (λ a. least_open_term p k (m + a)) (λ a l. rw (le-ltb (m + a) m (omega arith)) refl) in
    omega (arith, ints, split, first, second)

pub greatest_split : (p : Problem) (q : List Charge) (k : ℕ) → length q ≤ p.sites
    → greatest_potential p q k ≡ greatest_assigned p q k (length q) +ℤ greatest_unassigned p (length q) k (p.sites - length q)
unfolding greatest_potential
greatest_split p q k h =
    let m = length q in
    let split = sum_parts m p.sites (greatest_from p q k) h in
    let first = sum_same m (greatest_from p q k) (greatest_term p q k) (λ j l. rw (lt-ltb j m l) refl) in
    let second = sum_same (p.sites - m) (λ a. greatest_from p q k (m + a)) (λ a. greatest_open_term p k (m + a)) (λ a l. rw (le-ltb (m + a) m (omega arith)) refl) in
    omega (arith, ints, split, first, second)

-- no site is assigned
pub least_none : (p : Problem) (k n : ℕ) (sum : ℤ) → n ≡ p.sites → sum ≡ least_fixed p k +ℤ sum_below n (least_open_term p k) → sum ≡ least_potential p [] k
unfolding least_potential
least_none p k n sum sites is =
    is ∙ ap (λ z. least_fixed p k +ℤ sum_below z (least_open_term p k)) sites
    ∙ ap (λ z. least_fixed p k +ℤ z) (sum_same p.sites (least_open_term p k) (least_from p [] k) (λ j l. rw (le-ltb j 0 (omega arith)) refl))

-- what is known of an unassigned site
least_known_is : (p : Problem) (q : List Charge) (k : ℕ) → length q ≤ k → least_known p q k ≡ least_assigned p q k (length q)
unfolding least_known
least_known_is p q k h = ap (λ z. least_fixed p k +ℤ z)
    (sum_same (length q) (λ j. least_product p (class_of p k j) (number_at q j)) (least_term p q k) (λ j l. rw (ne_eqb j k (omega arith)) refl))

greatest_known_is : (p : Problem) (q : List Charge) (k : ℕ) → length q ≤ k → greatest_known p q k ≡ greatest_assigned p q k (length q)
unfolding greatest_known
greatest_known_is p q k h = ap (λ z. greatest_fixed p k +ℤ z)
    (sum_same (length q) (λ j. greatest_product p (class_of p k j) (number_at q j)) (greatest_term p q k) (λ j l. rw (ne_eqb j k (omega arith)) refl))

-- the least over the charges that a site can have, choice by choice
choices : (f : Charge → ℤ) (a b c : Bool)
    → least_of (map f (cond a (Neg ∷ cond b (Neutral ∷ cond c (Pos ∷ []) []) (cond c (Pos ∷ []) [])) (cond b (Neutral ∷ cond c (Pos ∷ []) []) (cond c (Pos ∷ []) []))))
    ≡ or_zero (with_choice a (f Neg) (with_choice b (f Neutral) (with_choice c (f Pos) None)))
choices f true true true = refl
choices f true true false = refl
choices f true false true = refl
choices f true false false = refl
choices f false true true = refl
choices f false true false = refl
choices f false false true = refl
choices f false false false = refl

pub site_split : (p : Problem) (q : List Charge) (k : ℕ) → length q ≤ k
    → site_low p q k ≡ least_cost p (least_assigned p q k (length q)) (greatest_assigned p q k (length q)) (least_potential p q k) (greatest_potential p q k)
unfolding site_low can_be
site_split p q k h =
    let chosen = choices (charged_low p q k) (can_be p q k Neg) (can_be p q k Neutral) (can_be p q k Pos) in
    let low_known = ap (λ z. least_cost p z (greatest_known p q k) (least_potential p q k) (greatest_potential p q k)) (least_known_is p q k h) in
    let high_known = ap (λ z. least_cost p (least_assigned p q k (length q)) z (least_potential p q k) (greatest_potential p q k)) (greatest_known_is p q k h) in
    rw (le-ltb k (length q) h) (chosen ∙ low_known ∙ high_known)

-- a charge times a product
neg-mul : (a b : ℤ) → neg_ℤ a *ℤ b ≡ neg_ℤ (a *ℤ b)
neg-mul a b =
    let na = neg_is a in
    omega (arith, ints, ap (λ x. x * up b) na.0, ap (λ x. x * down b) na.0, ap (λ x. x * up b) na.1, ap (λ x. x * down b) na.1)

lesser_turned : (a b : ℤ) → lesser (neg_ℤ a) (neg_ℤ b) ≡ neg_ℤ (greater a b)
lesser_turned a b = grind (arith, ints)

by_charge : (c : Charge) (n lo hi : ℤ) → lesser ((n *ℤ number_of c) *ℤ lo) ((n *ℤ number_of c) *ℤ hi)
    ≡ cost_of c (lesser (n *ℤ lo) (n *ℤ hi)) (greater (n *ℤ lo) (n *ℤ hi))
by_charge Neg n lo hi =
    let turned : n *ℤ negsuc 0 ≡ neg_ℤ n = omega (arith, ints) in
    rw (turned, neg-mul n lo, neg-mul n hi) (lesser_turned (n *ℤ lo) (n *ℤ hi))
by_charge Neutral n lo hi =
    let none : n *ℤ pos 0 ≡ pos 0 = omega (arith, ints) in
    let first : pos 0 *ℤ lo ≡ pos 0 = omega (arith, ints) in
    let second : pos 0 *ℤ hi ≡ pos 0 = omega (arith, ints) in
    rw (none, first, second) refl
by_charge Pos n lo hi = let same : n *ℤ pos 1 ≡ n = omega (arith, ints) in rw same refl

cost_sum : (c : Charge) (n : ℕ) (f g : ℕ → ℤ) → sum_below n (λ i. cost_of c (f i) (g i)) ≡ cost_of c (sum_below n f) (sum_below n g)
cost_sum Neg zero f g = refl
cost_sum Neutral zero f g = refl
cost_sum Pos zero f g = refl
cost_sum Neg (suc n) f g = omega (arith, ints, cost_sum Neg n f g)
cost_sum Neutral (suc n) f g = omega (arith, ints, cost_sum Neutral n f g)
cost_sum Pos (suc n) f g = omega (arith, ints, cost_sum Pos n f g)

cost_add : (c : Charge) (a b x y : ℤ) → cost_of c a b +ℤ cost_of c x y ≡ cost_of c (x +ℤ a) (y +ℤ b)
cost_add Neg a b x y = omega (arith, ints)
cost_add Neutral a b x y = omega (arith, ints)
cost_add Pos a b x y = omega (arith, ints)

class_turned : (p : Problem) (i j : ℕ) → class_of p i j ≡ class_of p j i
unfolding class_of
class_turned p i j =
    let less : min i j ≡ min j i = omega arith in
    let more : max i j ≡ max j i = omega arith in rw (less, more) refl

pair_by_charge : (p : Problem) (q : List Charge) (j i : ℕ) → j < length q → i < j
    → pair_low p q i j ≡ cost_of (charge_at q j) (least_term p q j i) (greatest_term p q j i)
unfolding pair_low
pair_by_charge p q j i h l =
    let c = class_of p j i in
    rw (lt-ltb j (length q) h, ne_eqb i j (omega arith), class_turned p i j) (by_charge (charge_at q j) (number_at q i) (lo_in p.spans c) (hi_in p.spans c))

near_by_charge : (p : Problem) (q : List Charge) (j a : ℕ)
    → least_product p (near_class_of p j a) (number_at q j *ℤ fixed_at p a)
    ≡ cost_of (charge_at q j) (least_product p (near_class_of p j a) (fixed_at p a)) (greatest_product p (near_class_of p j a) (fixed_at p a))
near_by_charge p q j a =
    let c = near_class_of p j a in
    rw (*ℤ_comm (number_at q j) (fixed_at p a)) (by_charge (charge_at q j) (fixed_at p a) (lo_in p.spans c) (hi_in p.spans c))

-- the part of an assigned site with the sites before it
assigned_row : (p : Problem) (q : List Charge) (j : ℕ) → j < length q
    → sum_below j (λ i. pair_low p q i j) +ℤ site_low p q j ≡ cost_of (charge_at q j) (least_assigned p q j j) (greatest_assigned p q j j)
unfolding site_low least_fixed greatest_fixed
assigned_row p q j h =
    let c = charge_at q j in
    let pairs = sum_same j (λ i. pair_low p q i j) (λ i. cost_of c (least_term p q j i) (greatest_term p q j i)) (λ i l. pair_by_charge p q j i h l) ∙ cost_sum c j (least_term p q j) (greatest_term p q j) in
    let least_near = λ (a : ℕ). least_product p (near_class_of p j a) (fixed_at p a) in
    let greatest_near = λ (a : ℕ). greatest_product p (near_class_of p j a) (fixed_at p a) in
    let near = sum_same (fixed_count p) (λ a. least_product p (near_class_of p j a) (number_at q j *ℤ fixed_at p a)) (λ a. cost_of c (least_near a) (greatest_near a)) (λ a l. near_by_charge p q j a)
    ∙ cost_sum c (fixed_count p) least_near greatest_near in
    rw (lt-ltb j (length q) h, pairs, near) (cost_add c (sum_below j (least_term p q j)) (sum_below j (greatest_term p q j)) (sum_below (fixed_count p) least_near) (sum_below (fixed_count p) greatest_near))

-- the part of an unassigned site with the unassigned sites before it
open_row : (p : Problem) (q : List Charge) (b : ℕ)
    → sum_below (length q + b) (λ i. pair_low p q i (length q + b)) ≡ sum_below b (λ a. open_pair_low p (length q + a) (length q + b))
unfolding pair_low
open_row p q b =
    let m = length q in
    let split = sum_split m b (λ i. pair_low p q i (m + b)) in
    let first = sum_zero m (λ i. pair_low p q i (m + b)) (λ i l. rw (le-ltb (m + b) m (omega arith), lt-ltb i m l) refl) in
    let second = sum_same b (λ a. pair_low p q (m + a) (m + b)) (λ a. open_pair_low p (m + a) (m + b)) (λ a l. rw (le-ltb (m + b) m (omega arith), le-ltb (m + a) m (omega arith)) refl) in
    omega (arith, ints, split, first, second)

pub low_split : (p : Problem) (q : List Charge) → length q ≤ p.sites
    → low p q ≡ (assigned_low p q (length q) +ℤ unassigned_low p q (p.sites - length q)) +ℤ pairs_low p (length q) (p.sites - length q)
unfolding low
low_split p q h =
    let m = length q in
    let n = p.sites - m in
    let rows = λ (j : ℕ). sum_below j (λ i. pair_low p q i j) in
    let pairs = sum_parts m p.sites rows h in
    let sites = sum_parts m p.sites (site_low p q) h in
    let both = sum_add m rows (site_low p q) in
    let first = sum_same m (λ j. rows j +ℤ site_low p q j) (λ j. cost_of (charge_at q j) (least_assigned p q j j) (greatest_assigned p q j j)) (λ j l. assigned_row p q j l) in
    let second = sum_same n (λ b. rows (m + b)) (λ b. sum_below b (λ a. open_pair_low p (m + a) (m + b))) (λ b l. open_row p q b) in
    omega (arith, ints, pairs, sites, both, first, second)

-- one more term of a sum after a first part
pub one_more : (first : ℤ) (n : ℕ) (f : ℕ → ℤ) (total term sum : ℤ) → total ≡ first +ℤ sum_below n f → term ≡ f n → sum ≡ total +ℤ term
    → sum ≡ first +ℤ sum_below (n + 1) f
one_more first n f total term sum before now is =
    let next : n + 1 ≡ suc n = omega arith in
    rw next (omega (arith, ints, before, now, is))

pub size_more : (n : ℕ) (total term sum : ℤ) → unsigned_abs total ≤ (24 + n) * 10 ^ 13 → unsigned_abs term ≤ 10 ^ 13 → sum ≡ total +ℤ term
    → unsigned_abs sum ≤ (24 + (n + 1)) * 10 ^ 13
size_more n total term sum before now is = omega (arith, ints, before, now, is)
