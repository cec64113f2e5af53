-- the parts of extremes and of the lower bound, by what is assigned
use Rattle.std.specs.Prelude.{ℕ, ◌+◌, ℤ, pos, neg_ℤ, ◌+ℤ◌, List, length, Bool, true, false, ◌&&◌, ◌||◌, int_le, ◌==◌, if◌then◌else◌, Option, Some, None}
use Rattle.charge_model.specs.declared.charge.Charge.{Charge}
use Rattle.charge_model.specs.declared.charge.Charge.TheVariants.{Neg, Neutral, Pos}
use Rattle.charge_model.specs.Charges.{charge_at, number_at}
use Rattle.charge_model.specs.Problem.{Problem, class_of, hi_in}
use Rattle.charge_model.specs.Rules.{sum_below}
use Rattle.charge_model.specs.Prefixes.{lesser, least_product, greatest_product, least_fixed, greatest_fixed, may_be_positive, site_low}

-- the greatest number of a pair of sites
abbrev pub hi_of : Problem → ℕ → ℕ → ℤ
hi_of p i j = hi_in p.spans (class_of p i j)

-- what an assigned site j adds to the extremes of V_k
abbrev pub least_term : Problem → List Charge → ℕ → ℕ → ℤ
least_term p q k j =
    if j == k then pos 0 else least_product p (class_of p k j) (number_at q j)

-- what it adds to the greatest
abbrev pub greatest_term : Problem → List Charge → ℕ → ℕ → ℤ
greatest_term p q k j =
    if j == k then pos 0 else greatest_product p (class_of p k j) (number_at q j)

-- what an unassigned site j adds to them
abbrev pub least_open_term : Problem → ℕ → ℕ → ℤ
least_open_term p k j = if j == k then pos 0 else neg_ℤ (hi_of p k j)

-- what it adds to the greatest, where it may be positive
abbrev pub greatest_open_term : Problem → ℕ → ℕ → ℤ
greatest_open_term p k j =
    if j == k then pos 0 else if may_be_positive p j then hi_of p k j else pos 0

-- the part of the extremes of V_k from the fixed charges and the sites of a prefix below m
abbrev pub least_assigned : Problem → List Charge → ℕ → ℕ → ℤ
least_assigned p q k m = least_fixed p k +ℤ sum_below m (least_term p q k)

-- the same for the greatest
abbrev pub greatest_assigned : Problem → List Charge → ℕ → ℕ → ℤ
greatest_assigned p q k m = greatest_fixed p k +ℤ sum_below m (greatest_term p q k)

-- the part from m unassigned sites, the first d sites being assigned
abbrev pub least_unassigned : Problem → ℕ → ℕ → ℕ → ℤ
least_unassigned p d k m = sum_below m (λ a. least_open_term p k (d + a))

-- the same for the greatest
abbrev pub greatest_unassigned : Problem → ℕ → ℕ → ℕ → ℤ
greatest_unassigned p d k m = sum_below m (λ a. greatest_open_term p k (d + a))

-- whether a site can have a charge where its potential is between these extremes
abbrev pub allows : Problem → Charge → ℤ → ℤ → Bool
allows p Neg least greatest = int_le p.mu_minus greatest
allows p Neutral least greatest = int_le p.mu_plus greatest && int_le least p.mu_minus
allows p Pos least greatest = p.base == 3 && int_le least p.mu_plus

-- whether it can have some charge
abbrev pub allows_some : Problem → ℤ → ℤ → Bool
allows_some p least greatest =
    allows p Neg least greatest || allows p Neutral least greatest || allows p Pos least greatest

-- a charge times a part of a potential between these extremes, at its least
abbrev pub cost_of : Charge → ℤ → ℤ → ℤ
cost_of Neg least greatest = neg_ℤ greatest
cost_of Neutral least greatest = pos 0
cost_of Pos least greatest = least

-- the lesser of a cost, where it is allowed, and the others
abbrev pub with_choice : Bool → ℤ → Option ℤ → Option ℤ
with_choice false cost others = others
with_choice true cost None = Some cost
with_choice true cost (Some other) = Some (lesser cost other)

-- a cost, and 0 where there is none
abbrev pub or_zero : Option ℤ → ℤ
or_zero None = pos 0
or_zero (Some x) = x

-- the least cost over the charges that a site can have, by the extremes of the assigned part
-- and of the whole of its potential; 0 where it can have none
abbrev pub least_cost : Problem → ℤ → ℤ → ℤ → ℤ → ℤ
least_cost p known_least known_greatest least greatest =
    or_zero (with_choice (allows p Neg least greatest) (neg_ℤ known_greatest)
    (with_choice (allows p Neutral least greatest) (pos 0)
    (with_choice (allows p Pos least greatest) known_least None)))

-- the part of the bound from the first m sites
abbrev pub assigned_low : Problem → List Charge → ℕ → ℤ
assigned_low p q m = sum_below m
    (λ j. cost_of (charge_at q j) (least_assigned p q j j) (greatest_assigned p q j j))

-- the part from one unassigned pair
abbrev pub open_pair_low : Problem → ℕ → ℕ → ℤ
open_pair_low p i j =
    if may_be_positive p i || may_be_positive p j then neg_ℤ (hi_of p i j) else pos 0

-- the part from the pairs of m unassigned sites after the first d
abbrev pub pairs_low : Problem → ℕ → ℕ → ℤ
pairs_low p d m = sum_below m (λ b. sum_below b (λ a. open_pair_low p (d + a) (d + b)))

-- the part from m unassigned sites
abbrev pub unassigned_low : Problem → List Charge → ℕ → ℤ
unassigned_low p q m = sum_below m (λ a. site_low p q (length q + a))
