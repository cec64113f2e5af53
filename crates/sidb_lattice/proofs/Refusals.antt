-- Each definition refuses a wrong value.
use Rattle.std.proofs.Common.{◌≡◌, ℕ, ◌^◌, [], ◌∷◌, Option, Some, unwrap_or, ap, arith, lit<}
use Rattle.sidb_layout.specs.Lattice.{squared_distance}
use Rattle.sidb_lattice.specs.Classes.{IsClassing, AreClasses, IsDistance, classing_of, class_between}
use Rattle.sidb_lattice.proofs.StandardFacts.{three}

-- a distance twice, one below 2.25 Å, and one of 2^47
pub refuses_twice : IsClassing (classing_of 3 0 (147456 ∷ 147456 ∷ []) (0 ∷ 1 ∷ 0 ∷ []) []) → ⊥
refuses_twice h = omega (arith, h.rising 0 (lit< tt))

pub refuses_short : IsDistance 50624 → ⊥
refuses_short h = omega (arith, h.least)

pub refuses_long : IsDistance (2 ^ 47) → ⊥
refuses_long h = omega (arith, h.greatest)

-- a class that is none, a pair without a class, and more classes than pairs
pub refuses_class : IsClassing (classing_of 2 0 (147456 ∷ []) (1 ∷ []) []) → ⊥
refuses_class h = omega (arith, h.classes 0 0 (lit< tt))

pub refuses_few : IsClassing (classing_of 3 0 (147456 ∷ []) (0 ∷ []) []) → ⊥
refuses_few h = omega (arith, h.class_per_pair)

pub refuses_many : IsClassing (classing_of 2 0 (147456 ∷ 589824 ∷ []) (0 ∷ []) []) → ⊥
refuses_many h = omega (arith, h.few_classes)

-- neighbours in the class of the pair that is farther apart, and classes of another number of sites
pub refuses_wrong_class : AreClasses three (classing_of 3 0 (147456 ∷ 589824 ∷ []) (1 ∷ 1 ∷ 0 ∷ []) []) → ⊥
unfolding class_between squared_distance
refuses_wrong_class h =
    let read : Some 589824 ≡ Some 147456 = h.pairs 0 1 (λ e. omega (arith, e)) (lit< tt) (lit< tt) in
    let same : 589824 ≡ 147456 = ap (λ (o : Option ℕ). unwrap_or o 0) read in omega (arith, same)

pub refuses_other_sites : AreClasses three (classing_of 2 0 (147456 ∷ []) (0 ∷ []) []) → ⊥
refuses_other_sites h = omega (arith, h.sites)
