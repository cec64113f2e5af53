-- what does not agree, does not lie within, and is not all that is possibly valid
use Rattle.std.proofs.Common.{◌≡◌, pos, [], ◌∷◌, length, ap, arith, inl, inr}
use Rattle.std.proofs.lemmas.Int.{ints}
use Rattle.charge_model.specs.declared.charge.Charge.TheVariants.{Neg}
use Rattle.charge_model.specs.Charges.{IsBefore}
use Rattle.charge_model.specs.Problem.{Problem}
use Rattle.charge_model.proofs.OneSite.{one_site, one_site_list}
use Rattle.candidate_marks.proofs.StandardFacts.{negative}
use Rattle.narrower_lists.specs.Agreement.{AreWithin, HaveSameClasses, HaveSameNumbers}
use Rattle.narrower_lists.specs.Listed.{IsWholeOf}
use Rattle.narrower_lists.specs.Possible.{ArePossible}
use Rattle.narrower_lists.proofs.StandardFacts.{narrow_span, solved, wide_span}

-- each number counts
other_sites : HaveSameNumbers one_site (record one_site { sites = 2 }) → ⊥
other_sites is = let wrong : 1 ≡ 2 = is.sites in omega (arith, wrong)

other_base : HaveSameNumbers one_site (record one_site { base = 2 }) → ⊥
other_base is = let wrong : 3 ≡ 2 = is.base in omega (arith, wrong)

other_mu_minus : HaveSameNumbers one_site (record one_site { mu_minus = pos 0 }) → ⊥
other_mu_minus is = let wrong : one_site.mu_minus ≡ pos 0 = is.mu_minus in omega (arith, ints, wrong)

other_mu_plus : HaveSameNumbers one_site (record one_site { mu_plus = pos 0 }) → ⊥
other_mu_plus is = let wrong : one_site.mu_plus ≡ pos 0 = is.mu_plus in omega (arith, ints, wrong)

-- and so does each list of classes
other_charges : HaveSameClasses one_site (record one_site { fixed_charges = pos 1 ∷ [] }) → ⊥
other_charges is = let wrong : 0 ≡ 1 = ap length is.fixed in omega (arith, wrong)

other_pairs : HaveSameClasses one_site (record one_site { pair_classes = 0 ∷ [] }) → ⊥
other_pairs is = let wrong : 0 ≡ 1 = ap length is.pairs in omega (arith, wrong)

other_near : HaveSameClasses one_site (record one_site { near_classes = 0 ∷ [] }) → ⊥
other_near is = let wrong : 0 ≡ 1 = ap length is.near in omega (arith, wrong)

-- a wider span is not within, at neither end
wider_below : AreWithin (narrow_span ∷ []) (wide_span ∷ []) → ⊥
wider_below are = let wrong = (are 0 (omega arith)).0 in omega (arith, ints, wrong)

wider_above : AreWithin (narrow_span ∷ []) (wide_span ∷ []) → ⊥
wider_above are = let wrong = (are 0 (omega arith)).1 in omega (arith, ints, wrong)

-- another limit, and another problem
other_limit : IsWholeOf solved one_site 4 → ⊥
other_limit is = let wrong : 4 ≡ 3 = is.same in omega (arith, wrong)

other_problem : IsWholeOf solved (record one_site { base = 2 }) 3 → ⊥
other_problem is = let wrong : 2 ≡ 3 = ap (λ (p : Problem). p.base) is.narrower.rest in omega (arith, wrong)

-- the negative list is missing, is not among the lists, and is there twice
missing : ArePossible one_site ((Neg ∷ []) ∷ []) [] → ⊥
missing are =
    let listed = one_site_list.ground.only_listed 0 [] (omega arith) in
    let held = are.each 0 [] (omega arith) listed.possible in
    omega (arith, held.1)

not_among : ArePossible one_site [] (negative ∷ []) → ⊥
not_among are = let held = are.only 0 [] (omega arith) in omega (arith, held.1)

twice : ArePossible one_site ((Neg ∷ []) ∷ []) (negative ∷ negative ∷ []) → ⊥
twice are = later (are.in_order 0 1 [] (omega arith) (omega arith))
  where
    later : IsBefore (Neg ∷ []) (Neg ∷ []) → ⊥
    later (inl less) = omega (arith, less)
    later (inr same) = same.1
