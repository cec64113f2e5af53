-- a wrong energy, a possibly valid list without its mark, facts of another list, a gap that forgets the window, and a list
-- below itself
use Rattle.std.proofs.Common.{◌≡◌, pos, [], ◌∷◌, None, arith}
use Rattle.std.proofs.lemmas.Int.{ints}
use Rattle.charge_model.specs.declared.charge.Charge.TheVariants.{Neg, Neutral}
use Rattle.charge_model.proofs.OneSite.{one_site, one_site_list, one_site_bound}
use Rattle.entry_facts.specs.Energies.{IsListEnergy, IsEnergyOfOneList, IsRaisedGap, LiesBelowBy}
use Rattle.entry_facts.specs.Facts.{AreFacts, AreFactsOfEach}
use Rattle.entry_facts.proofs.StandardFacts.{negative, negative_facts, no_energy}

no_other_least : IsListEnergy one_site (record negative { span = record { lo = pos 1; hi = pos 1; in_order = omega (arith, ints) } }) → ⊥
no_other_least is =
    let value = is.least.reached.2.1 in
    let none = no_energy is.least.reached.0 in
    omega (arith, ints, value, none)

no_other_greatest : IsListEnergy one_site (record negative { span = record { lo = pos 0; hi = pos 1; in_order = omega (arith, ints) } }) → ⊥
no_other_greatest is =
    let value = is.greatest.reached.2.1 in
    let none = no_energy is.greatest.reached.0 in
    omega (arith, ints, value, none)

not_of_neutral : IsEnergyOfOneList one_site (Neutral ∷ []) negative → ⊥
not_of_neutral is = let same = is.charges in absurd cc

has_a_mark : AreFacts one_site (record negative_facts { own = None }) → ⊥
has_a_mark is = is.own (one_site_list.ground.only_listed 0 [] (omega arith)).possible

not_two : AreFactsOfEach one_site ((Neg ∷ []) ∷ []) (negative_facts ∷ negative_facts ∷ []) → ⊥
not_two is = let same = is.charges in absurd cc

gap_has_the_window : IsRaisedGap one_site (pos 5) (Neg ∷ []) (Neg ∷ []) (record { lo = pos 0; hi = pos 5; in_order = omega (arith, ints) }) → ⊥
gap_has_the_window is =
    let at = is.least.reached in
    let one = at.2.0 in
    let value = at.2.1 in
    omega (arith, ints, one, value)

not_below_itself : LiesBelowBy one_site (pos 0) (Neg ∷ []) (Neg ∷ []) → ⊥
not_below_itself below =
    let table = one_site_bound.attained.1.reached.reached in
    let less = below table.0 table.1 in
    omega (arith, ints, less)
