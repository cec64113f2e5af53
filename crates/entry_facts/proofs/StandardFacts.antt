-- one site alone, worked by hand: its negative list weighs 0, and is certainly valid
use Rattle.std.proofs.Common.{◌≡◌, ◌∙◌, pos, [], ◌∷◌, Some, refl, sym, arith}
use Rattle.std.proofs.lemmas.Int.{ints}
use Rattle.std.proofs.lemmas.List.Elements.{All-nil, All-cons}
use Rattle.charge_model.specs.declared.charge.Charge.TheVariants.{Neg}
use Rattle.charge_model.specs.declared.mark.Mark.TheVariants.{Certain}
use Rattle.charge_model.specs.Problem.{Table, class_of, near_class_of}
use Rattle.charge_model.specs.Rules.{energy, IsCertainlyValid}
use Rattle.charge_model.proofs.OneSite.{one_site, one_site_list, one_site_bound}
use Rattle.linear_form.specs.Forms.{value_of}
use Rattle.entry_facts.specs.declared.energy.ListEnergy.{ListEnergy}
use Rattle.entry_facts.specs.declared.facts.EntryFacts.{EntryFacts}
use Rattle.entry_facts.specs.Energies.{IsListEnergy, IsEnergyOfOneList, IsRaisedGap}
use Rattle.entry_facts.specs.Facts.{AreFacts, AreFactsOf, AreFactsOfEach}

abbrev pub negative : ListEnergy
negative = record {
  charges = Neg ∷ [];
  form = record { constant = pos 0; coefficients = [] };
  span = record { lo = pos 0; hi = pos 0; in_order = omega (arith, ints) };
}

abbrev pub negative_facts : EntryFacts
negative_facts = record { list = negative; own = Some Certain }

pub no_energy : (t : Table) → energy one_site t (Neg ∷ []) ≡ pos 0
unfolding energy class_of near_class_of
no_energy t = refl

no_value : (t : Table) → value_of (record { constant = pos 0; coefficients = [] }) t ≡ pos 0
unfolding value_of
no_value t = omega (arith, ints)

pub negative_weighed : IsListEnergy one_site negative
negative_weighed =
    let listed = one_site_list.ground.only_listed 0 [] (omega arith) in
    let table = one_site_bound.attained.1.reached.reached in
    record {
      list = listed.is_list;
      form = record { classes = refl; constant = omega arith; weight = omega arith };
      value = λ t. no_value t ∙ sym (no_energy t);
      least = record { bounds = λ t is. omega (arith, ints, no_energy t); reached = (table.0, table.1, (table.2.0, no_energy table.0)) };
      greatest = record { bounds = λ t is. omega (arith, ints, no_energy t); reached = (table.0, table.1, (table.2.0, no_energy table.0)) };
      small = record { least = omega (arith, ints); greatest = omega (arith, ints) };
    }

negative_energy : IsEnergyOfOneList one_site (Neg ∷ []) negative
negative_energy = record { energy = negative_weighed; charges = refl }

pub negative_valid : IsCertainlyValid one_site (Neg ∷ [])
negative_valid = (one_site_list.marks 0 (record { charges = Neg ∷ []; mark = Certain }) (omega arith)).valid

pub negative_known : AreFacts one_site negative_facts
negative_known =
    let listed = one_site_list.ground.only_listed 0 [] (omega arith) in
    record { list = negative_weighed; own = record { possible = listed.possible; mark = negative_valid } }

one_known : AreFactsOf one_site (Neg ∷ []) negative_facts
one_known = record { facts = negative_known; charges = refl }

all_known : AreFactsOfEach one_site ((Neg ∷ []) ∷ []) (negative_facts ∷ [])
all_known = record { facts = All-cons (AreFacts one_site) negative_facts [] negative_known (All-nil _); charges = refl }

-- with a window of 5 on top it has 5 more than itself
pub five_above : IsRaisedGap one_site (pos 5) (Neg ∷ []) (Neg ∷ []) (record { lo = pos 5; hi = pos 5; in_order = omega (arith, ints) })
five_above =
    let table = one_site_bound.attained.1.reached.reached in
    record {
      least = record { bounds = λ t is. omega (arith, ints); reached = (table.0, table.1, (table.2.0, let one = table.2.0 in omega (arith, ints, one))) };
      greatest = record { bounds = λ t is. omega (arith, ints); reached = (table.0, table.1, (table.2.0, let one = table.2.0 in omega (arith, ints, one))) };
    }
