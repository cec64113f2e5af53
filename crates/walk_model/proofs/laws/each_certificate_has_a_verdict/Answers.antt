use Rattle.charge_model.specs.GroundList.{lists_of}
use Rattle.walk_model.proofs.MarkVerdicts.{AreVerdictLaws}
use Rattle.walk_model.proofs.Verdicts.{verdict}
use Rattle.walk_model.proofs.laws.each_certificate_has_a_verdict.Goals as goal

pub returns : goal.returns
returns c = λ p window es tokens is fits.
    let laws : AreVerdictLaws p window = record {
      laws = record {
        greatest_energy = λ cs. c.energies_have_greatest_values.ensures p cs is;
        greatest_slack = λ cs q of_list. c.slacks_have_greatest_values.ensures p cs q is of_list;
        greatest_difference = λ w cs. c.energy_differences_have_extremes.ensures.greatest p w cs is;
        irreflexive = c.charge_lists_are_ordered.ensures.irreflexive;
        total = c.charge_lists_are_ordered.ensures.total;
      };
      transitive = c.charge_lists_are_ordered.ensures.transitive;
      candidate = λ cs. c.lists_are_candidates_or_not.ensures p cs is;
      marked = λ l cs. c.each_list_has_a_mark.ensures p window l cs is;
      one_mark = λ l cs m n. c.one_marked_window_list.ensures.mark p window l cs m n;
    } in
    verdict p window es laws fits (λ front token prefix. c.trails_grow.ensures p window (lists_of es) front token prefix) tokens
