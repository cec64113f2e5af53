use Rattle.marked_list_laws.proofs.LawsBelow.{AreLaws}
use Rattle.marked_list_laws.proofs.Marks.{marked}
use Rattle.marked_list_laws.proofs.laws.each_list_has_a_mark.Goals as goal

pub returns : goal.returns
returns c = λ p window l cs is.
    let laws : AreLaws p = record {
      least_slack = λ ds q of_list. c.slacks_have_least_values.ensures p ds q is of_list;
      greatest_slack = λ ds q of_list. c.slacks_have_greatest_values.ensures p ds q is of_list;
      least_difference = λ w ds. c.energy_differences_have_extremes.ensures.least p w ds is;
      greatest_difference = λ w ds. c.energy_differences_have_extremes.ensures.greatest p w ds is;
      candidate_decided = λ ds. c.lists_are_candidates_or_not.ensures p ds is;
      beats_decided = λ w ds. c.lists_beat_each_other_or_not.ensures p w ds is;
    } in
    marked p window l cs laws
