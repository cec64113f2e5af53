-- no list without the entry, no list that is too long
use Rattle.std.proofs.Common.{pos, [], ap, length, arith}
use Rattle.charge_model.specs.GroundList.{lists_of}
use Rattle.charge_model.proofs.OneSite.{one_site, one_entry}
use Rattle.window_laws.proofs.MarkLemmas.{one_marked_list}
use Rattle.window_laws.proofs.Unique.{window_list_unique}
use Rattle.energy_window.specs.declared.answer.WindowAnswer.TheVariants.{List as Listed, ListTooLong}
use Rattle.energy_window.specs.Answers.{IsWindowAnswer}
use Rattle.energy_window.proofs.StandardFacts.{listed}

no_empty_list : IsWindowAnswer one_site (pos 5) 2 (Listed []) → ⊥
no_empty_list is = let same = one_marked_list one_site (pos 5) [] one_entry is.list listed.list in absurd (cc)

not_too_long : IsWindowAnswer one_site (pos 5) 2 ListTooLong → ⊥
not_too_long is =
    let many = is.many in
    let same = ap length (window_list_unique one_site (pos 5) (lists_of one_entry) many.0 listed.list.within many.1) in
    absurd (omega (arith, same, many.2))
