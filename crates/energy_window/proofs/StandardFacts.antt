-- one site alone: within a window of 5 its one list is answered by two nodes, and not by one
use Rattle.std.proofs.Common.{pos, Some, arith}
use Rattle.charge_model.proofs.OneSite.{one_site, one_entry, one_site_bound}
use Rattle.ground_state.proofs.StandardFacts.{window_solved}
use Rattle.energy_window.specs.declared.answer.WindowAnswer.TheVariants.{List as Listed, Budget, Memory}
use Rattle.energy_window.specs.Answers.{IsWindowAnswer}

pub listed : IsWindowAnswer one_site (pos 5) 2 (Listed one_entry)
listed =
    let nodes = window_solved.nodes in
    record { budget = (Some (pos 0), one_site_bound, omega (arith, nodes)); list = window_solved.list; few = omega arith }

pub over : IsWindowAnswer one_site (pos 5) 1 Budget
over = let nodes = window_solved.nodes in (Some (pos 0), one_site_bound, omega (arith, nodes))

want_of_memory : IsWindowAnswer one_site (pos 5) 2 Memory
want_of_memory = tt
