use Rattle.branch_search.proofs.Agreeing.{same_round, same_energy, not_none, found_over, none_over}
use Rattle.branch_search.proofs.laws.workers_change_no_answer.Goals as goal

pub returns-clause-rounds : goal.returns-clause-rounds
returns-clause-rounds c = same_round

pub returns-clause-energies : goal.returns-clause-energies
returns-clause-energies c p limit = same_energy p

pub returns-clause-none : goal.returns-clause-none
returns-clause-none c p limit = not_none p

pub returns-clause-found_within : goal.returns-clause-found_within
returns-clause-found_within c = found_over

pub returns-clause-none_within : goal.returns-clause-none_within
returns-clause-none_within c = none_over
