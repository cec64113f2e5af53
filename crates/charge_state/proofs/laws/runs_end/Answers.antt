use Rattle.charge_state.proofs.Sequences.{run_ends}
use Rattle.charge_state.proofs.laws.runs_end.Goals as goal

pub returns : goal.returns
returns c = run_ends
