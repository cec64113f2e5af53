use Rattle.task_gate.specs.Answers.{IsTruthAnswer}
use Rattle.sim_cli.proofs.Layouts.{of_layout}
use Rattle.sim_cli.proofs.gates.truth_due.Goals as goal

pub returns : goal.returns
returns g c = of_layout c.args.about.now (IsTruthAnswer c.args.settings.now) c.in_ok-layout.layout c.in_ok-layout.ensures c.truth_answer.result c.truth_answer.ensures
