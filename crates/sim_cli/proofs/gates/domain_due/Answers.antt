use Rattle.task_gate.specs.Answers.{IsDomainAnswer}
use Rattle.sim_cli.proofs.Layouts.{of_layout}
use Rattle.sim_cli.proofs.gates.domain_due.Goals as goal

pub returns : goal.returns
returns g c = of_layout c.args.about.now (IsDomainAnswer c.args.settings.now) c.in_ok-layout.layout c.in_ok-layout.ensures c.domain_answer.result c.domain_answer.ensures
