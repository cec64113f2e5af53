use Rattle.task_region.specs.RegionAnswer.{IsRegionAnswer}
use Rattle.sim_cli.proofs.Layouts.{of_layout}
use Rattle.sim_cli.proofs.gates.region_due.Goals as goal

pub returns : goal.returns
returns g c = of_layout c.args.about.now (IsRegionAnswer c.args.settings.now) c.in_ok-layout.layout c.in_ok-layout.ensures c.region_answer.result c.region_answer.ensures
