use Rattle.task_region.proofs.Dues.{region_due, region_site_due}
use Rattle.task_region.proofs.answer.region_of_gate.Goals as goal

pub returns-in-Some : goal.returns-in-Some
returns-in-Some g c = region_site_due c.args.settings.now c.args.spec c.args.grid.now c.args.layout c.in-Some.place c.fault_due.result c.in-Some.ensures.site c.fault_due.ensures

pub returns-in-None : goal.returns-in-None
returns-in-None g c = region_due c.args.settings.now c.args.spec c.args.grid.now c.args.layout c.answer_on.result c.in-None.ensures.on c.answer_on.ensures
