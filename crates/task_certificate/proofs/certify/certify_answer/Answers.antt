use Rattle.task_certificate.proofs.Certifying.{solved_due}
use Rattle.task_certificate.proofs.certify.certify_answer.Goals as goal

pub returns-in-List : goal.returns-in-List
returns-in-List g c =
    solved_due c.args.settings.now c.args.problem.now c.in-List.solved c.new.result c.in-List.ensures.answer c.new.ensures.few c.new.ensures.problem c.new.ensures.entries c.new.ensures.bound
