use Rattle.sim_cli.proofs.Workers.{settings_answer_alike, words_answer_alike}
use Rattle.sim_cli.proofs.laws.workers_change_no_answer.Goals as goal

pub returns : goal.returns
returns c = record {
  settings = settings_answer_alike;
  words = words_answer_alike c.one_meaning.ensures;
}
