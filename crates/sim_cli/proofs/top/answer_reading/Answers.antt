use Rattle.std.proofs.Common.{inl, refl, subst}
use Rattle.sim_cli.specs.Answer.{IsTaskAnswer}
use Rattle.sim_cli.specs.Reading.{IsAnswerable}
use Rattle.sim_cli.proofs.Writing.{ended, not_failed, not_words, ran_due, read_whole, was_counted}
use Rattle.sim_cli.proofs.top.answer_reading.Goals as goal

pub returns-in-Ok-clause-answer : goal.returns-in-Ok-clause-answer
returns-in-Ok-clause-answer g c =
    λ bytes means. ran_due c.in-Ok.due _ _ _ _ _ c.deliver.ensures.delivered (IsTaskAnswer c.args.settings.now bytes) _ (c.in-Ok.ensures.answer bytes means) c.in-Ok.ensures.streams

pub returns-in-Ok-clause-read_fault : goal.returns-in-Ok-clause-read_fault
returns-in-Ok-clause-read_fault g c = (
  λ e. absurd (not_failed _ _ _ (ended c.in-Ok.due _ _ _ _ _ c.deliver.ensures.delivered c.in-Ok.ensures.ends) e),
  λ is. absurd (subst IsAnswerable is c.in-Ok.ensures.read),
)

pub returns-in-Ok-clause-write_fault : goal.returns-in-Ok-clause-write_fault
returns-in-Ok-clause-write_fault g c = record {
  failed = was_counted _ _ _ (ended c.in-Ok.due _ _ _ _ _ c.deliver.ensures.delivered c.in-Ok.ensures.ends);
  quiet = c.deliver.ensures.quiet;
}

pub returns-in-Ok-clause-read : goal.returns-in-Ok-clause-read
returns-in-Ok-clause-read g c =
    λ words left reads after. read_whole c.in-Ok.due _ _ _ _ _ c.deliver.ensures.delivered _ _ words left (c.in-Ok.ensures.end reads) c.in-Ok.ensures.read after

pub returns-in-Ok-clause-known : goal.returns-in-Ok-clause-known
returns-in-Ok-clause-known g c =
    not_words _ _ _ (ended c.in-Ok.due _ _ _ _ _ c.deliver.ensures.delivered c.in-Ok.ensures.ends)

pub returns-in-Err-Memory-clause-answer : goal.returns-in-Err-Memory-clause-answer
returns-in-Err-Memory-clause-answer g c = λ bytes means. inl refl
