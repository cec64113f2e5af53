use Rattle.std.proofs.Common.{ap, subst, ℕ, Err, Global, Vec}
use Rattle.sim_cli.specs.Reading.{IsAnswerable}
use Rattle.sim_cli.proofs.Answering.{long_input}
use Rattle.sim_cli.proofs.Faults.{long_is_quiet, want_of_memory_is_quiet}
use Rattle.sim_cli.proofs.reading.read_whole.Goals as goal

pub returns-in-Ok-clause-fault : goal.returns-in-Ok-clause-fault
returns-in-Ok-clause-fault g c = record {
  failed = λ is. absurd (subst IsAnswerable is c.reading_of.ensures.answerable);
  quiet = λ other. c.in-Ok.ensures.counts;
}

pub returns-in-Err-TooLong-clause-means : goal.returns-in-Err-TooLong-clause-means
returns-in-Err-TooLong-clause-means g c =
    let long = c.in-Err-TooLong.ensures.too_long (ap Err c.in-Err-TooLong.field-0-is) in
    long_input c.args.settings.now _ _ _ long.0 c.requires c.input_limit.ensures.value long.2 long.1

pub returns-in-Err-TooLong-clause-fault : goal.returns-in-Err-TooLong-clause-fault
returns-in-Err-TooLong-clause-fault g c = record {
  failed = λ is. absurd (cc);
  quiet = λ other. long_is_quiet (Vec ℕ Global) _ _ c.in-Err-TooLong.field-0 c.in-Err-TooLong.field-0-is c.in-Err-TooLong.ensures.counts;
}

pub returns-in-Err-Memory-clause-fault : goal.returns-in-Err-Memory-clause-fault
returns-in-Err-Memory-clause-fault g c = record {
  failed = λ is. absurd (cc);
  quiet = λ other. want_of_memory_is_quiet (Vec ℕ Global) _ _ c.in-Err-Memory.field-0 c.in-Err-Memory.field-0-is c.in-Err-Memory.ensures.counts;
}
