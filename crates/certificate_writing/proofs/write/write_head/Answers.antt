use Rattle.std.proofs.Common.{◌∙◌, subst}
use Rattle.prune_certificate.specs.Printed.{head_text}
use Rattle.certificate_writing.specs.Writing.{TookText}
use Rattle.certificate_writing.proofs.Fronts.{front_none}
use Rattle.certificate_writing.proofs.write.write_head.Goals as goal

pub returns-in-Err-clause-took : goal.returns-in-Err-clause-took
returns-in-Err-clause-took g c = front_none (g.K.Sink.written c.args.sink.now) (head_text c.args.problem.now c.args.list.now)

pub returns-clause-took : goal.returns-clause-took
returns-clause-took g c =
    subst (λ z. TookText {A = Unit {0}} (g.K.Sink.written c.args.sink.now) z (g.K.Sink.written c.write_bytes.new.sink) c.write_bytes.result)
    (c.as_slice.ensures.value ∙ c.in-Ok.ensures) c.write_bytes.ensures.took
