use Rattle.std.proofs.Common.{◌∙◌, sym, ap, subst}
use Rattle.sidb_io.specs.Outside.{HasFault}
use Rattle.token_sinks.specs.Taking.{OnlyFaultRaises}
use Rattle.token_writer.specs.Writing.{WriterOver, TookLines}
use Rattle.token_writer.proofs.Lines.{given_back}
use Rattle.certificate_writing.proofs.write.write_walk.Goals as goal

pub returns-clause-took : goal.returns-clause-took
returns-clause-took g c tokens walked =
    let w = c.walk.new.tokens in
    let first = c.new-writer.result in
    let over = c.walk.ensures.over ∙ c.new-writer.ensures.over in
    let same = given_back g.K.Sink.written _ w.sink.now (g.K.Sink.written c.args.sink.now) w.count w.sink.ghost_name _ over (assumption) in
    let before = ap (λ (o : WriterOver). o.before) over in
    let lines = c.fed_lines_are_written.ensures.counted (record { written = g.K.Sink.written first.sink.now; count = first.count; refused = first.refused })
    (record { written = g.K.Sink.written w.sink.now; count = w.count; refused = w.refused }) tokens c.walk.result (c.new-writer.ensures.empty, c.walk.ensures.fed tokens walked) in
    subst (λ x. TookLines (g.K.Sink.written c.args.sink.now) tokens (g.K.Sink.written x) c.walk.result) (sym same)
    (subst (λ b. TookLines b tokens (g.K.Sink.written w.sink.now) c.walk.result) before lines)

pub returns-clause-fault : goal.returns-clause-fault
returns-clause-fault g c = λ is.
    let w = c.walk.new.tokens in
    subst (λ x. HasFault (g.K.Sink.faults c.args.sink.now) (g.K.Sink.faults x))
    (sym (given_back g.K.Sink.written _ w.sink.now (g.K.Sink.written c.args.sink.now) w.count w.sink.ghost_name _ (c.walk.ensures.over ∙ c.new-writer.ensures.over) (assumption)))
    (subst (λ n. HasFault n (g.K.Sink.faults w.sink.now)) c.new-writer.ensures.faults (c.walk.ensures.fault is))

pub returns-clause-counts : goal.returns-clause-counts
returns-clause-counts g c =
    let w = c.walk.new.tokens in
    subst (λ x. OnlyFaultRaises (g.K.Sink.faults c.args.sink.now) (g.K.Sink.faults x) c.walk.result)
    (sym (given_back g.K.Sink.written _ w.sink.now (g.K.Sink.written c.args.sink.now) w.count w.sink.ghost_name _ (c.walk.ensures.over ∙ c.new-writer.ensures.over) (assumption)))
    (subst (λ n. OnlyFaultRaises n (g.K.Sink.faults w.sink.now) c.walk.result) c.new-writer.ensures.faults c.walk.ensures.counts)
