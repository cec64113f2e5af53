use Rattle.std.proofs.Common.{refl, arith}
use Rattle.sqd_dots.proofs.ReaderLemmas.{take_start, take_empty, take_end, take_other}
use Rattle.sqd_dots.proofs.reader.DotsReader.take.Goals as goal

pub returns-in-Start-clause-read : goal.returns-in-Start-clause-read
returns-in-Start-clause-read c = λ found h.
    take_start c.args.self.now c.begin.new.self c.leave-inside.new.self c.leave-inside.result c.sort_of.result c.begin.result c.args.mark.now found h c.in-Start.is c.leave-inside.ensures c.sort_of.ensures c.begin.ensures.at

pub returns-in-Empty-clause-read : goal.returns-in-Empty-clause-read
returns-in-Empty-clause-read c = λ found h.
    take_empty c.args.self.now c.begin-in-Empty.new.self c.nothing.result c.sort_of-in-Empty.result c.begin-in-Empty.result c.args.mark.now found h c.in-Empty.is c.nothing.ensures c.sort_of-in-Empty.ensures c.begin-in-Empty.ensures.at

pub returns-in-End-clause-read : goal.returns-in-End-clause-read
returns-in-End-clause-read c = λ found h.
    take_end c.args.self.now _ c.end_name.result.now c.enter.result c.args.mark.now found h c.in-End.is c.end_name.ensures.name c.enter.ensures refl

pub returns-in_default : goal.returns-in_default
returns-in_default c = record {
  read = λ found h. take_other c.args.self.now c.args.mark.now found h c.in_default.not-Start c.in_default.not-Empty c.in_default.not-End;
  few = omega arith;
}
