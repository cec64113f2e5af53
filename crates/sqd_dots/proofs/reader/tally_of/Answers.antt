use Rattle.std.proofs.Common.{◌≡◌, subst, drop, arith}
use Rattle.sqd_dots.specs.States.{HasRead}
use Rattle.sqd_dots.proofs.reader.tally_of.Goals as goal

pub returns : goal.returns
returns c = λ at items shown valid closes.
    let all : c.loop-k.k ≡ 0 = omega arith in
    let read = subst (λ k. HasRead c.loop-k.reader (drop k c.args.marks.now)) all c.loop-k.invariant.read in
    (read.state at _ items shown valid closes).tally
