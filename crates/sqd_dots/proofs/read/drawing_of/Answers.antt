use Rattle.std.proofs.lemmas.Bool.{not-false}
use Rattle.sqd_dots.proofs.Whole.{bad_site, drawing, none_of}
use Rattle.sqd_dots.proofs.read.drawing_of.Goals as goal

pub returns-in-Some-clause-fault : goal.returns-in-Some-clause-fault
returns-in-Some-clause-fault c = λ text es h g. bad_site text es c.args.tally c.in-Some.at h g (not-false c.args.tally.siqad c.if-not-tally.false) c.in-Some.is

pub returns-clause-drawing : goal.returns-clause-drawing
returns-clause-drawing c = λ text es h g.
    drawing text es c.args.tally c.reverse.new.self.items h g (not-false c.args.tally.siqad c.if-not-tally.false) (none_of c.args.tally.bad c.in_default.not-Some) c.reverse.ensures.items
