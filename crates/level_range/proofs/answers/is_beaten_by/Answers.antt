use Rattle.std.proofs.lemmas.Bool.{false≢true}
use Rattle.level_range.proofs.Listing.{measured_at, listed_of, beats_here}
use Rattle.level_range.proofs.answers.is_beaten_by.Goals as goal

pub returns-then-not-includes : goal.returns-then-not-includes
returns-then-not-includes c = λ e h. false≢true e

pub returns : goal.returns
returns c = λ e h.
    let p = c.args.problem.now in
    let levels = c.args._levels in
    let xs = c.args.all.now in
    let m = c.args.level.value in
    let x = c.index-all-k.result in
    let w = c.index-all-i.result in
    let measured = measured_at p levels xs c.args.i w c.requires.all c.requires.winner c.index-all-i.is in
    (listed_of p m xs c.args.k x c.requires.place c.index-all-k.is h).unbeaten w.charges
    (beats_here p levels m w x.charges c.requires.level measured (c.includes.ensures.0 c.if-not-includes.false) (c.in_ok-lower.ensures.0 e))
