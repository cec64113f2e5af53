use Rattle.std.proofs.Common.{◌+◌, ◌≤◌, length, drop}
use Rattle.sqd_dots.specs.States.{HasRead}
use Rattle.sqd_dots.proofs.reader.tally_of.Given as goal

abbrev pub invariant-loop-k : goal.invariant-loop-k
invariant-loop-k l = record {
  read : HasRead l.reader (drop l.k l.marks);
  room : l.reader.tally.skipped + l.k ≤ length l.marks;
}

abbrev pub decreases-loop-k : goal.decreases-loop-k
decreases-loop-k l = l.k
