use Rattle.std.proofs.Common.{◌≡◌, drop}
use Rattle.sites_layout.specs.SitesLines.{vectors_of}
use Rattle.sites_layout.proofs.ranges.first_vectors.Given as goal

abbrev pub invariant-loop-line : goal.invariant-loop-line
invariant-loop-line l = vectors_of (drop l.line-index l.lines) ≡ vectors_of l.lines
