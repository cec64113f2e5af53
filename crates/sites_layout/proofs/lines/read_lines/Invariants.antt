use Rattle.std.proofs.Common.{◌≡◌, ◌++◌, map, length, Some}
use Rattle.sites_layout.specs.SitesLines.{lines_in}
use Rattle.sites_layout.specs.SitesFaults.{AreFineSitesLines}
use Rattle.sites_layout.proofs.lines.read_lines.Given as goal

abbrev pub invariant-loop-line : goal.invariant-loop-line
invariant-loop-line l = record {
  text : lines_in l.text ≡ map Some l.lines.items ++ lines_in l.rest;
  fine : AreFineSitesLines (map Some l.lines.items);
}

abbrev pub decreases-loop-line : goal.decreases-loop-line
decreases-loop-line l = length l.rest
