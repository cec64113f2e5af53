use Rattle.std.proofs.Common.{◌≡◌, take}
use Rattle.sidb_layout.specs.Dropping.{sites_but}
use Rattle.sidb_layout.proofs.dropping.kept_sites.Given as goal

abbrev pub invariant-loop-k : goal.invariant-loop-k
invariant-loop-k l = l.kept.items ≡ sites_but l.gone (take l.k l.sites)
