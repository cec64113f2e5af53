use Rattle.std.proofs.Common.{map}
use Rattle.std.specs.Prelude.{All}
use Rattle.charge_model.specs.Rules.{IsChargeList}
use Rattle.charge_model.specs.GroundList.{lists_of}
use Rattle.ground_entries.specs.Seen.{seen}
use Rattle.check_rows.proofs.certificates.listed.Given as goal

abbrev pub invariant-loop-line : goal.invariant-loop-line
invariant-loop-line l = All (IsChargeList l.problem) (lists_of (map seen l.entries.items))
