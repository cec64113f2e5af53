use Rattle.std.proofs.Common.{◌≡◌, take, Some, None}
use Rattle.sqd_scan.specs.Scanning.{kind_done}
use Rattle.sqd_scan.proofs.Runs.{run}
use Rattle.sqd_scan.specs.declared.stage.Stage.TheVariants.{Begin}
use Rattle.sqd_scan.proofs.mark_scan.scan.Given as goal

abbrev pub invariant-loop-i : goal.invariant-loop-i
invariant-loop-i l = record {
  so_far : run Begin (take l.i l.bytes) ≡ Some l.stage;
  open_still : kind_done l.stage ≡ None;
}
