use Rattle.sqd_scan.proofs.Decided.{some_front}
use Rattle.sqd_scan.proofs.laws.some_front.Goals as goal

pub returns : goal.returns
returns c = some_front
