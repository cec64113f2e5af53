use Rattle.region_domain.specs.Tiles.{WorkOnTile}
use Rattle.region_domain.proofs.answers.tile_answer.Given as goal

abbrev pub invariant-loop-k : goal.invariant-loop-k
invariant-loop-k g l = WorkOnTile l.placed l.rectangle l.k
