use Rattle.std.proofs.Common.{map, take}
use Rattle.std.specs.List.{AllZip}
use Rattle.gate_model.specs.Pairs.{IsPair}
use Rattle.gate_model.proofs.reading.pairs_in.Given as goal

abbrev pub invariant-loop-k : goal.invariant-loop-k
invariant-loop-k l = AllZip IsPair (take l.k (map (λ w. w.now) l.parts)) l.pairs
