use Rattle.std.proofs.Common.{◌≡◌, ◌++◌, eqb, length, map}
use Rattle.std.specs.List.{slice_split}
use Rattle.gate_model.proofs.parts.parts_in.Given as goal

abbrev pub invariant-loop-part : goal.invariant-loop-part
invariant-loop-part l =
    map (λ w. w.now) l.found.items ++ slice_split (λ b. eqb b l.byte) l.rest ≡ slice_split (λ b. eqb b l.byte) l.text

abbrev pub decreases-loop-part : goal.decreases-loop-part
decreases-loop-part l = length l.rest
