use Rattle.std.proofs.Common.{◌≢◌, ℕ, ◌<◌, Some, slice_get}
use Rattle.gate_model.specs.Functions.{function_names}
use Rattle.gate_model.proofs.function.function_named.Given as goal

abbrev pub invariant-loop-number : goal.invariant-loop-number
invariant-loop-number l = (k : ℕ) → k < l.number → slice_get (function_names l.inputs) k ≢ Some l.name
