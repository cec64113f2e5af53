use Rattle.std.proofs.Common.{ℕ, ◌<◌, ◌≤ℤ◌}
use Rattle.charge_model.specs.Problem.{hi_in, lo_in}
use Rattle.narrower_lists.proofs.narrower.are_spans_within.Given as goal

abbrev pub invariant-loop-class : goal.invariant-loop-class
invariant-loop-class l = (c : ℕ) → c < l.class → (lo_in l.wide.spans c ≤ℤ lo_in l.narrow.spans c) × (hi_in l.narrow.spans c ≤ℤ hi_in l.wide.spans c)
