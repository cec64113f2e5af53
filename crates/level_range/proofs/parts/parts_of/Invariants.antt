use Rattle.std.proofs.Common.{pos, ◌+ℤ◌, ◌-ℤ◌, map, unsigned_abs}
use Rattle.level_range.specs.Seen.{outcome_of, printed_of}
use Rattle.level_range_laws.specs.Building.{AreBuilt}
use Rattle.level_range.proofs.parts.parts_of.Given as goal

abbrev pub invariant-runs : goal.invariant-runs
invariant-runs l = AreBuilt l.problem l.levels (map printed_of l.done.items) l.first.value (map outcome_of l.entries.items) l.level.value

abbrev pub decreases-runs : goal.decreases-runs
decreases-runs l = unsigned_abs ((l.levels.last +ℤ pos 1) -ℤ l.level.value)
