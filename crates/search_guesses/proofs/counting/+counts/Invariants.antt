use Rattle.std.proofs.Common.{◌-◌, ◌*◌, ◌+◌, length}
use Rattle.search_guesses.proofs.counting.+counts.Given as goal

-- two calls for each charge that is left
abbrev pub decreases-count_prefix : goal.decreases-count_prefix
decreases-count_prefix l = 2 * (l.problem.now.sites - length l.track.now.prefix) + 1

abbrev pub decreases-count_child : goal.decreases-count_child
decreases-count_child l = 2 * (l.problem.now.sites - length l.track.now.prefix)
