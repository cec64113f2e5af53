use Rattle.std.proofs.Common.{◌-◌, ◌*◌, ◌+◌, length}
use Rattle.tree_leaves.proofs.listing.+search.Given as goal

-- three calls for each charge that is left
abbrev pub decreases-visit : goal.decreases-visit
decreases-visit l = 3 * (l.problem.now.sites - length l.track.now.prefix) + 2

abbrev pub decreases-visit_children : goal.decreases-visit_children
decreases-visit_children l = 3 * (l.problem.now.sites - length l.track.now.prefix) + 1

abbrev pub decreases-visit_child : goal.decreases-visit_child
decreases-visit_child l = 3 * (l.problem.now.sites - length l.track.now.prefix)
