use Rattle.std.proofs.Common.{◌*◌, ◌+◌}
use Rattle.shared_leaves.proofs.sharing.+sharing.Given as goal

-- three calls for each charge that is put on
abbrev pub decreases-share_child : goal.decreases-share_child
decreases-share_child l = 3 * l.more + 1

abbrev pub decreases-share_node : goal.decreases-share_node
decreases-share_node l = 3 * l.more + 2

abbrev pub decreases-share_prefix : goal.decreases-share_prefix
decreases-share_prefix l = 3 * l.more
