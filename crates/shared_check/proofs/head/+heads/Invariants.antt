use Rattle.std.proofs.Common.{◌-◌, ◌*◌, ◌+◌, length}
use Rattle.shared_check.proofs.head.+heads.Given as goal

-- three calls for each charge that is left
abbrev pub decreases-share_under : goal.decreases-share_under
decreases-share_under l = 3 * (l.setting.now.problem.sites - length l.prefix.now) + 2

abbrev pub decreases-share_children : goal.decreases-share_children
decreases-share_children l = 3 * (l.setting.now.problem.sites - length l.prefix.now) + 1

abbrev pub decreases-share_child : goal.decreases-share_child
decreases-share_child l = 3 * (l.setting.now.problem.sites - length l.prefix.now)
