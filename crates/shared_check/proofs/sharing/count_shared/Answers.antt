use Rattle.shared_check.proofs.Shares.{whole_counted}
use Rattle.shared_check.proofs.sharing.count_shared.Goals as goal

pub returns : goal.returns
returns g c =
    whole_counted c.args.setting.now c.in-Ok.few c.empty.result c.new-tasks.result.items c.share_under.new.tasks.items c.as_slice.result.now c.in_ok-counts.counts.items c.as_slice-2.result.now c.added.result
    c.empty.ensures c.new-tasks.ensures.items c.as_slice.ensures.value c.as_slice-2.ensures.value c.in-Ok.ensures.shared c.in_ok-counts.ensures c.added.ensures
