use Rattle.std.proofs.Common.{◌≤◌, inr, subst}
use Rattle.level_range_laws.specs.declared.interval.Interval.{Interval}
use Rattle.level_range_laws.specs.RangePrefixes.{range_prefix_count}
use Rattle.level_candidates.specs.Answer.{HasManyCandidates}
use Rattle.level_range.specs.Answer.{AreListed}
use Rattle.task_levels.proofs.RangeDue.{same_levels}
use Rattle.task_levels.proofs.range.due_between.Goals as goal

pub parts_due-requires : goal.parts_due-requires
parts_due-requires c = subst (λ (levels : Interval). AreListed c.args.problem.now levels c.args.limit c.in-List.parts) (same_levels c.args.range) c.in-List.ensures

pub returns-in-ListTooLong : goal.returns-in-ListTooLong
returns-in-ListTooLong c =
    let p = c.args.problem.now in
    let long = subst (λ (levels : Interval). (range_prefix_count p levels ≤ c.args.limit) × HasManyCandidates p levels) (same_levels c.args.range) c.in-ListTooLong.ensures in
    record {
      ends = c.long_list_due.ensures.ends;
      answers = λ text is. inr (inr (long.0, long.1, c.long_list_due.ensures.answers text is));
    }
