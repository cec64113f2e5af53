use Rattle.command_words.proofs.ListLemmas.{one_more_option}
use Rattle.command_words.proofs.command.with_options.Goals as goal

pub loop-name-preserved : goal.loop-name-preserved
loop-name-preserved c =
    one_more_option _ _ _ c.args.names.now c.loop-name.name-index _ c.loop-name-test.true c.loop-name.invariant c.in_ok-longer.ensures
