use Rattle.command_words.proofs.ListLemmas.{one_more_word}
use Rattle.command_words.proofs.words.full_list.Goals as goal

pub loop-at-preserved : goal.loop-at-preserved
loop-at-preserved c =
    one_more_word c.loop-at.texts.items _ c.at.result c.args.words.now c.loop-at.at c.loop-at.invariant c.in_ok-push-2.ensures.items c.at.ensures
