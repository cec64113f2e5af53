use Rattle.command_words.proofs.DepthLemmas.{more_than_two}
use Rattle.command_words.proofs.depths.ends_in.Goals as goal

pub returns-in-Some-clause-none : goal.returns-in-Some-clause-none
returns-in-Some-clause-none c =
    more_than_two _ c.args.text.now c.in_ok-first.second.now c.in-Some.field-0.1.now _ _ c.in_ok-first.ensures.parts c.in-Some.ensures.parts
