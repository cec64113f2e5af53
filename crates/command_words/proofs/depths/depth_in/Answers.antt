use Rattle.command_words.proofs.depths.depth_in.Goals as goal

pub returns-in-Err-clause-none : goal.returns-in-Err-clause-none
returns-in-Err-clause-none c = λ v is. absurd (cc (c.in-Err.ensures.value v is))
