use Rattle.command_words.proofs.laws.one_meaning.Goals as goal

pub returns : goal.returns
returns c = λ words a b means also. c.one_groups.ensures _ a b means.values.groups also.values.groups
