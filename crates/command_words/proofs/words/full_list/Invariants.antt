use Rattle.std.proofs.Common.{◌≡◌, map, take}
use Rattle.command_words.specs.Command.{full_words}
use Rattle.command_words.proofs.words.full_list.Given as goal

abbrev pub invariant-loop-at : goal.invariant-loop-at
invariant-loop-at l = map (λ text. text.now) l.texts.items ≡ full_words (take l.at l.words)
