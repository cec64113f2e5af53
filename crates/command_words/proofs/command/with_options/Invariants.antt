use Rattle.std.proofs.Common.{◌≡◌, map, take}
use Rattle.clap.specs.Words.{app_of}
use Rattle.command_words.specs.Command.{with_options}
use Rattle.command_words.proofs.command.with_options.Given as goal

abbrev pub invariant-loop-name : goal.invariant-loop-name
invariant-loop-name l = app_of l.longer ≡ with_options (app_of l.initial.longer) (map (λ name. name.now) (take l.name-index l.names))
