use Rattle.std.proofs.Common.{◌≡◌, ◌∙◌, ap, codes}
use Rattle.std.proofs.lemmas.Result.{IfOk-weaker}
use Rattle.clap.specs.Words.{App, Rule, with_rule}
use Rattle.command_words.specs.Command.{flag_rule, sidb_command, with_options, option_names}
use Rattle.command_words.proofs.command.simple_command.Goals as goal

-- one more rule on a command whose rules are known
more : (a b c : App) (r : Rule) → a ≡ with_rule b r → b ≡ c → a ≡ with_rule c r
more a b c r e d = e ∙ ap (λ (x : App). with_rule x r) d

pub returns : goal.returns
unfolding sidb_command
returns c =
    let named = ap (λ (a : App). with_options a option_names) c.new-command.ensures.app in
    let options = c.in_ok-command.ensures ∙ named in
    let json = more _ _ _ (flag_rule (codes "json")) c.in_ok-command-2.ensures options in
    IfOk-weaker c.with_flag-2.result _ _ (λ k made. more _ _ _ (flag_rule (codes "energies")) made json) c.with_flag-2.ensures
