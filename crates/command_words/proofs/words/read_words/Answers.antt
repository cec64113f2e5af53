use Rattle.std.proofs.Common.{◌≡◌, ◌∙◌, sym, ap, subst, List, [], map, inl, inr}
use Rattle.clap.specs.Words.{App, Text, app_of, Kinds, HasKind}
use Rattle.clap.specs.Faults.{fault_of, is_simple_and_free}
use Rattle.clap.specs.Simple.{is_simple}
use Rattle.command_words.specs.Command.{sidb_command, full_words, refusals_of}
use Rattle.command_words.proofs.SettingLemmas.{command_is_free, command_is_simple, values_of_matches, settings_found, no_settings_found}
use Rattle.command_words.proofs.words.read_words.Goals as goal

pub returns-in-Ok-clause-found : goal.returns-in-Ok-clause-found
unfolding refusals_of
returns-in-Ok-clause-found c =
    let app : App = app_of c.in_ok-command.command in
    let is : app ≡ sidb_command = c.in_ok-command.ensures in
    let texts : List Text = map (λ text. text.now) c.as_slice.result.now in
    let are : texts ≡ full_words c.args.words.now = ap (map (λ text. text.now)) c.as_slice.ensures.value ∙ c.in_ok-texts.ensures in
    let rows = (c.in-Ok.ensures.matches (ap is_simple is ∙ command_is_simple)).0 in
    let same = values_of_matches app c.args.words.now texts c.in-Ok.matches is are rows in
    let none : fault_of app texts ≡ [] = c.in-Ok.ensures.kinds (ap is_simple_and_free is ∙ command_is_free) in
    let taken : refusals_of c.args.words.now ≡ [] = sym (ap (λ (a : App). fault_of a texts) is ∙ ap (fault_of sidb_command) are) ∙ none in
    settings_found c.args.words.now _ c.settings_in.result same taken c.settings_in.ensures.found

pub returns-in-Ok-clause-none : goal.returns-in-Ok-clause-none
returns-in-Ok-clause-none c =
    let app : App = app_of c.in_ok-command.command in
    let is : app ≡ sidb_command = c.in_ok-command.ensures in
    let texts : List Text = map (λ text. text.now) c.as_slice.result.now in
    let are : texts ≡ full_words c.args.words.now = ap (map (λ text. text.now)) c.as_slice.ensures.value ∙ c.in_ok-texts.ensures in
    let rows = (c.in-Ok.ensures.matches (ap is_simple is ∙ command_is_simple)).0 in
    no_settings_found c.args.words.now _ c.settings_in.result (values_of_matches app c.args.words.now texts c.in-Ok.matches is are rows) c.settings_in.ensures.none

pub returns : goal.returns
unfolding refusals_of
returns c =
    let app : App = app_of c.in_ok-command.command in
    let is : app ≡ sidb_command = c.in_ok-command.ensures in
    let texts : List Text = map (λ text. text.now) c.as_slice.result.now in
    let are : texts ≡ full_words c.args.words.now = ap (map (λ text. text.now)) c.as_slice.ensures.value ∙ c.in_ok-texts.ensures in
    let kinds = c.in-Err.ensures.kinds (ap is_simple_and_free is ∙ command_is_free) in
    let same : fault_of app texts ≡ refusals_of c.args.words.now = ap (λ (a : App). fault_of a texts) is ∙ ap (fault_of sidb_command) are in
    record {
      found = tt;
      none = λ s means. elim (subst (λ (k : Kinds). HasKind k c.in-Err.error) (same ∙ means.taken) kinds) [
        | inl memory ↦ absurd (c.in_default.not-OutOfMemory (c.kind.ensures ∙ memory))
        | inr among ↦ among
      ];
    }
