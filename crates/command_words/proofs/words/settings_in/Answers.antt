use Rattle.std.proofs.Common.{Bool, MatchBool, subst}
use Rattle.command_words.specs.declared.settings.Settings.{Settings}
use Rattle.command_words.specs.Settings.{HasNeeds}
use Rattle.command_words.proofs.words.settings_in.Goals as goal

pub returns-then-not-branch-clause-none : goal.returns-then-not-branch-clause-none
returns-then-not-branch-clause-none c = λ s are.
    let found : Settings = c.in-Some-groups_in.settings in
    let same = c.one_groups.ensures _ s found are.groups c.in-Some-groups_in.ensures.found in
    let lacks = subst (λ (b : Bool). MatchBool b (HasNeeds found.task found) (HasNeeds found.task found → ⊥)) c.if-not-branch.true c.in_ok-has_needs.ensures in
    lacks (subst (λ (u : Settings). HasNeeds u.task u) same are.needs)
