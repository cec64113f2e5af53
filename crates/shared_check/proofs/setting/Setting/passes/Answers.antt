use Rattle.std.proofs.Common.{◌∙◌, ap, subst}
use Rattle.certificate_model.specs.declared.refusal.CloseWhy.TheVariants.{Shape}
use Rattle.certificate_model.specs.Tokens.{HasShape}
use Rattle.entry_facts.specs.Facts.{lists_of_facts}
use Rattle.token_tests.specs.Testing.{IsTested}
use Rattle.shared_check.proofs.setting.Setting.passes.Goals as goal

pub returns-in-None : goal.returns-in-None
returns-in-None c = λ yes.
    let passes = subst (IsTested c.problem.result.now c.self.inside.window.width (lists_of_facts c.as_slice.result.now) c.args.track.now.prefix c.args.token) c.in-None.is c.in_ok-first_failing.ensures in
    subst (λ p. HasShape p c.args.track.now.prefix c.args.token) (c.problem.ensures ∙ ap (λ g. g.problem) c.self.view_is) (passes Shape)
