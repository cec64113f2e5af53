use Rattle.std.proofs.Common.{sym, subst}
use Rattle.written_tokens.specs.Guiding.{IsTokenAt}
use Rattle.shared_check.proofs.setting.Setting.token_at.Goals as goal

pub returns-then-passed-clause-only : goal.returns-then-passed-clause-only
returns-then-passed-clause-only c = λ other at.
    c.in_ok-token.ensures.only other
    (subst (λ q. IsTokenAt c.self.inside.guide q other) (sym c.in_ok-track.ensures.prefix) (subst (λ g. IsTokenAt g c.args.prefix.now other) (sym c.self.view_is) at))
