use Rattle.std.proofs.Common.{subst}
use Rattle.std.specs.Prelude.{◌↔◌, IsTrue, ◌<ℤ◌}
use Rattle.std.proofs.lemmas.Bool.{false≢true}
use Rattle.std.proofs.lemmas.Result.{IfOk-weaker}
use Rattle.charge_model.specs.Problem.{UnderEveryTable}
use Rattle.charge_model.specs.Rules.{energy}
use Rattle.charge_validity.specs.OwnMarks.{IsOwnMark}
use Rattle.window_model.specs.Windows.{raised_energy, BeatsBy}
use Rattle.candidate_marks.proofs.rivals.beats.Goals as goal

pub returns-in-Unresolved : goal.returns-in-Unresolved
returns-in-Unresolved c =
    let p = c.args.problem.now in
    let w = c.args.winner.now.charges in
    let decided = subst (IsOwnMark p w) c.in-Unresolved.is c.requires.winner.own in (
      λ e. absurd (false≢true e),
      λ b. absurd (c.decided_lists_are_not_certain.ensures p w _ decided b.certain),
    )

pub returns-in-Certain : goal.returns-in-Certain
returns-in-Certain c =
    let p = c.args.problem.now in
    let window = c.args.window.now.width in
    let w = c.args.winner.now.charges in
    let x = c.args.candidate.now.charges in
    let certain = subst (IsOwnMark p w) c.in-Certain.is c.requires.winner.own in
    IfOk-weaker c.is_lower.result (λ b. IsTrue b ↔ UnderEveryTable p (λ t. raised_energy p window t w <ℤ energy p t x)) (λ b. IsTrue b ↔ BeatsBy p window w x)
    (λ b same. (λ e. record { is_list = c.requires.winner.list.is_list; certain = certain; lower = same.0 e }, λ beats. same.1 beats.lower)) c.is_lower.ensures
