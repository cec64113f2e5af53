use Rattle.std.proofs.Common.{◌∙◌, ap, sym, ℕ, List, ◌++◌, string_bytes}
use Rattle.sim_report.proofs.Whole.{whole}
use Rattle.sim_report.proofs.report.titled.Goals as goal

pub returns : goal.returns
returns c rows titled =
    let body = c.in_ok-push_str.ensures.bytes ∙ ap (λ (t : List ℕ). string_bytes c.in_ok-text.text ++ t) c.deref.ensures in
    whole rows c.args.about.now c.args.problem.now c.args.list.now c.args.energies c.len.result _ _ _ _ (c.in_ok-text.ensures rows titled) (sym c.len.ensures.value) c.in_ok-entries.ensures body c.in_ok-push_str-2.ensures.bytes
