use Rattle.std.proofs.Common.{◌≡◌, ◌∙◌, sym, subst}
use Rattle.std.proofs.lemmas.Result.{IfOk-weaker}
use Rattle.potential_problem.specs.Made.{problem_from}
use Rattle.screened_coulomb.specs.Layouts.{HoldsDistances, IsProblemOf}
use Rattle.screened_coulomb.proofs.LayoutLemmas.{AreParts, parts_hold, parts_problem, parts_valid}
use Rattle.screened_coulomb.proofs.layouts.problem.Goals as goal

pub problem_with-requires : goal.problem_with-requires
problem_with-requires c =
    let made = problem_from c.len.result c.pair_classes.result.now c.as_slice.result.now c.near_classes.result.now c.as_slice-2.result.now c.levels_of.result in
    let parts : AreParts c.args.layout.now c.args.p.now c.in_ok-classes.classes made = record {
      valid = c.len.ensures.layout;
      of_layout = c.in_ok-classes.ensures;
      sites = c.len.ensures.value;
      base = c.levels_of.ensures.base;
      mu_minus = c.levels_of.ensures.mu_minus;
      mu_plus = c.levels_of.ensures.mu_plus;
      fixed = c.as_slice.ensures.value ∙ c.in_ok-charges.ensures;
      pair_classes = c.pair_classes.ensures;
      near_classes = c.near_classes.ensures;
      spans = rw c.as_slice-2.ensures.value c.in_ok-spans.ensures;
    } in
    parts_valid c.args.layout.now c.args.p.now c.in_ok-classes.classes made parts

pub returns-clause-value : goal.returns-clause-value
returns-clause-value c =
    let made = problem_from c.len.result c.pair_classes.result.now c.as_slice.result.now c.near_classes.result.now c.as_slice-2.result.now c.levels_of.result in
    let parts : AreParts c.args.layout.now c.args.p.now c.in_ok-classes.classes made = record {
      valid = c.len.ensures.layout;
      of_layout = c.in_ok-classes.ensures;
      sites = c.len.ensures.value;
      base = c.levels_of.ensures.base;
      mu_minus = c.levels_of.ensures.mu_minus;
      mu_plus = c.levels_of.ensures.mu_plus;
      fixed = c.as_slice.ensures.value ∙ c.in_ok-charges.ensures;
      pair_classes = c.pair_classes.ensures;
      near_classes = c.near_classes.ensures;
      spans = rw c.as_slice-2.ensures.value c.in_ok-spans.ensures;
    } in
    IfOk-weaker c.problem_with.result (λ q. q ≡ made) (IsProblemOf c.args.layout.now c.args.p.now)
    (λ q is. subst (IsProblemOf c.args.layout.now c.args.p.now) (sym is) (parts_problem c.args.layout.now c.args.p.now c.in_ok-classes.classes made parts)) c.problem_with.ensures

pub returns-clause-holds : goal.returns-clause-holds
returns-clause-holds c =
    let made = problem_from c.len.result c.pair_classes.result.now c.as_slice.result.now c.near_classes.result.now c.as_slice-2.result.now c.levels_of.result in
    let parts : AreParts c.args.layout.now c.args.p.now c.in_ok-classes.classes made = record {
      valid = c.len.ensures.layout;
      of_layout = c.in_ok-classes.ensures;
      sites = c.len.ensures.value;
      base = c.levels_of.ensures.base;
      mu_minus = c.levels_of.ensures.mu_minus;
      mu_plus = c.levels_of.ensures.mu_plus;
      fixed = c.as_slice.ensures.value ∙ c.in_ok-charges.ensures;
      pair_classes = c.pair_classes.ensures;
      near_classes = c.near_classes.ensures;
      spans = rw c.as_slice-2.ensures.value c.in_ok-spans.ensures;
    } in
    IfOk-weaker c.problem_with.result (λ q. q ≡ made) (HoldsDistances c.args.layout.now c.args.p.now)
    (λ q is. subst (HoldsDistances c.args.layout.now c.args.p.now) (sym is) (parts_hold c.args.layout.now c.args.p.now c.in_ok-classes.classes made parts)) c.problem_with.ensures
