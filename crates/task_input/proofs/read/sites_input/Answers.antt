use Rattle.std.proofs.Common.{◌∙◌, ap}
use Rattle.task_input.specs.Input.{about_layout}
use Rattle.task_input.proofs.read.sites_input.Goals as goal

pub returns-clause-found : goal.returns-clause-found
returns-clause-found c =
    let layout = c.in_ok-found.found.layout in
    record {
      layout = layout;
      text = c.in_ok-found.ensures.found;
      gives = c.in_ok-layout_input.ensures.gives;
      told = c.in_ok-layout_input.ensures.told ∙ ap (λ n. about_layout layout n) c.in_ok-found.ensures.skipped;
    }
