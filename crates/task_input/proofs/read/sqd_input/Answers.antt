use Rattle.task_input.proofs.read.sqd_input.Goals as goal

pub returns-clause-found : goal.returns-clause-found
returns-clause-found c = record {
  layout = c.in_ok-found.found.layout;
  skipped = c.in_ok-found.found.skipped;
  text = c.in_ok-found.ensures.found;
  gives = c.in_ok-layout_input.ensures.gives;
  told = c.in_ok-layout_input.ensures.told;
}
