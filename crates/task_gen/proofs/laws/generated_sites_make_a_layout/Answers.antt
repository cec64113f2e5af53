use Rattle.task_gen.proofs.Layouts.{make_a_layout}
use Rattle.task_gen.proofs.laws.generated_sites_make_a_layout.Goals as goal

pub returns : goal.returns
returns c = make_a_layout (record {
  clear = c.clear_places_make_a_layout.ensures;
  roomy = c.default_lattice_is_roomy.ensures;
})
