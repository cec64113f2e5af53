use Rattle.std.proofs.Common.{sym, refl, ◌∷◌}
use Rattle.std.proofs.lemmas.Result.{on_ok_weaker}
use Rattle.sqd_elements.specs.Elements.{element_at}
use Rattle.sqd_dots.proofs.ReaderLemmas.{begun, inside_both, reader}
use Rattle.sqd_dots.proofs.reader.DotsReader.begin.Goals as goal

pub returns-clause-at : goal.returns-clause-at
returns-clause-at c = λ around tag tags around_tags more es h sort inside.
    let all = inside_both c.kept_of_one.ensures c.kept_of_both.ensures tag tags c.args.sort c.of_sort.result c.args.inside c.with.result sort inside c.of_sort.ensures c.with.ensures in
    let here = element_at c.args.at around tag tags in
    let seen = c.see.ensures.seen here es h.tally refl sort inside (sym (c.is_layer-in_layer.ensures around h.names)) in
    on_ok_weaker c.see.result (λ t. begun c.kept_of_both.ensures c.args.self.now (reader c.add.new.self c.see.new.self) around tag tags around_tags more es (here ∷ es) c.with.result h c.add.ensures all t) seen
