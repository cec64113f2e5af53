use Rattle.std.proofs.Common.{subst}
use Rattle.std.specs.Prelude.{All, MatchOption}
use Rattle.gate_model.specs.Logic.{places_in}
use Rattle.task_gate.specs.GateSite.{ArePlacesBelow, IsFirstFrom}
use Rattle.task_gate.proofs.Places.{site_of_inputs, site_of_outputs}
use Rattle.task_gate.proofs.sites.gate_site.Goals as goal

pub returns-in-Some-clause-site : goal.returns-in-Some-clause-site
returns-in-Some-clause-site c = site_of_inputs c.args.gate.now c.args.layout.now.sites c.len-sites.result c.in-Some.place c.len-sites.ensures.value
    (subst (λ ps. IsFirstFrom c.len-sites.result (places_in ps) c.in-Some.place) c.input_pairs.ensures c.in-Some.ensures)

pub returns-in-None-clause-site : goal.returns-in-None-clause-site
returns-in-None-clause-site c = site_of_outputs c.args.gate.now c.args.layout.now.sites c.len-sites.result c.outside_in-in-None.result c.len-sites.ensures.value
    (subst (All (ArePlacesBelow c.len-sites.result)) c.input_pairs.ensures c.in-None.ensures)
    (subst (λ ps. MatchOption c.outside_in-in-None.result (All (ArePlacesBelow c.len-sites.result) ps) (IsFirstFrom c.len-sites.result (places_in ps))) c.output_pairs.ensures c.outside_in-in-None.ensures)
