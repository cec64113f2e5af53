use Rattle.std.proofs.Common.{◌∙◌, ap, [], ◌∷◌, refl, map}
use Rattle.std.proofs.lemmas.List.{map-append}
use Rattle.sqd_nesting.specs.Views.{opened_of}
use Rattle.sqd_nesting.proofs.nest.unclosed.Goals as goal

pub returns-clause-some : goal.returns-clause-some
returns-clause-some c = record {
  innermost = opened_of c.in-Some.open;
  others = map opened_of c.pop.new.self.items;
  opened = ap (λ items. map opened_of items) c.in-Some.ensures.items ∙ map-append opened_of c.pop.new.self.items (c.in-Some.open ∷ []);
  place = refl;
}
