use Rattle.std.proofs.Common.{◌≡◌, ◌≢◌, ◌∙◌, sym, ap, [], ◌∷◌, refl, inr, true, map}
use Rattle.std.proofs.lemmas.List.{map-append}
use Rattle.std.proofs.lemmas.Slice.Eq.{bytes_eq-Decides}
use Rattle.sqd_nesting.specs.Views.{opened_of}
use Rattle.sqd_nesting.proofs.nest.end.Goals as goal

pub returns-then-eq-clause-ok : goal.returns-then-eq-clause-ok
returns-then-eq-clause-ok c = record {
  innermost = opened_of c.in-Some.open;
  opened = ap (λ items. map opened_of items) c.in-Some.ensures.items ∙ map-append opened_of c.pop.new.self.items (c.in-Some.open ∷ []);
  named = (bytes_eq-Decides c.in-Some.open.name.now c.args.name.now).0 (sym c.eq.ensures ∙ c.if-eq.true);
  rooted = refl;
}

pub returns-clause-err : goal.returns-clause-err
returns-clause-err c =
    let other : c.in-Some.open.name.now ≢ c.args.name.now = λ e.
    let yes : c.eq.result ≡ true = c.eq.ensures ∙ (bytes_eq-Decides c.in-Some.open.name.now c.args.name.now).1 e in
    cc (yes, c.if-eq.false) in (
      refl,
      inr (record {
        innermost = opened_of c.in-Some.open;
        others = map opened_of c.pop.new.self.items;
        opened = ap (λ items. map opened_of items) c.in-Some.ensures.items ∙ map-append opened_of c.pop.new.self.items (c.in-Some.open ∷ []);
        named = other;
      }),
    )
