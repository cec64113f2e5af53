use Rattle.std.proofs.Common.{ℤ}
use Rattle.sidb_layout.specs.declared.site.Site.{Site}
use Rattle.sidb_layout.specs.Site.{IsInRange}
use Rattle.std.proofs.Common.{◌+◌, ◌≤◌, unsigned_abs}
use Rattle.sidb_layout.proofs.Positions.{ArePart, are_read, size-position, atom_is_small}
use Rattle.sidb_layout.proofs.geometry.position.Goals as goal

part : (place : Site) (a b c : ℤ) → IsInRange place → unsigned_abs a + unsigned_abs b ≤ 800
    → unsigned_abs c ≤ 400 → ArePart place.n place.m place.l a b c
part place a b c h steps offset = record {
  column = h.column;
  row = h.row;
  atom = atom_is_small place.l h.atom;
  steps = steps;
  offset = offset;
}

pub overflow_add-result : goal.overflow_add-result
overflow_add-result c =
    (are_read _ _ _ _ _ _ (part c.args.place c.args.column c.args.row c.args.atom c.requires.place c.requires.steps c.requires.offset)).first_sum

pub overflow_add-result-2 : goal.overflow_add-result-2
overflow_add-result-2 c =
    (are_read _ _ _ _ _ _ (part c.args.place c.args.column c.args.row c.args.atom c.requires.place c.requires.steps c.requires.offset)).second_sum

pub returns-clause-value : goal.returns-clause-value
returns-clause-value c =
    (are_read _ _ _ _ _ _ (part c.args.place c.args.column c.args.row c.args.atom c.requires.place c.requires.steps c.requires.offset)).value

pub returns-clause-within : goal.returns-clause-within
returns-clause-within c =
    let h = part c.args.place c.args.column c.args.row c.args.atom c.requires.place c.requires.steps c.requires.offset in
    rw ((are_read _ _ _ _ _ _ h).value) (size-position _ _ _ _ _ _ h)
