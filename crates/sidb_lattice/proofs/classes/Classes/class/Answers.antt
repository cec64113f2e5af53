use Rattle.std.proofs.Common.{◌≡◌, ◌+◌, ◌-◌, ◌<◌, suc, min, max, length, arith, ap, ◌∙◌, slice_index}
use Rattle.std.proofs.lemmas.List.{get_or_read}
use Rattle.charge_model.specs.Problem.{pairs_before}
use Rattle.sidb_lattice.specs.Classes.{class_between}
use Rattle.charge_model.proofs.Pairs.{place_in_order, place_turned}
use Rattle.sidb_lattice.proofs.classes.Classes.class.Goals as goal
use Rattle.sidb_lattice.proofs.classes.Classes.class.Goals.{then-i-j, else-i-j}

pub returns-clause-value : goal.returns-clause-value
unfolding class_between
returns-clause-value c =
    let n = c.self.inside.sites in
    let i = c.args.i in
    let j = c.args.j in
    let place : c.if-i-j.place ≡ pairs_before n (min i j) + (max i j - suc (min i j)) =
    elim c.if-i-j.branch [
      | then-i-j w ↦ omega (arith, place_in_order n i j (omega arith))
      | else-i-j w ↦ omega (arith, place_turned n i j (omega arith))
    ] in
    let in_range : c.if-i-j.place < length c.self.inside.pair_classes.items =
    elim c.if-i-j.branch [
      | then-i-j w ↦ omega (arith, c.self.invariant.class_per_pair)
      | else-i-j w ↦ omega (arith, c.self.invariant.class_per_pair)
    ] in
    let read = get_or_read c.self.inside.pair_classes.items _ _ in_range c.index.ensures 0 in
    rw (← c.self.view_is) (read ∙ ap (slice_index c.self.inside.pair_classes.items) place)
