use Rattle.std.proofs.Common.{FitsSigned, w64, sym, ◌∙◌}
use Rattle.std.proofs.lemmas.Int.{to_z-of_z}
use Rattle.std.proofs.lemmas.Bool.{false≢true}
use Rattle.sidb_layout.proofs.geometry.are_vectors.Goals as goal
use Rattle.sidb_layout.proofs.geometry.are_vectors.Goals.{then-are_steps, else-are_steps}

pub returns-then-are_steps-2 : goal.returns-then-are_steps-2
returns-then-are_steps-2 c =
    let fits_ax : FitsSigned w64 c.args.ax = c.ranges.ax in
    let fits_ay : FitsSigned w64 c.args.ay = c.ranges.ay in
    let fits_bx : FitsSigned w64 c.args.bx = c.ranges.bx in
    let fits_by : FitsSigned w64 c.args.by = c.ranges.by in
    let fits_cx : FitsSigned w64 c.args.cx = c.ranges.cx in
    let fits_cy : FitsSigned w64 c.args.cy = c.ranges.cy in
    let along_x = simp to_z-of_z at c.are_steps.ensures in
    let offset = simp to_z-of_z at c.is_offset.ensures in
    elim c.if-are_steps.branch [
      | then-are_steps w ↦
          let along_y = simp to_z-of_z at w.are_steps-then-are_steps.ensures in (
            λ t. record {
              x_steps = along_x.0 w.if-are_steps.true;
              y_steps = along_y.0 (sym w.value-is ∙ c.if-are_steps-2.true);
              x_offset = (offset.0 t).0;
              y_offset = (offset.0 t).1;
            },
            λ v. offset.1 (v.x_offset, v.y_offset),
          )
      | else-are_steps w ↦ absurd (false≢true (sym w.if-are_steps.false ∙ (sym w.value-is ∙ c.if-are_steps-2.true)))
    ]
