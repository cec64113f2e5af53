use Rattle.std.proofs.Common.{subst, ◌∙◌, ap, ◌+◌}
use Rattle.prefix_rows.specs.Tables.{AreRowsOf}
use Rattle.prefix_rows.proofs.Depths.{rows_advanced}
use Rattle.prefix_rows.proofs.rows.advance.Goals as goal

pub returns : goal.returns
returns c =
    let parts = c.split_at_mut-done in
    rows_advanced c.args.problem.now c.args.prefix.now c.args.charge _ _ c.write_next.new.next (parts.ensures.front_len ∙ ap (λ n. n + 1) c.len-depth.ensures.value) c.requires.room
    (subst (AreRowsOf c.args.problem.now c.args.prefix.now) parts.ensures.value c.requires.rows) c.write_next.ensures
