use Rattle.prefix_rows.proofs.Depths.{rows_popped, parts_popped}
use Rattle.prefix_rows.proofs.LimitLemmas.{limits_popped}
use Rattle.prefix_rows.proofs.laws.shorter_prefixes_keep_tables.Goals as goal

pub returns : goal.returns
returns c = record { rows = rows_popped; parts = parts_popped; limits = limits_popped }
