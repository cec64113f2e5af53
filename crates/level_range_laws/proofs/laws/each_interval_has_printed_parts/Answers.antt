use Rattle.level_range_laws.proofs.Exist.{parts_exist}
use Rattle.level_range_laws.proofs.laws.each_interval_has_printed_parts.Goals as goal

pub returns : goal.returns
returns c = parts_exist
