use Rattle.std.proofs.Common.{arith}
use Rattle.sidb_units.proofs.RoundTrip.{reads_back}
use Rattle.sidb_units.proofs.laws.printed_numbers_are_read.Goals as goal

pub returns : goal.returns
returns c = λ n places least greatest small from to. reads_back n places least greatest (omega arith) from to
