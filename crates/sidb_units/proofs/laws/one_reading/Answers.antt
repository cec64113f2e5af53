use Rattle.sidb_units.proofs.ReadingLemmas.{values, faults, one}
use Rattle.sidb_units.proofs.SomeReading.{some_reading}
use Rattle.sidb_units.proofs.laws.one_reading.Goals as goal

pub returns : goal.returns
returns c = record {
  some = some_reading;
  value = values;
  no_fault = λ text places least greatest v e read fault. faults text places least greatest v e read fault;
  fault = one;
}
