use Rattle.std.proofs.Common.{ℤ, IfOk, IfErr, Result, rules, to_z, w64}
use Rattle.sidb_units.specs.declared.decimal_fault.DecFault.{DecFault}
use Rattle.sidb_units.specs.Decimal.{HasDecimalFault, IsReadAs}
use Rattle.sidb_units.proofs.ReadingLemmas.{faults, only_value, only_fault}
use Rattle.sidb_units.proofs.decimal_reading.read_dec.Goals as goal

pub returns-in_err-value-clause-value : goal.returns-in_err-value-clause-value
returns-in_err-value-clause-value c =
    let r : Result ℤ DecFault = c.from_residual.result in
    let ok : IfOk r (IsReadAs c.args.text.now c.args.places c.args.least c.args.greatest) = search rules in
    let err : IfErr r (HasDecimalFault c.args.text.now c.args.places c.args.least c.args.greatest) = search rules in
    only_value c.args.text.now c.args.places c.args.least c.args.greatest r ok err

pub returns-in_err-value-clause-fault : goal.returns-in_err-value-clause-fault
returns-in_err-value-clause-fault c =
    let r : Result ℤ DecFault = c.from_residual.result in
    let ok : IfOk r (IsReadAs c.args.text.now c.args.places c.args.least c.args.greatest) = search rules in
    let err : IfErr r (HasDecimalFault c.args.text.now c.args.places c.args.least c.args.greatest) = search rules in
    only_fault c.args.text.now c.args.places c.args.least c.args.greatest r ok err

pub returns-clause-fault : goal.returns-clause-fault
returns-clause-fault c e fault =
    let number : ℤ = to_z w64 c.in_ok-value.value in
    let read : IsReadAs c.args.text.now c.args.places c.args.least c.args.greatest number = search rules in
    absurd (faults c.args.text.now c.args.places c.args.least c.args.greatest number e read fault)
