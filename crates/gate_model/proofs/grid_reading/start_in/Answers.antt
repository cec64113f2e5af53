use Rattle.std.proofs.Common.{sym, subst, w64}
use Rattle.std.proofs.lemmas.Int.{to_z-of_z}
use Rattle.std.specs.Int.RustNames.{FitsSigned}
use Rattle.sidb_units.specs.Decimal.{IsReadAs}
use Rattle.gate_model.proofs.grid_reading.start_in.Goals as goal

pub returns-in-Err-clause-none : goal.returns-in-Err-clause-none
returns-in-Err-clause-none c =
    let least_fits : FitsSigned w64 c.least_of-least.result = record { sfits = c.least_of-least.type_inv } in
    let greatest_fits : FitsSigned w64 c.greatest_of-greatest.result = record { sfits = c.greatest_of-greatest.type_inv } in
    let value = simp to_z-of_z at c.in-Err.ensures.value in
    λ v is. absurd (cc (value v (subst (λ g. IsReadAs c.args.word.now c.args.quantity.now.places c.least_of-least.result g v) (sym c.greatest_of-greatest.ensures)
    (subst (λ l. IsReadAs c.args.word.now c.args.quantity.now.places l c.args.quantity.now.greatest v) (sym c.least_of-least.ensures) is))))
