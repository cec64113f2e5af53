use Rattle.std.proofs.Common.{◌≡◌, Ok, Err, arith, subst, sym, length}
use Rattle.charge_state.specs.declared.text.ChargeFault.TheVariants.{BadByte}
use Rattle.charge_state.specs.Text.{ReadsCharges}
use Rattle.charge_state.proofs.Readings.{reading_says, empty_breaks, point_breaks, point_reads}
use Rattle.charge_state.proofs.text.read_charges.Goals as goal

pub returns-then-is_empty : goal.returns-then-is_empty
returns-then-is_empty c =
    let none : length c.args.text.now ≡ 0 = grind arith in
    let says = reading_says c.args.text.now (Err (BadByte 0)) (empty_breaks c.args.text.now none) in
    record { read = says.read; bad_byte = says.bad_byte; too_long = says.too_long }

pub returns-then-text-ne-POINT : goal.returns-then-text-ne-POINT
returns-then-text-ne-POINT c =
    let says = reading_says c.args.text.now c.read_signs.result c.read_signs.ensures in
    record { read = says.read; bad_byte = says.bad_byte; too_long = says.too_long }

pub returns-then-text-gt1 : goal.returns-then-text-gt1
returns-then-text-gt1 c =
    let says = reading_says c.args.text.now (Err (BadByte 1)) (point_breaks c.args.text.now c.if-text-gt1.true c.if-text-ne-POINT.false) in
    record { read = says.read; bad_byte = says.bad_byte; too_long = says.too_long }

pub returns : goal.returns
returns c =
    let one : length c.args.text.now ≡ 1 = grind arith in
    let reads = point_reads c.args.text.now one c.if-text-ne-POINT.false in
    let says = reading_says c.args.text.now (Ok c.empty.result) (subst (ReadsCharges c.args.text.now) (sym c.empty.ensures) reads) in
    record { read = says.read; bad_byte = says.bad_byte; too_long = says.too_long }
