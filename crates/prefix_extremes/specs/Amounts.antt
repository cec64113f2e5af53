-- amounts that may be missing
use Rattle.std.specs.Prelude.{ℤ, Option, Some, None}
use Rattle.prefix_extremes.specs.declared.amount.Amount.{Amount}

-- the value of an amount, where there is one
abbrev pub amount_value : Option Amount → Option ℤ
amount_value None = None
amount_value (Some a) = Some a.value
