-- whether each site may be positive
use Rattle.std.specs.Prelude.{◌≡◌, ℕ, ◌<◌, Bool, false, slice_index_or}
use Rattle.charge_model.specs.Problem.{Problem}
use Rattle.charge_model.specs.Prefixes.{may_be_positive}
use Rattle.prefix_extremes.specs.declared.flags.Flags.{Flags}

-- the flag of site k
abbrev pub flag_at : Flags → ℕ → Bool
flag_at flags k = slice_index_or flags.may k false

-- the flags of the sites below n
pub record AreFlags (p : Problem) (n : ℕ) (flags : Flags) : Type 0 where
  pub each : (k : ℕ) → k < n → flag_at flags k ≡ may_be_positive p k
