-- What reading a whole input does to the count of faults.
use Rattle.std.specs.Prelude.{◌≡◌, ℕ, ◌≤◌, Result, Ok, Err}
use Rattle.sidb_io.specs.declared.read_whole.ReadAllFault.{ReadAllFault}
use Rattle.sidb_io.specs.declared.read_whole.ReadAllFault.TheVariants.{Memory, ReadFault, TooLong}

-- the count of faults after a whole input was read with this answer: only a failed read may raise it
abbrev pub IsCountAfterAll : {A : Type 0} → ℕ → ℕ → Result A ReadAllFault → Type 0
IsCountAfterAll old new (Ok a) = new ≡ old
IsCountAfterAll old new (Err ReadFault) = old ≤ new
IsCountAfterAll old new (Err TooLong) = new ≡ old
IsCountAfterAll old new (Err Memory) = new ≡ old
