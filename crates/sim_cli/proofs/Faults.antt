-- faults of the outside and the counts that tell of them
use Rattle.std.proofs.Common.{◌≡◌, ◌≢◌, ◌<◌, ℕ, List, Err, arith, inl, inr}
use Rattle.sidb_io.specs.declared.read_whole.ReadAllFault.{ReadAllFault}
use Rattle.sidb_io.specs.declared.read_whole.ReadAllFault.TheVariants.{Memory as NoMemory, ReadFault as FailedRead, TooLong}
use Rattle.sidb_io.specs.Outside.{HasFault, last_count}
use Rattle.sidb_io.specs.Whole.{IsCountAfterAll}
use Rattle.run_answer.specs.declared.status.Status.{Status}
use Rattle.run_answer.specs.declared.status.Status.TheVariants.{ReadFault, WriteFault}
use Rattle.sim_cli.specs.Run.{IsReadFault, ReadFaults, TellsFaults, WriteFaults}

-- a count that stands below its last value where it was had no fault
no_fault_counted : (before after : ℕ) → after ≡ before → before < last_count → HasFault before after → ⊥
no_fault_counted before after same below (inl more) = omega (arith, same, more)
no_fault_counted before after same below (inr last) = omega (arith, same, last, below)

pub read_faults : (words : List (List ℕ)) (result : Status) (before after : ℕ) → TellsFaults ReadFault result (IsReadFault words before after) before after → ReadFaults words result before after
read_faults words result before after told = record {
  told = told;
  steady = λ same below e. no_fault_counted before after same below (told.failed e).counted;
}

pub write_faults : (result : Status) (before after : ℕ) → TellsFaults WriteFault result (HasFault before after) before after → WriteFaults result before after
write_faults result before after told = record {
  told = told;
  steady = λ same below e. no_fault_counted before after same below (told.failed e);
}

-- an input that is too long, and want of memory, count no fault
pub long_is_quiet : (A : Type 0) → (before after : ℕ) (fault : ReadAllFault) → fault ≡ TooLong → IsCountAfterAll {A = A} before after (Err fault) → after ≡ before
long_is_quiet A before after FailedRead same count = absurd (cc)
long_is_quiet A before after TooLong same count = count
long_is_quiet A before after NoMemory same count = count

pub want_of_memory_is_quiet : (A : Type 0) → (before after : ℕ) (fault : ReadAllFault) → fault ≡ NoMemory → IsCountAfterAll {A = A} before after (Err fault) → after ≡ before
want_of_memory_is_quiet A before after FailedRead same count = absurd (cc)
want_of_memory_is_quiet A before after TooLong same count = count
want_of_memory_is_quiet A before after NoMemory same count = count
