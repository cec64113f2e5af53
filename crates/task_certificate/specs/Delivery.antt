-- what a run is to write: a text that was made whole, or a certificate, which is written while it
-- is made
use Rattle.std.specs.Prelude.{ℕ, List, ⊤}
use Rattle.run_answer.specs.declared.status.Status.{Status}
use Rattle.run_answer.specs.declared.status.Status.TheVariants.{Answered}
use Rattle.run_answer.specs.Status.{IsTaskEnd}
use Rattle.run_answer.specs.Due.{IsTextOf}
use Rattle.task_certificate.specs.declared.delivery.Delivery.{Delivery}
use Rattle.task_certificate.specs.declared.delivery.Delivery.TheVariants.{Text, Certificate}
use Rattle.certificate_writing.specs.Writing.{IsTextUpTo}

-- the status that follows
abbrev pub status_of : Delivery → Status
status_of (Text due) = due.status
status_of (Certificate c) = Answered

-- the bytes that are due
abbrev pub IsTextDue : Delivery → List ℕ → Type 0
IsTextDue (Text due) text = IsTextOf due.text text
IsTextDue (Certificate c) text = IsTextUpTo c.problem c.bound c.entries text

-- they are written while they are made
abbrev pub IsStreamed : Delivery → Type 0
IsStreamed (Text due) = ⊥
IsStreamed (Certificate c) = ⊤

-- what is due is such an answer of a task
pub record DeliveryIs (answer : Status → List ℕ → Type 0) (due : Delivery) : Type 0 where
  pub ends : IsTaskEnd (status_of due)
  pub answers : (text : List ℕ) → IsTextDue due text → answer (status_of due) text
