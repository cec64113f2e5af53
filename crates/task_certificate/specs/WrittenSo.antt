-- what was written of a certificate that is due
use Rattle.std.specs.Prelude.{ℕ, List, Option, Result}
use Rattle.token_sinks.specs.declared.sink.Stop.{Stop}
use Rattle.certificate_writing.specs.Writing.{IsTextUpTo, TookText}
use Rattle.task_certificate.specs.DueCertificate.{DueCertificate}

-- its text, or a front of it after an error
pub record IsWrittenSo (d : DueCertificate) (old new : Option (List ℕ))
    (result : Result (Unit {0}) Stop) : Type 0 where
  pub text : List ℕ
  pub of_due : IsTextUpTo d.problem d.bound d.entries text
  pub took : TookText old text new result
