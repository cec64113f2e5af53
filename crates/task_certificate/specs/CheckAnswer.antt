-- what task `check` answers for the bytes of a certificate text
use Rattle.std.specs.Prelude.{◌≡◌, ◌⊎◌, ℕ, ◌<◌, ◌≤◌, pos, List, length, None}
use Rattle.charge_model.specs.Problem.{Problem}
use Rattle.charge_model.specs.GroundList.{Entry}
use Rattle.sidb_units.specs.declared.TheConstants.{MAX_CERTIFICATE_BYTES}
use Rattle.command_words.specs.declared.settings.Settings.{Settings}
use Rattle.fault_lines.specs.declared.input_fault.InputFault.{InputFault}
use Rattle.fault_lines.specs.declared.input_fault.InputFault.TheVariants.{TooLong, Text}
use Rattle.ground_report.specs.declared.about.About.{About}
use Rattle.certificate_model.specs.declared.token.Token.{Token}
use Rattle.certificate_model.specs.declared.refusal.CertRefusal.{CertRefusal}
use Rattle.certificate_model.specs.Certificates.{IsSound, IsCertificateRefusal}
use Rattle.certificate_reading.specs.Texts.{IsCertText, IsCertFault}
use Rattle.run_answer.specs.declared.status.Status.{Status}
use Rattle.run_answer.specs.declared.status.Status.TheVariants.{Answered}
use Rattle.run_answer.specs.Status.{IsFaultAnswer, IsUnsoundAnswer}
use Rattle.task_ground.specs.GroundAnswer.{IsReport}

-- why bytes are no certificate text: there are too many, or by the first fault of the text
abbrev pub IsTextFault : List ℕ → InputFault → Type 0
IsTextFault bytes TooLong = MAX_CERTIFICATE_BYTES < length bytes
IsTextFault bytes (Text fault) =
    (length bytes ≤ MAX_CERTIFICATE_BYTES) × IsCertFault bytes fault
IsTextFault bytes _ = ⊥

-- what is told where there is no layout
abbrev pub about_certificate : About
about_certificate = record { layout = None; skipped = 0 }

-- the report of a list of entries
abbrev pub IsReportAnswer : Settings → Problem → List Entry → Status → List ℕ → Type 0
IsReportAnswer s p es status text =
    (status ≡ Answered) × IsReport s about_certificate p es text

-- a sound certificate is answered by the report of its list, another by the first test that it
-- fails
abbrev pub IsCheckVerdict : Settings → Problem → List Entry → List Token → Status → List ℕ → Type 0
IsCheckVerdict s p es ts status text =
    (IsSound p (pos 0) es ts × IsReportAnswer s p es status text)
    ⊎ ((refusal : CertRefusal) × IsCertificateRefusal p (pos 0) es ts refusal
    × IsUnsoundAnswer refusal status text)

-- the line of the fault of the bytes
pub record IsTextRefusal (bytes : List ℕ) (status : Status) (text : List ℕ) : Type 0 where
  pub fault : InputFault
  pub refuses : IsTextFault bytes fault
  pub tells : IsFaultAnswer fault status text

-- the verdict on the certificate whose text the bytes are
pub record IsCertificateVerdict (s : Settings) (bytes : List ℕ) (status : Status) (text : List ℕ)
    : Type 0 where
  pub problem : Problem
  pub entries : List Entry
  pub tokens : List Token
  pub short : length bytes ≤ MAX_CERTIFICATE_BYTES
  pub means : IsCertText problem entries tokens bytes
  pub verdict : IsCheckVerdict s problem entries tokens status text

-- the one or the other
abbrev pub IsCheckAnswer : Settings → List ℕ → Status → List ℕ → Type 0
IsCheckAnswer s bytes status text =
    IsTextRefusal bytes status text ⊎ IsCertificateVerdict s bytes status text
