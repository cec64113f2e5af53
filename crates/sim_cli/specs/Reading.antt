-- what was read for a task
use Rattle.std.specs.Prelude.{◌≡◌, ◌≢◌, ◌⊎◌, ℕ, List, None, ⊤}
use Rattle.command_words.specs.declared.settings.Settings.{Settings}
use Rattle.command_words.specs.declared.settings.InputForm.TheVariants.{Table}
use Rattle.fault_lines.specs.declared.input_fault.InputFault.{InputFault}
use Rattle.fault_lines.specs.declared.input_fault.InputFault.TheVariants.{TooLong}
use Rattle.task_certificate.specs.CheckAnswer.{IsTextFault}
use Rattle.task_input.specs.declared.input.Input.{Input}
use Rattle.task_input.specs.Input.{IsInput, IsInputFault, IsWantOfMemory}
use Rattle.sim_cli.specs.declared.reading.Reading.{Reading as Read}
use Rattle.sim_cli.specs.declared.reading.Reading.TheVariants.{Problem, Certificate, Nothing, Refused, ReadFault, Memory}
use Rattle.sim_cli.specs.declared.kind.InputKind.{InputKind}
use Rattle.sim_cli.specs.declared.kind.InputKind.TheVariants.{ProblemText, CertificateText, NoText}
use Rattle.sim_cli.specs.Kind.{kind_of, ReadsInput}

-- a problem was read for a task that reads one, with its layout unless it is a table
pub record IsProblemFor (s : Settings) (input : Input) : Type 0 where
  pub kind : kind_of s.task ≡ ProblemText
  pub drawn : s.form ≢ Table → input.about.layout ≢ None

-- such a thing is read for the task of the settings
abbrev pub IsReadFor : Settings → Read → Type 0
IsReadFor s (Problem input) = IsProblemFor s input
IsReadFor s (Certificate text) = kind_of s.task ≡ CertificateText
IsReadFor s Nothing = kind_of s.task ≡ NoText
IsReadFor s _ = ReadsInput s.task

-- a task that reads a problem refuses bytes by their fault in the form, one that reads a
-- certificate here only where there are too many
abbrev pub IsRefusedAs : InputKind → Settings → List ℕ → InputFault → Type 0
IsRefusedAs ProblemText s bytes fault = IsInputFault s.form bytes fault
IsRefusedAs CertificateText s bytes fault = IsTextFault bytes fault
IsRefusedAs NoText s bytes fault = ⊥

-- the task of the settings refuses bytes so
abbrev pub IsRefusedForTask : Settings → List ℕ → InputFault → Type 0
IsRefusedForTask s bytes fault = IsRefusedAs (kind_of s.task) s bytes fault

-- the bytes mean so by the settings, or are refused so, and memory may be wanting
abbrev pub IsReadingOf : Settings → Read → List ℕ → Type 0
IsReadingOf s (Problem input) bytes = IsInput s bytes input.problem input.about
IsReadingOf s (Certificate text) bytes = text.items ≡ bytes
IsReadingOf s Nothing bytes = ⊤
IsReadingOf s (Refused fault) bytes = IsWantOfMemory fault ⊎ IsRefusedForTask s bytes fault
IsReadingOf s ReadFault bytes = ⊤
IsReadingOf s Memory bytes = ⊤

-- it comes so only after the source was read to its end
abbrev pub IsToTheEnd : Read → Type 0
IsToTheEnd (Problem input) = ⊤
IsToTheEnd (Certificate text) = ⊤
IsToTheEnd Nothing = ⊥
IsToTheEnd (Refused fault) = fault ≢ TooLong
IsToTheEnd ReadFault = ⊥
IsToTheEnd Memory = ⊥

-- something is due to it
abbrev pub IsAnswerable : Read → Type 0
IsAnswerable (Problem input) = ⊤
IsAnswerable (Certificate text) = ⊤
IsAnswerable Nothing = ⊤
IsAnswerable (Refused fault) = ⊤
IsAnswerable ReadFault = ⊥
IsAnswerable Memory = ⊥
