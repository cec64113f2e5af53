-- what each task reads
use Rattle.std.specs.Prelude.{◌≡◌, ◌≢◌}
use Rattle.command_words.specs.declared.settings.Task.{Task}
use Rattle.command_words.specs.declared.settings.Task.TheVariants.{Check, Gen}
use Rattle.sim_cli.specs.declared.kind.InputKind.{InputKind}
use Rattle.sim_cli.specs.declared.kind.InputKind.TheVariants.{ProblemText, CertificateText, NoText}

-- what a task reads: the text of a problem, or that of a certificate, or nothing
abbrev pub kind_of : Task → InputKind
kind_of Check = CertificateText
kind_of Gen = NoText
kind_of _ = ProblemText

-- the task reads its input
abbrev pub ReadsInput : Task → Type 0
ReadsInput task = kind_of task ≢ NoText
