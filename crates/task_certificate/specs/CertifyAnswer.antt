-- what task `certify` answers for a problem
use Rattle.std.specs.Prelude.{◌≡◌, ◌⊎◌, ◌≤◌, ℕ, List, length}
use Rattle.charge_model.specs.Problem.{Problem}
use Rattle.charge_model.specs.Tree.{node_count}
use Rattle.sidb_units.specs.declared.TheConstants.{MAX_ENTRIES}
use Rattle.command_words.specs.declared.settings.Settings.{Settings}
use Rattle.certificate_writing.specs.Writing.{IsOwnCertificate}
use Rattle.run_answer.specs.declared.status.Status.{Status}
use Rattle.run_answer.specs.declared.status.Status.TheVariants.{Answered}
use Rattle.task_ground.specs.GroundAnswer.{IsUnlisted}

-- the text of the problem's own certificate, which has at most 4,096 entries and is found within
-- the limit
pub record IsCertificateWithin (p : Problem) (limit : ℕ) (text : List ℕ) : Type 0 where
  pub own : IsOwnCertificate p text
  pub few : length own.list ≤ MAX_ENTRIES
  pub within : node_count p own.bound ≤ limit

-- that text, or the line that says why there is none
abbrev pub IsCertifyAnswer : Settings → Problem → Status → List ℕ → Type 0
IsCertifyAnswer s p status text =
    ((status ≡ Answered) × IsCertificateWithin p s.search.limit text) ⊎ IsUnlisted s p status text
