-- what the shares of the entries of a problem's window list answer
use Rattle.std.specs.Prelude.{◌≡◌, ◌⊎◌, ℕ, List, unsigned_abs}
use Rattle.charge_model.specs.Problem.{Problem}
use Rattle.charge_model.specs.GroundList.{Entry, lists_of}
use Rattle.command_words.specs.declared.settings.Settings.{Settings}
use Rattle.ground_state.specs.Window.{IsWindowListedWithin}
use Rattle.occupation.specs.declared.share.Share.{Share}
use Rattle.occupation.specs.Shares.{AreRoundedShares}
use Rattle.run_answer.specs.declared.status.Status.{Status}
use Rattle.run_answer.specs.declared.status.Status.TheVariants.{Answered}
use Rattle.sim_report.specs.OccupationText.{occupation_text}
use Rattle.task_levels.specs.WindowAnswer.{IsWindowUnlisted}

-- the text of these entries and shares, with the window and kT that the settings ask for
abbrev pub text_of_shares : Settings → Problem → List Entry → List Share → List ℕ
text_of_shares s p entries shares =
    occupation_text s.levels.window.width s.levels.kt p.sites entries shares

-- the text of the window list of the problem, which has at most 4,096 entries and is found within
-- the limit, with the share of each entry among them by the rounding rule
pub record IsOccupationReport (s : Settings) (p : Problem) (text : List ℕ) : Type 0 where
  pub entries : List Entry
  pub list : IsWindowListedWithin p s.levels.window.width s.search.limit entries
  pub shares : List Share
  pub by_rule : AreRoundedShares p (unsigned_abs s.levels.kt) (lists_of entries) shares
  pub prints : text ≡ text_of_shares s p entries shares

-- that text, or the line that says why there is none
abbrev pub IsOccupationAnswer : Settings → Problem → Status → List ℕ → Type 0
IsOccupationAnswer s p status text =
    ((status ≡ Answered) × IsOccupationReport s p text) ⊎ IsWindowUnlisted s p status text
