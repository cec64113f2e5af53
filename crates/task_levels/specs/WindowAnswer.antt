-- what the window list of a problem answers
use Rattle.std.specs.Prelude.{◌≡◌, ◌⊎◌, ℕ, List}
use Rattle.charge_model.specs.Problem.{Problem}
use Rattle.charge_model.specs.GroundList.{Entry}
use Rattle.command_words.specs.declared.settings.Settings.{Settings}
use Rattle.ground_state.specs.Window.{IsWindowListedWithin, IsWindowOverLimit, IsWindowTooLongWithin}
use Rattle.ground_report.specs.declared.about.About.{About}
use Rattle.sim_report.specs.WindowText.{IsWindowText}
use Rattle.run_answer.specs.declared.status.Status.{Status}
use Rattle.run_answer.specs.declared.status.Status.TheVariants.{Answered}
use Rattle.run_answer.specs.Status.{IsBudgetAnswer, IsLongListAnswer}

-- the text of these entries within the window that the settings ask for
abbrev pub IsListText : Settings → About → Problem → List Entry → List ℕ → Type 0
IsListText s about p entries text =
    IsWindowText about p s.levels.window.width entries s.report.energies text

-- the text of the marked window list of the problem, which has at most 4,096 entries and is found
-- within the limit
pub record IsWindowReport (s : Settings) (about : About) (p : Problem) (text : List ℕ) : Type 0
  where
    pub entries : List Entry
    pub list : IsWindowListedWithin p s.levels.window.width s.search.limit entries
    pub prints : IsListText s about p entries text

-- why there is no such text: the search tree under the least certain energy and the window has more
-- nodes than the limit, or it has not, and the window list has too many entries
abbrev pub IsWindowUnlisted : Settings → Problem → Status → List ℕ → Type 0
IsWindowUnlisted s p status text =
    (IsWindowOverLimit p s.levels.window.width s.search.limit
    × IsBudgetAnswer s.search.limit status text)
    ⊎ (IsWindowTooLongWithin p s.levels.window.width s.search.limit
    × IsLongListAnswer status text)

-- that text, or the line that says why there is none
abbrev pub IsWindowListAnswer : Settings → About → Problem → Status → List ℕ → Type 0
IsWindowListAnswer s about p status text =
    ((status ≡ Answered) × IsWindowReport s about p text) ⊎ IsWindowUnlisted s p status text
