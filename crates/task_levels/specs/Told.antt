-- what the texts of these tasks tell, whatever the potentials are inside their spans
use Rattle.std.specs.Prelude.{◌≡◌, ℕ, List, All, unsigned_abs}
use Rattle.charge_model.specs.Problem.{Problem}
use Rattle.charge_model.specs.GroundList.{Entry, lists_of}
use Rattle.window_model.specs.Windows.{ListsEachNear}
use Rattle.candidate_marks.specs.Found.{CertainAreNear, UnresolvedFailWithin}
use Rattle.command_words.specs.declared.settings.Settings.{Settings}
use Rattle.ground_report.specs.declared.about.About.{About}
use Rattle.occupation.specs.declared.share.Share.{Share}
use Rattle.occupation.specs.Shares.{EncloseShares, IsPartOfWhole}
use Rattle.task_levels.specs.OccupationAnswer.{text_of_shares}
use Rattle.task_levels.specs.WindowAnswer.{IsListText}

-- the text is that of entries of which this holds under every potential table: each valid list at
-- most the window above the least valid energy is an entry, an entry marked certain is such a list,
-- and the comparison that another names fails under some table
pub record TellsNearLists (s : Settings) (about : About) (p : Problem) (text : List ℕ) : Type 0
  where
    pub entries : List Entry
    pub prints : IsListText s about p entries text
    pub each_listed : ListsEachNear p s.levels.window.width (lists_of entries)
    pub certain : CertainAreNear p s.levels.window.width entries
    pub unresolved : UnresolvedFailWithin p s.levels.window.width entries

-- the text is that of entries and shares of which this holds under every potential table: each valid
-- list at most the window above the least valid energy is an entry, and at each order of the
-- exponential series from 96 on the share of each entry encloses its interval among the entries
pub record TellsShares (s : Settings) (p : Problem) (text : List ℕ) : Type 0 where
  pub entries : List Entry
  pub shares : List Share
  pub prints : text ≡ text_of_shares s p entries shares
  pub each_listed : ListsEachNear p s.levels.window.width (lists_of entries)
  pub encloses : EncloseShares p (unsigned_abs s.levels.kt) (lists_of entries) shares
  pub parts : All IsPartOfWhole shares
