-- settings that differ in nothing but their workers
use Rattle.std.specs.Prelude.{◌≡◌}
use Rattle.command_words.specs.declared.settings.Settings.{Settings}

-- the settings are alike in all that they ask for, but for how many workers share a search
pub record AreAlikeButWorkers (a b : Settings) : Type 0 where
  pub task : a.task ≡ b.task
  pub form : a.form ≡ b.form
  pub params : a.params ≡ b.params
  pub limit : a.search.limit ≡ b.search.limit
  pub report : a.report ≡ b.report
  pub levels : a.levels ≡ b.levels
  pub gate : a.gate ≡ b.gate
  pub generated : a.generated ≡ b.generated
  pub region : a.region ≡ b.region
