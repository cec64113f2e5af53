-- what the bytes of an input mean by the settings, and why they are refused
use Rattle.std.specs.Prelude.{◌≡◌, ◌⊎◌, ℕ, ◌<◌, ◌≤◌, List, length, None, Some}
use Rattle.sidb_units.specs.declared.TheConstants.{MAX_INPUT_BYTES}
use Rattle.charge_model.specs.Problem.{Problem}
use Rattle.sidb_layout.specs.Layout.{Arrangement}
use Rattle.table_lines.specs.declared.fault.TableFault.TheVariants.{Memory as NoMemoryForTable}
use Rattle.table_reading.specs.Reading.{IsTableText, IsTableFault}
use Rattle.model_params.specs.declared.params.Params.{Params}
use Rattle.screened_coulomb.specs.Layouts.{IsProblemOf, HoldsDistances}
use Rattle.sqd_layout.specs.SqdFault.TheVariants.{Memory as NoMemoryForLayout}
use Rattle.sites_layout.specs.SitesFaults.{IsSitesText, IsSitesFault}
use Rattle.sqd_layout.specs.DotsFaults.{IsSqdText, IsSqdFault}
use Rattle.command_words.specs.declared.settings.Settings.{Settings}
use Rattle.command_words.specs.declared.settings.InputForm.{InputForm}
use Rattle.command_words.specs.declared.settings.InputForm.TheVariants.{Sites as SitesForm, Sqd as SqdForm, Table as TableForm}
use Rattle.fault_lines.specs.declared.input_fault.InputFault.{InputFault}
use Rattle.fault_lines.specs.declared.input_fault.InputFault.TheVariants.{TooLong, Layout, Table}
use Rattle.ground_report.specs.declared.about.About.{About}

-- the problem of a layout by the parameters: the span of each class holds the distance of its pairs
pub record IsOfLayout (params : Params) (layout : Arrangement) (p : Problem) : Type 0 where
  pub problem : IsProblemOf layout params p
  pub holds : HoldsDistances layout params p

-- the span of each class holds the distance of its pairs, by the parameters of the settings
abbrev pub HoldsDistancesBy : Settings → Arrangement → Problem → Type 0
HoldsDistancesBy s layout p = HoldsDistances layout s.params p

-- what is told of a layout, and how much of its text was skipped
abbrev pub about_layout : Arrangement → ℕ → About
about_layout layout skipped = record { layout = Some layout; skipped = skipped }

-- what is told where there is no layout
abbrev pub about_no_layout : About
about_no_layout = record { layout = None; skipped = 0 }

-- the bytes are a sites text, of which nothing is skipped
pub record MeansSites (params : Params) (bytes : List ℕ) (p : Problem) (about : About)
    : Type 0 where
  pub layout : Arrangement
  pub text : IsSitesText bytes layout
  pub gives : IsOfLayout params layout p
  pub told : about ≡ about_layout layout 0

-- the bytes are a text in the manner of SiQAD, of which so many items are skipped
pub record MeansSqd (params : Params) (bytes : List ℕ) (p : Problem) (about : About)
    : Type 0 where
  pub layout : Arrangement
  pub skipped : ℕ
  pub text : IsSqdText bytes layout skipped
  pub gives : IsOfLayout params layout p
  pub told : about ≡ about_layout layout skipped

-- the bytes are a table text
pub record MeansTable (bytes : List ℕ) (p : Problem) (about : About) : Type 0 where
  pub text : IsTableText bytes p
  pub told : about ≡ about_no_layout

-- what the bytes mean in a form
abbrev pub Means : InputForm → Params → List ℕ → Problem → About → Type 0
Means SitesForm params bytes p about = MeansSites params bytes p about
Means SqdForm params bytes p about = MeansSqd params bytes p about
Means TableForm params bytes p about = MeansTable bytes p about

-- there are few enough bytes, and this is what they mean
pub record IsInput (s : Settings) (bytes : List ℕ) (p : Problem) (about : About) : Type 0 where
  pub short : length bytes ≤ MAX_INPUT_BYTES
  pub means : Means s.form s.params bytes p about

-- why bytes are refused in a form: there are too many, or by the first fault of their text
abbrev pub IsInputFault : InputForm → List ℕ → InputFault → Type 0
IsInputFault form bytes TooLong = MAX_INPUT_BYTES < length bytes
IsInputFault SitesForm bytes (Layout fault) =
    (length bytes ≤ MAX_INPUT_BYTES) × IsSitesFault bytes fault
IsInputFault SqdForm bytes (Layout fault) =
    (length bytes ≤ MAX_INPUT_BYTES) × IsSqdFault bytes fault
IsInputFault TableForm bytes (Table fault) =
    (length bytes ≤ MAX_INPUT_BYTES) × IsTableFault bytes fault
IsInputFault _ bytes _ = ⊥

-- the fault says that memory ran out
abbrev pub IsWantOfMemory : InputFault → Type 0
IsWantOfMemory fault = (fault ≡ Layout NoMemoryForLayout) ⊎ (fault ≡ Table NoMemoryForTable)
