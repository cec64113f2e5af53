-- by all settings each input means a problem, or has a first fault
use Rattle.std.proofs.Common.{refl, ℕ, ◌<◌, ◌≤◌, List, length, ◌⊎◌, inl, inr}
use Rattle.std.proofs.lemmas.Bool.{cases_lt}
use Rattle.sidb_units.specs.declared.TheConstants.{MAX_INPUT_BYTES}
use Rattle.charge_model.specs.Problem.{Problem, IsProblem}
use Rattle.sidb_layout.specs.Layout.{Arrangement, IsLayout}
use Rattle.table_lines.specs.declared.fault.TableFault.{TableFault}
use Rattle.table_reading.specs.Reading.{IsTableText, IsTableFault}
use Rattle.model_params.specs.declared.params.Params.{Params}
use Rattle.screened_coulomb.specs.Layouts.{IsProblemOf, HoldsDistances}
use Rattle.sqd_layout.specs.SqdFault.{SqdFault}
use Rattle.sites_layout.specs.SitesFaults.{IsSitesText, IsSitesFault}
use Rattle.sqd_layout.specs.DotsFaults.{IsSqdText, IsSqdFault}
use Rattle.command_words.specs.declared.settings.Settings.{Settings}
use Rattle.command_words.specs.declared.settings.InputForm.{InputForm}
use Rattle.command_words.specs.declared.settings.InputForm.TheVariants.{Sites as SitesForm, Sqd as SqdForm, Table as TableForm}
use Rattle.fault_lines.specs.declared.input_fault.InputFault.{InputFault}
use Rattle.fault_lines.specs.declared.input_fault.InputFault.TheVariants.{TooLong, Layout, Table}
use Rattle.fault_lines.specs.FaultLines.{IsNamed}
use Rattle.ground_report.specs.declared.about.About.{About}
use Rattle.task_input.specs.Input.{IsInput, IsInputFault, IsOfLayout, Means, about_layout, about_no_layout}
use Rattle.task_input.proofs.Named.{layout_named, sites_fault_named, sqd_fault_named, table_fault_named, table_named, too_long_named}

-- each text has a reading, and each layout has a problem
pub record AreInputLaws : Type 0 where
  pub sites : (text : List ℕ) → ((p : Arrangement) × IsSitesText text p) ⊎ ((f : SqdFault) × IsSitesFault text f)
  pub sqd : (text : List ℕ) → ((layout : Arrangement) × (skipped : ℕ) × IsSqdText text layout skipped) ⊎ ((f : SqdFault) × IsSqdFault text f)
  pub table : (text : List ℕ) → ((p : Problem) × IsTableText text p) ⊎ ((f : TableFault) × IsTableFault text f)
  pub problem : (layout : Arrangement) (p : Params) → IsLayout layout → (q : Problem) × IsProblemOf layout p q × HoldsDistances layout p q × IsProblem q

-- the problem of a layout by the parameters
of_layout : AreInputLaws → (params : Params) (layout : Arrangement) → IsLayout layout → (p : Problem) × IsOfLayout params layout p × IsProblem p
of_layout laws params layout valid =
    let made = laws.problem layout params valid in
    (made.0, record { problem = made.1; holds = made.2 }, made.3)

-- the bytes mean a problem in a form
abbrev HasMeaning : InputForm → Params → List ℕ → Type 0
HasMeaning form params bytes = (p : Problem) × (about : About) × Means form params bytes p about × IsProblem p

-- the fault of the bytes in a form
abbrev HasFault : InputForm → List ℕ → Type 0
HasFault form bytes = (f : InputFault) × IsInputFault form bytes f × IsNamed f

-- few enough bytes have one of the two
in_form : AreInputLaws → (params : Params) (form : InputForm) (bytes : List ℕ) → length bytes ≤ MAX_INPUT_BYTES → HasMeaning form params bytes ⊎ HasFault form bytes
in_form laws params SitesForm bytes short = by (laws.sites bytes)
  where
    by : ((p : Arrangement) × IsSitesText bytes p) ⊎ ((f : SqdFault) × IsSitesFault bytes f) → HasMeaning SitesForm params bytes ⊎ HasFault SitesForm bytes
    by (inl (layout, text)) =
        let made = of_layout laws params layout text.layout.made.layout in
        inl (made.0, about_layout layout 0, record { layout = layout; text = text; gives = made.1; told = refl }, made.2)
    by (inr (f, found)) = inr (Layout f, (short, found), layout_named f (sites_fault_named bytes f found))
in_form laws params SqdForm bytes short = by (laws.sqd bytes)
  where
    by : ((layout : Arrangement) × (skipped : ℕ) × IsSqdText bytes layout skipped) ⊎ ((f : SqdFault) × IsSqdFault bytes f) → HasMeaning SqdForm params bytes ⊎ HasFault SqdForm bytes
    by (inl (layout, skipped, text)) =
        let made = of_layout laws params layout text.made.layout in
        inl (made.0, about_layout layout skipped, record { layout = layout; skipped = skipped; text = text; gives = made.1; told = refl }, made.2)
    by (inr (f, found)) = inr (Layout f, (short, found), layout_named f (sqd_fault_named bytes f found))
in_form laws params TableForm bytes short = by (laws.table bytes)
  where
    by : ((p : Problem) × IsTableText bytes p) ⊎ ((f : TableFault) × IsTableFault bytes f) → HasMeaning TableForm params bytes ⊎ HasFault TableForm bytes
    by (inl (p, text)) = inl (p, about_no_layout, record { text = text; told = refl }, text.problem)
    by (inr (f, found)) = inr (Table f, (short, found), table_named f (table_fault_named bytes f found))

-- the input means a problem
abbrev pub HasInput : Settings → List ℕ → Type 0
HasInput s bytes = (p : Problem) × (about : About) × IsInput s bytes p about × IsProblem p

-- the input has a first fault, which is named
abbrev pub HasInputFault : Settings → List ℕ → Type 0
HasInputFault s bytes = (f : InputFault) × IsInputFault s.form bytes f × IsNamed f

-- the input has one of the two
pub some_input : AreInputLaws → (s : Settings) (bytes : List ℕ) → HasInput s bytes ⊎ HasInputFault s bytes
some_input laws s bytes = by (cases_lt MAX_INPUT_BYTES (length bytes))
  where
    read : length bytes ≤ MAX_INPUT_BYTES → HasMeaning s.form s.params bytes ⊎ HasFault s.form bytes → HasInput s bytes ⊎ HasInputFault s bytes
    read short (inl (p, about, means, valid)) = inl (p, about, record { short = short; means = means }, valid)
    read short (inr fault) = inr fault

    by : (MAX_INPUT_BYTES < length bytes) ⊎ (length bytes ≤ MAX_INPUT_BYTES) → HasInput s bytes ⊎ HasInputFault s bytes
    by (inl long) = inr (TooLong, long, too_long_named)
    by (inr short) = read short (in_form laws s.params s.form bytes short)
