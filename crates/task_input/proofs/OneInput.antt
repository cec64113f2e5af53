-- bytes mean one input, or have one fault
use Rattle.std.proofs.Common.{◌≡◌, ◌∙◌, refl, sym, ap, ap₂, subst, ℕ, ◌≤◌, List, length, arith}
use Rattle.sidb_units.specs.declared.TheConstants.{MAX_INPUT_BYTES}
use Rattle.charge_model.specs.Problem.{Problem}
use Rattle.sidb_layout.specs.Layout.{Arrangement}
use Rattle.table_lines.specs.declared.fault.TableFault.{TableFault}
use Rattle.table_reading.specs.Reading.{IsTableText, IsTableFault}
use Rattle.model_params.specs.declared.params.Params.{Params}
use Rattle.screened_coulomb.specs.Layouts.{IsProblemOf}
use Rattle.sqd_layout.specs.SqdFault.{SqdFault}
use Rattle.sites_layout.specs.SitesFaults.{IsSitesText, IsSitesFault}
use Rattle.sqd_layout.specs.DotsFaults.{IsSqdText, IsSqdFault}
use Rattle.command_words.specs.declared.settings.Settings.{Settings}
use Rattle.command_words.specs.declared.settings.InputForm.{InputForm}
use Rattle.command_words.specs.declared.settings.InputForm.TheVariants.{Sites as SitesForm, Sqd as SqdForm, Table as TableForm}
use Rattle.fault_lines.specs.declared.input_fault.InputFault.{InputFault}
use Rattle.fault_lines.specs.declared.input_fault.InputFault.TheVariants.{TooLong, Layout, Table, Text, GateSite}
use Rattle.ground_report.specs.declared.about.About.{About}
use Rattle.task_input.specs.Input.{IsOfLayout, IsInput, IsInputFault, Means, about_layout}

-- each part of an input is one
pub record PartsAreOne : Type 0 where
  pub layout : (text : List ℕ) (p q : Arrangement) → IsSitesText text p → IsSitesText text q → p ≡ q
  pub drawn : (text : List ℕ) (p q : Arrangement) (j k : ℕ) → IsSqdText text p j → IsSqdText text q k → (p ≡ q) × (j ≡ k)
  pub problem : (layout : Arrangement) (p : Params) (a b : Problem) → IsProblemOf layout p a → IsProblemOf layout p b → a ≡ b
  pub table : (text : List ℕ) (p q : Problem) → IsTableText text p → IsTableText text q → p ≡ q

same_problem : PartsAreOne → (params : Params) (layout : Arrangement) (p q : Problem) → IsOfLayout params layout p → IsOfLayout params layout q → p ≡ q
same_problem one params layout p q a b = one.problem layout params p q a.problem b.problem

same_means : PartsAreOne → (form : InputForm) (params : Params) (bytes : List ℕ) (p q : Problem) (a b : About) → Means form params bytes p a → Means form params bytes q b → (p ≡ q) × (a ≡ b)
same_means one SitesForm params bytes p q a b is also =
    let layout = one.layout bytes is.layout also.layout is.text also.text in (
      same_problem one params also.layout p q (subst (λ (l : Arrangement). IsOfLayout params l p) layout is.gives) also.gives,
      is.told ∙ ap (λ l. about_layout l 0) layout ∙ sym also.told,
    )
same_means one SqdForm params bytes p q a b is also =
    let same = one.drawn bytes is.layout also.layout is.skipped also.skipped is.text also.text in (
      same_problem one params also.layout p q (subst (λ (l : Arrangement). IsOfLayout params l p) same.0 is.gives) also.gives,
      is.told ∙ ap₂ about_layout same.0 same.1 ∙ sym also.told,
    )
same_means one TableForm params bytes p q a b is also = (one.table bytes p q is.text also.text, is.told ∙ sym also.told)

pub same_input : PartsAreOne → (s : Settings) (bytes : List ℕ) (p q : Problem) (a b : About) → IsInput s bytes p a → IsInput s bytes q b → (p ≡ q) × (a ≡ b)
same_input one s bytes p q a b is also = same_means one s.form s.params bytes p q a b is.means also.means

pub same_fault : ((text : List ℕ) (f g : SqdFault) → IsSitesFault text f → IsSitesFault text g → f ≡ g)
    → ((text : List ℕ) (f g : SqdFault) → IsSqdFault text f → IsSqdFault text g → f ≡ g)
    → ((text : List ℕ) (f g : TableFault) → IsTableFault text f → IsTableFault text g → f ≡ g)
    → (form : InputForm) (bytes : List ℕ) (f g : InputFault) → IsInputFault form bytes f → IsInputFault form bytes g → f ≡ g
same_fault sites sqd table form bytes TooLong TooLong a b = refl
same_fault sites sqd table SitesForm bytes TooLong (Layout g) a b = absurd (omega (arith, a, b.0))
same_fault sites sqd table SqdForm bytes TooLong (Layout g) a b = absurd (omega (arith, a, b.0))
same_fault sites sqd table TableForm bytes TooLong (Table g) a b = absurd (omega (arith, a, b.0))
same_fault sites sqd table SitesForm bytes (Layout f) TooLong a b = absurd (omega (arith, b, a.0))
same_fault sites sqd table SqdForm bytes (Layout f) TooLong a b = absurd (omega (arith, b, a.0))
same_fault sites sqd table TableForm bytes (Table f) TooLong a b = absurd (omega (arith, b, a.0))
same_fault sites sqd table SitesForm bytes (Layout f) (Layout g) a b = ap Layout (sites bytes f g a.1 b.1)
same_fault sites sqd table SqdForm bytes (Layout f) (Layout g) a b = ap Layout (sqd bytes f g a.1 b.1)
same_fault sites sqd table TableForm bytes (Table f) (Table g) a b = ap Table (table bytes f g a.1 b.1)
same_fault sites sqd table SitesForm bytes (Table f) g a b = absurd a
same_fault sites sqd table SqdForm bytes (Table f) g a b = absurd a
same_fault sites sqd table TableForm bytes (Layout f) g a b = absurd a
same_fault sites sqd table SitesForm bytes f (Table g) a b = absurd b
same_fault sites sqd table SqdForm bytes f (Table g) a b = absurd b
same_fault sites sqd table TableForm bytes f (Layout g) a b = absurd b
same_fault sites sqd table SitesForm bytes (Text f) g a b = absurd a
same_fault sites sqd table SqdForm bytes (Text f) g a b = absurd a
same_fault sites sqd table TableForm bytes (Text f) g a b = absurd a
same_fault sites sqd table SitesForm bytes f (Text g) a b = absurd b
same_fault sites sqd table SqdForm bytes f (Text g) a b = absurd b
same_fault sites sqd table TableForm bytes f (Text g) a b = absurd b
same_fault sites sqd table SitesForm bytes (GateSite f) g a b = absurd a
same_fault sites sqd table SqdForm bytes (GateSite f) g a b = absurd a
same_fault sites sqd table TableForm bytes (GateSite f) g a b = absurd a
same_fault sites sqd table SitesForm bytes f (GateSite g) a b = absurd b
same_fault sites sqd table SqdForm bytes f (GateSite g) a b = absurd b
same_fault sites sqd table TableForm bytes f (GateSite g) a b = absurd b

fault_or_meaning : ((text : List ℕ) (p : Arrangement) (f : SqdFault) → IsSitesText text p → IsSitesFault text f → ⊥)
    → ((text : List ℕ) (p : Arrangement) (skipped : ℕ) (f : SqdFault) → IsSqdText text p skipped → IsSqdFault text f → ⊥)
    → ((text : List ℕ) (p : Problem) (f : TableFault) → IsTableText text p → IsTableFault text f → ⊥)
    → (form : InputForm) (params : Params) (bytes : List ℕ) (p : Problem) (a : About) (f : InputFault) → length bytes ≤ MAX_INPUT_BYTES → Means form params bytes p a → IsInputFault form bytes f → ⊥
fault_or_meaning sites sqd table form params bytes p a TooLong short means fault = omega (arith, short, fault)
fault_or_meaning sites sqd table SitesForm params bytes p a (Layout f) short means fault = sites bytes means.layout f means.text fault.1
fault_or_meaning sites sqd table TableForm params bytes p a (Table f) short means fault = table bytes p f means.text fault.1
fault_or_meaning sites sqd table SqdForm params bytes p a (Layout f) short means fault = sqd bytes means.layout means.skipped f means.text fault.1
fault_or_meaning sites sqd table SqdForm params bytes p a (Table f) short means fault = fault
fault_or_meaning sites sqd table SitesForm params bytes p a (Table f) short means fault = fault
fault_or_meaning sites sqd table TableForm params bytes p a (Layout f) short means fault = fault
fault_or_meaning sites sqd table SitesForm params bytes p a (Text f) short means fault = fault
fault_or_meaning sites sqd table SqdForm params bytes p a (Text f) short means fault = fault
fault_or_meaning sites sqd table TableForm params bytes p a (Text f) short means fault = fault
fault_or_meaning sites sqd table SitesForm params bytes p a (GateSite f) short means fault = fault
fault_or_meaning sites sqd table SqdForm params bytes p a (GateSite f) short means fault = fault
fault_or_meaning sites sqd table TableForm params bytes p a (GateSite f) short means fault = fault

pub no_fault : ((text : List ℕ) (p : Arrangement) (f : SqdFault) → IsSitesText text p → IsSitesFault text f → ⊥)
    → ((text : List ℕ) (p : Arrangement) (skipped : ℕ) (f : SqdFault) → IsSqdText text p skipped → IsSqdFault text f → ⊥)
    → ((text : List ℕ) (p : Problem) (f : TableFault) → IsTableText text p → IsTableFault text f → ⊥)
    → (s : Settings) (bytes : List ℕ) (p : Problem) (a : About) (f : InputFault) → IsInput s bytes p a → IsInputFault s.form bytes f → ⊥
no_fault sites sqd table s bytes p a f is fault = fault_or_meaning sites sqd table s.form s.params bytes p a f is.short is.means fault
