-- what is no problem of a layout, no meaning, and no fault of an input
use Rattle.std.proofs.Common.{◌≡◌, ℕ, ◌+◌, pos, ◌-ℤ◌, List, length, None, ap, arith}
use Rattle.std.proofs.lemmas.Int.{ints}
use Rattle.charge_model.specs.Problem.{Problem}
use Rattle.sidb_layout.specs.Layout.{Arrangement}
use Rattle.model_params.specs.declared.params.Params.{Params}
use Rattle.table_lines.specs.declared.fault.TableFault.{TableFault}
use Rattle.sqd_layout.specs.SqdFault.{SqdFault}
use Rattle.sqd_layout.specs.SqdFault.TheVariants.{Memory as NoMemoryForLayout}
use Rattle.command_words.specs.declared.settings.Settings.{Settings}
use Rattle.command_words.specs.declared.settings.InputForm.{InputForm}
use Rattle.command_words.specs.declared.settings.InputForm.TheVariants.{Sites as SitesForm, Sqd as SqdForm, Table as TableForm}
use Rattle.fault_lines.specs.declared.input_fault.InputFault.TheVariants.{TooLong, Layout, Table}
use Rattle.ground_report.specs.declared.about.About.{About}
use Rattle.task_input.specs.Input.{IsInput, IsInputFault, IsOfLayout, MeansSites, MeansTable, about_layout}

-- a problem with the depth of the levels for their gap, and one with another base
gap_is_the_depth : (params : Params) (layout : Arrangement) (p : Problem) → params.gap ≡ pos 590000000000 → p.mu_plus ≡ p.mu_minus -ℤ pos 320000000000 → p.mu_minus ≡ pos 0 → IsOfLayout params layout p → ⊥
gap_is_the_depth params layout p gap level zero is = let below = is.problem.mu_plus in omega (arith, ints, gap, level, zero, below)

other_base : (params : Params) (layout : Arrangement) (p : Problem) → params.base ≡ 2 → p.base ≡ 3 → IsOfLayout params layout p → ⊥
other_base params layout p two three is = let same = is.problem.base in omega (arith, two, three, same)

-- a problem with another number of sites than its layout
other_sites : (params : Params) (layout : Arrangement) (p : Problem) → p.sites ≡ length layout.sites + 1 → IsOfLayout params layout p → ⊥
other_sites params layout p more is = let same = is.problem.sites in omega (arith, more, same)

-- a layout of a table text, none of a sites text, and what was skipped of one
layout_of_table : (bytes : List ℕ) (p : Problem) (layout : Arrangement) → MeansTable bytes p (about_layout layout 0) → ⊥
layout_of_table bytes p layout is = let wrong = ap (λ a. a.layout) is.told in cc

no_layout : (params : Params) (bytes : List ℕ) (p : Problem) → MeansSites params bytes p (record { layout = None; skipped = 0 }) → ⊥
no_layout params bytes p is = let wrong = ap (λ a. a.layout) is.told in cc

skipped_one : (params : Params) (bytes : List ℕ) (p : Problem) (layout : Arrangement) → MeansSites params bytes p (about_layout layout 1) → ⊥
skipped_one params bytes p layout is = let wrong = ap (λ a. a.skipped) is.told in omega (arith, wrong)

-- more bytes than an input may have
too_many_bytes : (s : Settings) (bytes : List ℕ) (p : Problem) (a : About) → length bytes ≡ 1048577 → IsInput s bytes p a → ⊥
too_many_bytes s bytes p a more is = let short = is.short in omega (arith, more, short)

-- no faults
few_enough : (form : InputForm) (bytes : List ℕ) → length bytes ≡ 1048576 → IsInputFault form bytes TooLong → ⊥
few_enough form bytes few wrong = omega (arith, few, wrong)

of_a_table : (bytes : List ℕ) (f : TableFault) → IsInputFault SitesForm bytes (Table f) → ⊥
of_a_table bytes f wrong = wrong

of_a_table_too : (bytes : List ℕ) (f : TableFault) → IsInputFault SqdForm bytes (Table f) → ⊥
of_a_table_too bytes f wrong = wrong

of_a_layout : (bytes : List ℕ) (f : SqdFault) → IsInputFault TableForm bytes (Layout f) → ⊥
of_a_layout bytes f wrong = wrong

want_of_memory : (bytes : List ℕ) → IsInputFault SitesForm bytes (Layout NoMemoryForLayout) → ⊥
want_of_memory bytes wrong = wrong.1.1
