-- the layout of an input: a layout from which nothing is taken away, and what is due for it
use Rattle.std.proofs.Common.{◌≡◌, ap, refl, ℕ, ◌+◌, List, [], ◌∷◌, Some}
use Rattle.std.specs.Prelude.{Result, Ok, Err, IfOk}
use Rattle.sidb_units.specs.declared.memory.Memory.{Memory}
use Rattle.ground_report.specs.declared.about.About.{About}
use Rattle.run_answer.specs.declared.due.Due.{Due}
use Rattle.run_answer.specs.declared.status.Status.{Status}
use Rattle.run_answer.specs.Due.{DueIs}
use Rattle.sim_cli.specs.Answer.{OfLayout}
use Rattle.sidb_layout.specs.declared.site.Site.{Site}
use Rattle.sidb_layout.specs.Dropping.{kept_from, sites_but}
use Rattle.sidb_layout.specs.Layout.{Arrangement, arrangement_of}

all_kept : (k : ℕ) (sites : List Site) → kept_from k [] sites ≡ sites
all_kept k [] = refl
all_kept k (s ∷ sites) = ap (λ left. s ∷ left) (all_kept (k + 1) sites)

pub whole : (layout : Arrangement) → arrangement_of layout.lattice (sites_but [] layout.sites) layout.fixes ≡ layout
whole layout = ap (λ sites. arrangement_of layout.lattice sites layout.fixes) (all_kept 0 layout.sites)

-- what is due for the layout that is told of
pub of_layout : (about : About) (answer : Arrangement → Status → List ℕ → Type 0) (layout : Arrangement) → about.layout ≡ Some layout → (result : Result Due Memory)
    → IfOk result (DueIs (answer layout)) → IfOk result (DueIs (λ status text. OfLayout about (λ l. answer l status text)))
of_layout about answer layout told (Ok due) is =
    record { ends = is.ends; answers = λ text of. record { layout = layout; told = told; holds = is.answers text of } }
of_layout about answer layout told (Err e) is = is
