-- the number of the settings generates one problem
use Rattle.std.proofs.Common.{◌≡◌, subst, List, []}
use Rattle.charge_model.specs.Problem.{Problem}
use Rattle.sidb_layout.specs.declared.site.Site.{Site}
use Rattle.sidb_layout.specs.declared.site.Fix.{Fix}
use Rattle.sidb_layout.specs.declared.lattice.Lattice.{Lattice}
use Rattle.sidb_layout.specs.Lattice.{silicon}
use Rattle.sidb_layout.specs.Layout.{Arrangement}
use Rattle.sidb_layout.specs.Refusal.{IsMadeOf}
use Rattle.model_params.specs.declared.params.Params.{Params}
use Rattle.screened_coulomb.specs.Layouts.{IsProblemOf}
use Rattle.command_words.specs.declared.settings.Settings.{Settings}
use Rattle.task_gen.specs.Generator.{sites_for_number}
use Rattle.task_gen.specs.GenAnswer.{IsGenProblem}

pub same_problem : ((v : Lattice) (sites : List Site) (fixes : List Fix) (p q : Arrangement) → IsMadeOf v sites fixes p → IsMadeOf v sites fixes q → p ≡ q) → ((layout : Arrangement) (p : Params) (a b : Problem) → IsProblemOf layout p a → IsProblemOf layout p b → a ≡ b) → (s : Settings) (p q : Problem) → IsGenProblem s p → IsGenProblem s q → p ≡ q
same_problem one_layout one_problem s p q a b =
    let layout = one_layout silicon (sites_for_number s.generated.number s.generated.sites) [] a.layout b.layout a.made b.made in
    one_problem b.layout s.params p q (subst (λ l. IsProblemOf l s.params p) layout a.of_layout) b.of_layout
