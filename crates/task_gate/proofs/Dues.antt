-- what is due to a gate on a layout
use Rattle.std.proofs.Common.{◌≡◌, inl, inr, subst, ℕ, Result, Ok, Err, IfOk}
use Rattle.sidb_units.specs.declared.memory.Memory.{Memory}
use Rattle.sidb_layout.specs.Layout.{Arrangement}
use Rattle.command_words.specs.declared.settings.Settings.{Settings}
use Rattle.gate_model.specs.Grids.{Axes}
use Rattle.gate_model.specs.Logic.{Logic}
use Rattle.bdl_pairs.specs.Remaining.{IsOn}
use Rattle.fault_lines.specs.declared.input_fault.InputFault.TheVariants.{GateSite}
use Rattle.operational_domain.specs.Placed.{Placed, setting_at}
use Rattle.operational_domain.specs.Truth.{IsFirstLong, IsFirstOver}
use Rattle.run_answer.specs.declared.due.Due.{Due}
use Rattle.run_answer.specs.Due.{DueIs}
use Rattle.run_answer.specs.Status.{IsBudgetAnswer, IsFaultAnswer, IsLongListAnswer}
use Rattle.task_gate.specs.GateSite.{IsGateSite}
use Rattle.task_gate.specs.TruthAnswer.{IsTruthOfGate, IsTruthOutcome, placed_by}
use Rattle.task_gate.specs.DomainAnswer.{IsDomainOfGate, IsDomainOutcome}

pub over_due : (s : Settings) (v : Placed) (limit : ℕ) (due : Result Due Memory) → limit ≡ v.limit → IsFirstOver (setting_at v s.params) → IfOk due (DueIs (IsBudgetAnswer limit)) → IfOk due (DueIs (IsTruthOutcome s v))
over_due s v limit (Err e) same over is = tt
over_due s v limit (Ok due) same over is = record { ends = is.ends; answers = λ text t. inr (inl (over, subst (λ n. IsBudgetAnswer n due.status text) same (is.answers text t))) }

pub long_due : (s : Settings) (v : Placed) (due : Due) → IsFirstLong (setting_at v s.params) → DueIs IsLongListAnswer due → DueIs (IsTruthOutcome s v) due
long_due s v due long is = record { ends = is.ends; answers = λ text t. inr (inr (long, is.answers text t)) }

pub truth_due : (s : Settings) (gate : Logic) (layout : Arrangement) (due : Result Due Memory) → IsOn gate layout.sites → IfOk due (DueIs (IsTruthOutcome s (placed_by s gate layout))) → IfOk due (DueIs (IsTruthOfGate s gate layout))
truth_due s gate layout (Err e) on is = tt
truth_due s gate layout (Ok due) on is = record { ends = is.ends; answers = λ text t. inl (on, is.answers text t) }

pub site_due : (s : Settings) (gate : Logic) (layout : Arrangement) (place : ℕ) (due : Result Due Memory) → IsGateSite gate layout.sites place → IfOk due (DueIs (IsFaultAnswer (GateSite place))) → IfOk due (DueIs (IsTruthOfGate s gate layout))
site_due s gate layout place (Err e) site is = tt
site_due s gate layout place (Ok due) site is = record { ends = is.ends; answers = λ text t. inr (record { place = place; site = site; answers = is.answers text t }) }

pub domain_site_due : (s : Settings) (gate : Logic) (a : Axes) (layout : Arrangement) (place : ℕ) (due : Result Due Memory) → IsGateSite gate layout.sites place → IfOk due (DueIs (IsFaultAnswer (GateSite place))) → IfOk due (DueIs (IsDomainOfGate s gate a layout))
domain_site_due s gate a layout place (Err e) site is = tt
domain_site_due s gate a layout place (Ok due) site is = record { ends = is.ends; answers = λ text t. inr (record { place = place; site = site; answers = is.answers text t }) }

pub domain_due : (s : Settings) (gate : Logic) (a : Axes) (layout : Arrangement) (due : Result Due Memory) → IsOn gate layout.sites → IfOk due (DueIs (IsDomainOutcome s (placed_by s gate layout) a)) → IfOk due (DueIs (IsDomainOfGate s gate a layout))
domain_due s gate a layout (Err e) on is = tt
domain_due s gate a layout (Ok due) on is = record { ends = is.ends; answers = λ text t. inl (on, is.answers text t) }
