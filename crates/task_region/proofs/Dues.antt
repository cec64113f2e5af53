-- what is due to a gate on a layout
use Rattle.std.proofs.Common.{◌≡◌, inl, inr, ℕ, Some, Result, Ok, Err, IfOk}
use Rattle.sidb_units.specs.declared.memory.Memory.{Memory}
use Rattle.sidb_layout.specs.Layout.{Arrangement}
use Rattle.command_words.specs.declared.settings.Settings.{Settings}
use Rattle.gate_model.specs.Grids.{Axes}
use Rattle.gate_model.specs.Logic.{Logic}
use Rattle.bdl_pairs.specs.Remaining.{IsOn}
use Rattle.fault_lines.specs.declared.input_fault.InputFault.TheVariants.{GateSite}
use Rattle.run_answer.specs.declared.due.Due.{Due}
use Rattle.run_answer.specs.Due.{DueIs}
use Rattle.run_answer.specs.Status.{IsFaultAnswer}
use Rattle.task_gate.specs.Answers.{IsGivenGate}
use Rattle.task_gate.specs.GateSite.{IsGateSite}
use Rattle.task_gate.specs.TruthAnswer.{placed_by}
use Rattle.task_region.specs.RegionAnswer.{IsRegionAnswer, IsRegionOfGate, IsRegionOutcome}

pub region_site_due : (s : Settings) (gate : Logic) (a : Axes) (layout : Arrangement) (place : ℕ) (due : Result Due Memory) → IsGateSite gate layout.sites place → IfOk due (DueIs (IsFaultAnswer (GateSite place))) → IfOk due (DueIs (IsRegionOfGate s gate a layout))
region_site_due s gate a layout place (Err e) site is = tt
region_site_due s gate a layout place (Ok due) site is = record { ends = is.ends; answers = λ text t. inr (record { place = place; site = site; answers = is.answers text t }) }

pub region_due : (s : Settings) (gate : Logic) (a : Axes) (layout : Arrangement) (due : Result Due Memory) → IsOn gate layout.sites → IfOk due (DueIs (IsRegionOutcome s (placed_by s gate layout) a)) → IfOk due (DueIs (IsRegionOfGate s gate a layout))
region_due s gate a layout (Err e) on is = tt
region_due s gate a layout (Ok due) on is = record { ends = is.ends; answers = λ text t. inl (on, is.answers text t) }

-- what is due for the gate is due for the settings
pub given_region : (s : Settings) (gate : Logic) (axes : Axes) (layout : Arrangement) (due : Result Due Memory) → IsGivenGate s.gate gate → s.gate.grid ≡ Some axes
    → IfOk due (DueIs (IsRegionOfGate s gate axes layout)) → IfOk due (DueIs (IsRegionAnswer s layout))
given_region s gate axes layout (Err e) given points is = tt
given_region s gate axes layout (Ok due) given points is =
    record { ends = is.ends; answers = λ text t. record { gate = gate; given = given; axes = axes; points = points; answers = is.answers text t } }
