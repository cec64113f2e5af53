-- the gate that the settings give: there is one, and its answers are those of the settings
use Rattle.std.proofs.Common.{◌≡◌, ◌≢◌, ◌∙◌, sym, ap, refl, subst, ℕ, List, Option, Some, None, Result, Ok, Err, IfOk, arith}
use Rattle.std.proofs.lemmas.Int.{ints}
use Rattle.clap.specs.Walk.{Text}
use Rattle.sidb_units.specs.declared.memory.Memory.{Memory}
use Rattle.sidb_layout.specs.Layout.{Arrangement, IsLayout}
use Rattle.model_params.specs.declared.quantity.Quantity.{Quantity}
use Rattle.model_params.specs.Quantities.{permittivity, screening_length}
use Rattle.gate_model.specs.declared.grid.Axis.{Axis}
use Rattle.gate_model.specs.GridTexts.{IsAxisText, IsGridText}
use Rattle.gate_model.specs.Grids.{AreAxes, Axes, IsAxis}
use Rattle.gate_model.specs.Logic.{Logic, logic_of}
use Rattle.command_words.specs.declared.gate_settings.GateSettings.{GateSettings}
use Rattle.command_words.specs.declared.settings.Settings.{Settings}
use Rattle.command_words.specs.Gates.{HasGate}
use Rattle.command_words.specs.Options.{IsReadWhereGiven}
use Rattle.command_words.specs.Settings.{HasDomainNeeds, HasTruthNeeds}
use Rattle.run_answer.specs.declared.status.Status.{Status}
use Rattle.run_answer.specs.declared.status.Status.TheVariants.{Answered}
use Rattle.run_answer.specs.declared.due.Due.{Due}
use Rattle.run_answer.specs.Due.{DueIs}
use Rattle.task_gate.specs.TruthAnswer.{IsTruthOfGate}
use Rattle.task_gate.specs.DomainAnswer.{IsDomainOfGate}
use Rattle.task_gate.specs.Answers.{IsDomainAnswer, IsGivenGate, IsTruthAnswer, TellsDomain, TellsTruth}
use Rattle.task_gate.proofs.OneAnswer.{PartsAreOne, same_domain, same_truth}
use Rattle.task_gate.proofs.SomeAnswer.{PartsAreThere, some_domain, some_truth}
use Rattle.task_gate.proofs.Told.{CellsHold, GatesHold, domain_tells, truth_tells}

-- what is due for the gate is due for the settings
pub given_truth : (s : Settings) (gate : Logic) (layout : Arrangement) (due : Result Due Memory) → IsGivenGate s.gate gate → IfOk due (DueIs (IsTruthOfGate s gate layout)) → IfOk due (DueIs (IsTruthAnswer s layout))
given_truth s gate layout (Err e) given is = tt
given_truth s gate layout (Ok due) given is = record { ends = is.ends; answers = λ text t. record { gate = gate; given = given; answers = is.answers text t } }

pub given_domain : (s : Settings) (gate : Logic) (axes : Axes) (layout : Arrangement) (due : Result Due Memory) → IsGivenGate s.gate gate → s.gate.grid ≡ Some axes
    → IfOk due (DueIs (IsDomainOfGate s gate axes layout)) → IfOk due (DueIs (IsDomainAnswer s layout))
given_domain s gate axes layout (Err e) given points is = tt
given_domain s gate axes layout (Ok due) given points is =
    record { ends = is.ends; answers = λ text t. record { gate = gate; given = given; axes = axes; points = points; answers = is.answers text t } }

-- two options that hold something hold the same
abbrev value_or : {X : Type 0} → X → Option X → X
value_or d None = d
value_or d (Some x) = x

pub same_value : {X : Type 0} (o : Option X) (a b : X) → o ≡ Some a → o ≡ Some b → a ≡ b
same_value o a b e f = ap (value_or a) (sym e ∙ f)

pub one_gate : (g : GateSettings) (a b : Logic) → IsGivenGate g a → IsGivenGate g b → a ≡ b
one_gate g a b x y = x.gate_is ∙ ap (logic_of g.inputs g.outputs) (same_value g.function x.function y.function x.given y.given) ∙ sym y.gate_is

module _ (one : PartsAreOne) (s : Settings) (layout : Arrangement) (valid : IsLayout layout) where
  pub one_truth : (a b : Status) (t u : List ℕ) → IsTruthAnswer s layout a t → IsTruthAnswer s layout b u → (a ≡ b) × (t ≡ u)
  one_truth a b t u x y =
      let gates = one_gate s.gate x.gate y.gate x.given y.given in
      same_truth one s y.gate layout valid a b t u (subst (λ g. IsTruthOfGate s g layout a t) gates x.answers) y.answers

  pub one_domain : (a b : Status) (t u : List ℕ) → IsDomainAnswer s layout a t → IsDomainAnswer s layout b u → (a ≡ b) × (t ≡ u)
  one_domain a b t u x y =
      let gates = one_gate s.gate x.gate y.gate x.given y.given in
      let grids = same_value s.gate.grid x.axes y.axes x.points y.points in
      let moved = subst (λ g. IsDomainOfGate s g x.axes layout a t) gates x.answers in
      same_domain one s y.gate layout valid y.axes a b t u (subst (λ x. IsDomainOfGate s y.gate x layout a t) grids moved) y.answers

-- the gate of settings that give one
pub given_by : (g : GateSettings) (has : HasGate g) → IsGivenGate g (logic_of g.inputs g.outputs has.computed)
given_by g has = record { function = has.computed; given = has.given; gate_is = refl }

-- a grid that a text means keeps what each grid keeps
axis_of : (q : Quantity) (part : List ℕ) (axis : Axis) → IsAxisText q part axis → IsAxis q axis
axis_of q part axis is =
    let count = is.numbers.count_number in
    record {
      rising = is.numbers.step_number.from;
      some = omega (arith, ints, count.from);
      few = omega (arith, ints, count.to);
      inside = is.inside;
    }

pub axes_of : (told : Option Text) (axes : Axes) → IsReadWhereGiven IsGridText told (Some axes) → AreAxes axes
axes_of None axes read = absurd read
axes_of (Some text) axes read = record { eps = axis_of permittivity read.eps_part axes.eps read.eps; lam = axis_of screening_length read.lam_part axes.lam read.lam }

some_axes : (told : Option Text) (grid : Option Axes) → IsReadWhereGiven IsGridText told grid → grid ≢ None → (axes : Axes) × (grid ≡ Some axes) × AreAxes axes
some_axes None None read there = absurd (there refl)
some_axes None (Some a) read there = absurd read
some_axes (Some text) None read there = absurd read
some_axes (Some text) (Some a) read there = (a, refl, axes_of (Some text) a read)

module _ (parts : PartsAreThere) (s : Settings) (layout : Arrangement) (valid : IsLayout layout) where
  pub some_truth_answer : HasTruthNeeds s → (status : Status) × (text : List ℕ) × IsTruthAnswer s layout status text
  some_truth_answer needs =
      let gate = logic_of s.gate.inputs s.gate.outputs needs.gate.computed in
      let found = some_truth parts s gate layout valid needs.gate.is_gate in
      (found.0, found.1, record { gate = gate; given = given_by s.gate needs.gate; answers = found.2 })

  pub some_domain_answer : (told : Option Text) → HasDomainNeeds s → IsReadWhereGiven IsGridText told s.gate.grid → (status : Status) × (text : List ℕ) × IsDomainAnswer s layout status text
  some_domain_answer told needs read =
      let has = needs.truth.gate in
      let gate = logic_of s.gate.inputs s.gate.outputs has.computed in
      let grid = some_axes told s.gate.grid read needs.points in
      let found = some_domain parts s gate layout valid has.is_gate grid.0 grid.2 in
      (found.0, found.1, record { gate = gate; given = given_by s.gate has; axes = grid.0; points = grid.1; answers = found.2 })

pub told_truth : GatesHold → (s : Settings) (layout : Arrangement) (text : List ℕ) → IsTruthAnswer s layout Answered text → TellsTruth s layout text
told_truth laws s layout text is = record { gate = is.gate; given = is.given; tells = truth_tells laws s is.gate layout text is.answers }

pub told_domain : CellsHold → (s : Settings) (layout : Arrangement) (text : List ℕ) → IsDomainAnswer s layout Answered text → TellsDomain s layout text
told_domain laws s layout text is =
    record { gate = is.gate; given = is.given; axes = is.axes; points = is.points; tells = domain_tells laws.working laws.failing s is.gate is.axes layout text is.answers }
