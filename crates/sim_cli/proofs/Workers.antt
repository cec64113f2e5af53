-- settings that are alike but for their workers have the same answers
use Rattle.std.proofs.Common.{◌≡◌, ◌∙◌, inl, inr, ap, subst, ℕ, List}
use Rattle.std.specs.Prelude.{◌⊎◌}
use Rattle.charge_model.specs.Problem.{Problem}
use Rattle.sidb_layout.specs.Layout.{Arrangement}
use Rattle.command_words.specs.declared.settings.Settings.{Settings}
use Rattle.command_words.specs.declared.settings.SearchSettings.{SearchSettings}
use Rattle.command_words.specs.declared.settings.Task.{Task}
use Rattle.command_words.specs.declared.settings.Task.TheVariants.{Ground, Potentials, Certify, Check, Window, Occupation, Range, Gen, Truth, Domain, Region}
use Rattle.command_words.specs.Settings.{IsSettingsOf}
use Rattle.ground_report.specs.declared.about.About.{About}
use Rattle.ground_state.specs.Answer.{IsListedWithin, IsOverLimit, IsSolution, IsTooLongWithin}
use Rattle.ground_state.specs.Window.{IsWindowListedWithin, IsWindowOverLimit, IsWindowTooLongWithin}
use Rattle.run_answer.specs.declared.status.Status.{Status}
use Rattle.run_answer.specs.Status.{IsBudgetAnswer, IsLongListAnswer}
use Rattle.task_certificate.specs.CertifyAnswer.{IsCertifyAnswer, IsCertificateWithin}
use Rattle.task_certificate.specs.CheckAnswer.{IsCheckAnswer}
use Rattle.operational_domain.specs.Placed.{Placed, placed_of}
use Rattle.task_gate.specs.Answers.{IsDomainAnswer, IsTruthAnswer}
use Rattle.task_gate.specs.DomainAnswer.{IsDomainOfGate, IsDomainOutcome}
use Rattle.task_gate.specs.TruthAnswer.{IsTruthOfGate, IsTruthOutcome, placed_by}
use Rattle.task_gen.specs.GenAnswer.{IsGenAnswer, IsGenProblem}
use Rattle.task_ground.specs.GroundAnswer.{IsGroundAnswer, IsUnlisted}
use Rattle.task_levels.specs.OccupationAnswer.{IsOccupationAnswer}
use Rattle.task_levels.specs.RangeAnswer.{IsAnswerWithin, IsRangeAnswer, levels_between}
use Rattle.task_levels.specs.WindowAnswer.{IsWindowListAnswer, IsWindowUnlisted}
use Rattle.task_region.specs.RegionAnswer.{IsRegionAnswer, IsRegionOfGate, IsRegionOutcome}
use Rattle.sim_cli.specs.declared.kind.InputKind.{InputKind}
use Rattle.sim_cli.specs.declared.kind.InputKind.TheVariants.{ProblemText, CertificateText, NoText}
use Rattle.sim_cli.specs.Kind.{kind_of}
use Rattle.sim_cli.specs.Answer.{IsAnswer, IsAnswerFor, IsAnswerTo, IsProblemAnswer, IsTaskAnswer, OfLayout}
use Rattle.sim_cli.specs.Workers.{AreAlikeButWorkers}

-- the settings with other limits of their search
abbrev with_search : Settings → SearchSettings → Settings
with_search a search = record { task = a.task; form = a.form; params = a.params; search = search; report = a.report; levels = a.levels; gate = a.gate; generated = a.generated; region = a.region }

same_rest : (a b : Settings) → AreAlikeButWorkers a b → with_search a b.search ≡ b
same_rest a b alike =
    ap (λ task. record { task = task; form = a.form; params = a.params; search = b.search; report = a.report; levels = a.levels; gate = a.gate; generated = a.generated; region = a.region }) alike.task
    ∙ ap (λ form. record { task = b.task; form = form; params = a.params; search = b.search; report = a.report; levels = a.levels; gate = a.gate; generated = a.generated; region = a.region }) alike.form
    ∙ ap (λ params. record { task = b.task; form = b.form; params = params; search = b.search; report = a.report; levels = a.levels; gate = a.gate; generated = a.generated; region = a.region }) alike.params
    ∙ ap (λ report. record { task = b.task; form = b.form; params = b.params; search = b.search; report = report; levels = a.levels; gate = a.gate; generated = a.generated; region = a.region }) alike.report
    ∙ ap (λ levels. record { task = b.task; form = b.form; params = b.params; search = b.search; report = b.report; levels = levels; gate = a.gate; generated = a.generated; region = a.region }) alike.levels
    ∙ ap (λ gate. record { task = b.task; form = b.form; params = b.params; search = b.search; report = b.report; levels = b.levels; gate = gate; generated = a.generated; region = a.region }) alike.gate
    ∙ ap (λ generated. record { task = b.task; form = b.form; params = b.params; search = b.search; report = b.report; levels = b.levels; gate = b.gate; generated = generated; region = a.region }) alike.generated
    ∙ ap (λ region. record { task = b.task; form = b.form; params = b.params; search = b.search; report = b.report; levels = b.levels; gate = b.gate; generated = b.generated; region = region }) alike.region

unlisted : (a : Settings) (s : SearchSettings) → a.search.limit ≡ s.limit → (p : Problem) (status : Status) (text : List ℕ) → IsUnlisted a p status text → IsUnlisted (with_search a s) p status text
unlisted a s same p status text =
    subst (λ limit. (IsOverLimit p limit × IsBudgetAnswer limit status text) ⊎ (IsTooLongWithin p limit × IsLongListAnswer status text)) same

ground : (a : Settings) (s : SearchSettings) → a.search.limit ≡ s.limit → (about : About) (p : Problem) (status : Status) (text : List ℕ) → IsGroundAnswer a about p status text → IsGroundAnswer (with_search a s) about p status text
ground a s same about p status text (inl is) =
    inl (is.0, record { entries = is.1.entries; list = subst (λ limit. IsListedWithin p limit is.1.entries) same is.1.list; prints = is.1.prints })
ground a s same about p status text (inr is) = inr (unlisted a s same p status text is)

certify : (a : Settings) (s : SearchSettings) → a.search.limit ≡ s.limit → (p : Problem) (status : Status) (text : List ℕ) → IsCertifyAnswer a p status text → IsCertifyAnswer (with_search a s) p status text
certify a s same p status text (inl is) = inl (is.0, subst (λ limit. IsCertificateWithin p limit text) same is.1)
certify a s same p status text (inr is) = inr (unlisted a s same p status text is)

beyond : (a : Settings) (s : SearchSettings) → a.search.limit ≡ s.limit → (p : Problem) (status : Status) (text : List ℕ) → IsWindowUnlisted a p status text → IsWindowUnlisted (with_search a s) p status text
beyond a s same p status text is =
    let width = a.levels.window.width in
    subst (λ limit. (IsWindowOverLimit p width limit × IsBudgetAnswer limit status text) ⊎ (IsWindowTooLongWithin p width limit × IsLongListAnswer status text)) same is

window : (a : Settings) (s : SearchSettings) → a.search.limit ≡ s.limit → (about : About) (p : Problem) (status : Status) (text : List ℕ) → IsWindowListAnswer a about p status text → IsWindowListAnswer (with_search a s) about p status text
window a s same about p status text (inl is) =
    let width = a.levels.window.width in
    inl (is.0, record { entries = is.1.entries; list = subst (λ limit. IsWindowListedWithin p width limit is.1.entries) same is.1.list; prints = is.1.prints })
window a s same about p status text (inr is) = inr (beyond a s same p status text is)

occupation : (a : Settings) (s : SearchSettings) → a.search.limit ≡ s.limit → (p : Problem) (status : Status) (text : List ℕ) → IsOccupationAnswer a p status text → IsOccupationAnswer (with_search a s) p status text
occupation a s same p status text (inl is) =
    let width = a.levels.window.width in
    inl (is.0, record { entries = is.1.entries; list = subst (λ limit. IsWindowListedWithin p width limit is.1.entries) same is.1.list; shares = is.1.shares; by_rule = is.1.by_rule; prints = is.1.prints })
occupation a s same p status text (inr is) = inr (beyond a s same p status text is)

range : (a : Settings) (s : SearchSettings) → a.search.limit ≡ s.limit → (p : Problem) (status : Status) (text : List ℕ) → IsRangeAnswer a p status text → IsRangeAnswer (with_search a s) p status text
range a s same p status text is =
    record { range = is.range; asked = is.asked; answer = subst (λ limit. IsAnswerWithin p (levels_between is.range) limit status text) same is.answer }

table_of_gate : (a : Settings) (s : SearchSettings) (v : Placed) (status : Status) (text : List ℕ) → IsTruthOutcome a v status text → IsTruthOutcome (with_search a s) v status text
table_of_gate a s v status text (inl is) = inl (is.0, record { table = is.1.table; answers = is.1.answers; prints = is.1.prints })
table_of_gate a s v status text (inr is) = inr is

truth : (a : Settings) (s : SearchSettings) → a.search.limit ≡ s.limit → (layout : Arrangement) (status : Status) (text : List ℕ) → IsTruthAnswer a layout status text → IsTruthAnswer (with_search a s) layout status text
truth a s same layout status text is = record { gate = is.gate; given = is.given; answers = by is.answers }
  where
    by : IsTruthOfGate a is.gate layout status text → IsTruthOfGate (with_search a s) is.gate layout status text
    by (inl on) = inl (on.0, subst (λ limit. IsTruthOutcome (with_search a s) (placed_of layout is.gate limit) status text) same (table_of_gate a s (placed_by a is.gate layout) status text on.1))
    by (inr off) = inr off

domain : (a : Settings) (s : SearchSettings) → a.search.limit ≡ s.limit → (layout : Arrangement) (status : Status) (text : List ℕ) → IsDomainAnswer a layout status text → IsDomainAnswer (with_search a s) layout status text
domain a s same layout status text is = record { gate = is.gate; given = is.given; axes = is.axes; points = is.points; answers = by is.answers }
  where
    moved : IsDomainOutcome a (placed_by a is.gate layout) is.axes status text → IsDomainOutcome (with_search a s) (placed_by a is.gate layout) is.axes status text
    moved on = (on.0, record { cells = on.1.cells; of_grid = on.1.of_grid; prints = on.1.prints })

    by : IsDomainOfGate a is.gate is.axes layout status text → IsDomainOfGate (with_search a s) is.gate is.axes layout status text
    by (inl on) = inl (on.0, subst (λ limit. IsDomainOutcome (with_search a s) (placed_of layout is.gate limit) is.axes status text) same (moved on.1))
    by (inr off) = inr off

region : (a : Settings) (s : SearchSettings) → a.search.limit ≡ s.limit → (layout : Arrangement) (status : Status) (text : List ℕ) → IsRegionAnswer a layout status text → IsRegionAnswer (with_search a s) layout status text
region a s same layout status text is = record { gate = is.gate; given = is.given; axes = is.axes; points = is.points; answers = by is.answers }
  where
    moved : IsRegionOutcome a (placed_by a is.gate layout) is.axes status text → IsRegionOutcome (with_search a s) (placed_by a is.gate layout) is.axes status text
    moved on = (on.0, record { tiles = on.1.tiles; of_grid = on.1.of_grid; prints = on.1.prints })

    by : IsRegionOfGate a is.gate is.axes layout status text → IsRegionOfGate (with_search a s) is.gate is.axes layout status text
    by (inl on) = inl (on.0, subst (λ limit. IsRegionOutcome (with_search a s) (placed_of layout is.gate limit) is.axes status text) same (moved on.1))
    by (inr off) = inr off

generated : (a : Settings) (s : SearchSettings) (p : Problem) → IsGenProblem a p → IsGenProblem (with_search a s) p
generated a s p is = record { layout = is.layout; made = is.made; of_layout = is.of_layout; holds = is.holds }

gen : (a : Settings) (s : SearchSettings) → a.search.limit ≡ s.limit → (status : Status) (text : List ℕ) → IsGenAnswer a status text → IsGenAnswer (with_search a s) status text
gen a s same status text (inl is) = inl (
  is.0,
  record {
    problem = is.1.problem;
    generated = generated a s is.1.problem is.1.generated;
    solved = is.1.solved;
    solution = subst (λ limit. IsSolution is.1.problem limit is.1.solved) same is.1.solution;
    few = is.1.few;
    prints = is.1.prints;
  },
)
gen a s same status text (inr (inl (is, line))) = inr (inl (
  record { problem = is.problem; generated = generated a s is.problem is.generated; over = subst (λ limit. IsOverLimit is.problem limit) same is.over },
  subst (λ limit. IsBudgetAnswer limit status text) same line,
))
gen a s same status text (inr (inr (is, line))) = inr (inr (
  record { problem = is.problem; generated = generated a s is.problem is.generated; long = subst (λ limit. IsTooLongWithin is.problem limit) same is.long },
  line,
))

check : (a : Settings) (s : SearchSettings) (bytes : List ℕ) (status : Status) (text : List ℕ) → IsCheckAnswer a bytes status text → IsCheckAnswer (with_search a s) bytes status text
check a s bytes status text (inl is) = inl is
check a s bytes status text (inr is) =
    inr (record { problem = is.problem; entries = is.entries; tokens = is.tokens; short = is.short; means = is.means; verdict = is.verdict })

for_task : (task : Task) (a : Settings) (s : SearchSettings) → a.search.limit ≡ s.limit → (about : About) (p : Problem) (status : Status) (text : List ℕ) → IsAnswerFor task a about p status text → IsAnswerFor task (with_search a s) about p status text
for_task Ground a s same about p status text is = ground a s same about p status text is
for_task Potentials a s same about p status text is = is
for_task Certify a s same about p status text is = certify a s same p status text is
for_task Window a s same about p status text is = window a s same about p status text is
for_task Occupation a s same about p status text is = occupation a s same p status text is
for_task Range a s same about p status text is = range a s same p status text is
for_task Truth a s same about p status text is = record { layout = is.layout; told = is.told; holds = truth a s same is.layout status text is.holds }
for_task Domain a s same about p status text is = record { layout = is.layout; told = is.told; holds = domain a s same is.layout status text is.holds }
for_task Region a s same about p status text is = record { layout = is.layout; told = is.told; holds = region a s same is.layout status text is.holds }
for_task Check a s same about p status text is = is
for_task Gen a s same about p status text is = is

problem : (a : Settings) (s : SearchSettings) → a.search.limit ≡ s.limit → (bytes : List ℕ) (status : Status) (text : List ℕ) → IsProblemAnswer a bytes status text → IsProblemAnswer (with_search a s) bytes status text
problem a s same bytes status text (inl is) = inl (record { fault = is.fault; refuses = is.refuses; tells = is.tells })
problem a s same bytes status text (inr is) =
    inr (record { problem = is.problem; about = is.about; means = record { short = is.means.short; means = is.means.means }; answers = for_task a.task a s same is.about is.problem status text is.answers })

of_kind : (kind : InputKind) (a : Settings) (s : SearchSettings) → a.search.limit ≡ s.limit → (bytes : List ℕ) (status : Status) (text : List ℕ) → IsAnswerTo kind a bytes status text → IsAnswerTo kind (with_search a s) bytes status text
of_kind ProblemText a s same bytes status text is = problem a s same bytes status text is
of_kind CertificateText a s same bytes status text is = check a s bytes status text is
of_kind NoText a s same bytes status text is = gen a s same status text is

pub settings_answer_alike : (a b : Settings) → AreAlikeButWorkers a b → (bytes : List ℕ) (status : Status) (text : List ℕ) → IsTaskAnswer a bytes status text → IsTaskAnswer b bytes status text
settings_answer_alike a b alike bytes status text is =
    subst (λ s. IsTaskAnswer s bytes status text) (same_rest a b alike) (of_kind (kind_of a.task) a b.search alike.limit bytes status text is)

pub words_answer_alike : ((words : List (List ℕ)) (a b : Settings) → IsSettingsOf words a → IsSettingsOf words b → a ≡ b)
    → (v w : List (List ℕ)) (a b : Settings) → IsSettingsOf v a → IsSettingsOf w b → AreAlikeButWorkers a b
    → (bytes : List ℕ) (status : Status) (text : List ℕ) → IsAnswer v bytes status text → IsAnswer w bytes status text
words_answer_alike one v w a b of_v of_w alike bytes status text (inl is) = absurd (is.0 a of_v)
words_answer_alike one v w a b of_v of_w alike bytes status text (inr is) =
    inr (b, of_w, settings_answer_alike a b alike bytes status text (subst (λ s. IsTaskAnswer s bytes status text) (one v is.0 a is.1 of_v) is.2))
