-- what the answers of gates tell
use Rattle.std.proofs.Common.{◌≡◌, ◌∙◌, sym, ap, subst, ℕ, ◌<◌, inl, inr, List, length, slice_index_or, arith}
use Rattle.sidb_layout.specs.Layout.{Arrangement}
use Rattle.command_words.specs.declared.settings.Settings.{Settings}
use Rattle.gate_model.specs.Grids.{Axes}
use Rattle.gate_model.specs.Logic.{Logic, pattern_count}
use Rattle.bdl_pairs.specs.declared.verdicts.PatternVerdict.TheVariants.{Works as PatternWorks, Fails as PatternFails}
use Rattle.bdl_pairs.specs.declared.truth.PatternAnswer.{PatternAnswer}
use Rattle.bdl_pairs.specs.declared.cell.CellAnswer.TheVariants.{Works, Fails}
use Rattle.run_answer.specs.declared.status.Status.TheVariants.{Answered}
use Rattle.operational_domain.specs.Patterns.{Setting}
use Rattle.operational_domain.specs.Cells.{HasVerdict, IsCellAnswer}
use Rattle.operational_domain.specs.Promises.{MissesAlways, ReadsAlways}
use Rattle.task_gate.specs.TruthAnswer.{IsTruthOfGate, IsTruthReport, asked_by, placed_by}
use Rattle.task_gate.specs.DomainAnswer.{IsDomainOfGate, IsDomainReport}
use Rattle.task_gate.specs.Told.{TellsDomainOfGate, TellsTruthOfGate}
use Rattle.task_gate.proofs.Overall.{WorkingTablesWork, fails_at, verdict_of}

abbrev pub WorkingRead : Type 0
WorkingRead = (s : Setting) (k : ℕ) → HasVerdict s k PatternWorks → ReadsAlways s k

abbrev pub FailingMiss : Type 0
FailingMiss = (s : Setting) (k : ℕ) → HasVerdict s k PatternFails → MissesAlways s k

abbrev pub WorkingGatesRead : Type 0
WorkingGatesRead = (s : Setting) (k : ℕ) → IsCellAnswer s Works → k < pattern_count s.gate → ReadsAlways s k

abbrev pub FailingGatesMiss : Type 0
FailingGatesMiss = (s : Setting) (k : ℕ) → IsCellAnswer s (Fails k) → MissesAlways s k

-- what the laws say of each point
pub record CellsHold : Type 0 where
  pub working : WorkingGatesRead
  pub failing : FailingGatesMiss

-- what they say of each pattern and each table
pub record GatesHold : Type 0 where
  pub working : WorkingRead
  pub failing : FailingMiss
  pub tables : WorkingTablesWork

truth_report_tells : GatesHold → (s : Settings) (gate : Logic) (layout : Arrangement) (text : List ℕ) → IsTruthReport s (placed_by s gate layout) text → TellsTruthOfGate s gate layout text
truth_report_tells laws s gate layout text is = record {
  table = is.table;
  count = is.answers.count;
  prints = is.prints;
  holds = λ k lt.
      let one = is.answers.each k lt in (
        one.0,
        one.1,
        record {
          works = λ e. laws.working (asked_by s gate layout) k (record { answer = one.0; of_pattern = one.2; says = e });
          fails = λ e. laws.failing (asked_by s gate layout) k (record { answer = one.0; of_pattern = one.2; says = e });
        },
      );
  works = λ all k lt.
      let one = is.answers.each k lt in
      let says = verdict_of is.table k one.0 PatternWorks (subst (λ n. k < n) (sym is.answers.count) lt) one.1 (laws.tables is.table all) in
      laws.working (asked_by s gate layout) k (record { answer = one.0; of_pattern = one.2; says = says });
  fails = λ k named.
      let found = fails_at 0 is.table k named in
      let place : k ≡ found.0 = omega (arith, found.1) in
      let lt : k < pattern_count gate = subst (λ n. k < n) is.answers.count (subst (λ i. i < length is.table) (sym place) found.2) in
      let one = is.answers.each k lt in
      let says = subst (λ i. (d : PatternAnswer) → (slice_index_or is.table i d).verdict ≡ PatternFails) (sym place) found.3 one.0 in
      laws.failing (asked_by s gate layout) k (record { answer = one.0; of_pattern = one.2; says = ap (λ (a : PatternAnswer). a.verdict) (sym one.1) ∙ says });
}

pub truth_tells : GatesHold → (s : Settings) (gate : Logic) (layout : Arrangement) (text : List ℕ) → IsTruthOfGate s gate layout Answered text → TellsTruthOfGate s gate layout text
truth_tells laws s gate layout text (inl (on, inl (status, is))) = truth_report_tells laws s gate layout text is
truth_tells laws s gate layout text (inl (on, inr (inl (over, line)))) = absurd (cc (line.0))
truth_tells laws s gate layout text (inl (on, inr (inr (long, line)))) = absurd (cc (line.0))
truth_tells laws s gate layout text (inr site) = absurd (cc (site.answers.status_is))

domain_report_tells : WorkingGatesRead → FailingGatesMiss → (s : Settings) (gate : Logic) (a : Axes) (layout : Arrangement) (text : List ℕ) → IsDomainReport s (placed_by s gate layout) a text → TellsDomainOfGate s gate a layout text
domain_report_tells reads misses s gate a layout text is = record {
  cells = is.cells;
  count = is.of_grid.count;
  prints = is.prints;
  holds = λ k lt.
      let one = is.of_grid.each k lt in
      let at = one.2 in (
        one.0,
        one.1,
        record {
          point = at.point;
          of_grid = at.of_grid;
          works = λ e j below. reads _ j (subst (IsCellAnswer _) e at.answers.answer) below;
          fails = λ j e. misses _ j (subst (IsCellAnswer _) e at.answers.answer);
        },
      );
}

pub domain_tells : WorkingGatesRead → FailingGatesMiss → (s : Settings) (gate : Logic) (a : Axes) (layout : Arrangement) (text : List ℕ) → IsDomainOfGate s gate a layout Answered text → TellsDomainOfGate s gate a layout text
domain_tells reads misses s gate a layout text (inl (on, (status, is))) = domain_report_tells reads misses s gate a layout text is
domain_tells reads misses s gate a layout text (inr site) = absurd (cc (site.answers.status_is))
