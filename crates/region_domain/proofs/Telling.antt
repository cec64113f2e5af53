-- what the answer of a gate on a rectangle tells of every point of it
use Rattle.std.proofs.Common.{ℕ, List, subst, sym}
use Rattle.std.specs.Prelude.{Bool}
use Rattle.charge_model.specs.declared.charge.Charge.{Charge}
use Rattle.charge_model.specs.Problem.{IsTable, Problem, UnderEveryTable}
use Rattle.charge_model.specs.Rules.{IsGroundState}
use Rattle.charge_model.specs.GroundList.{Entry, IsMarkedGroundList}
use Rattle.sidb_layout.specs.Layout.{Arrangement}
use Rattle.gate_model.specs.declared.pairs.PairOf.{PairOf}
use Rattle.bdl_pairs.specs.Readings.{IsRight}
use Rattle.bdl_pairs.specs.Verdict.{IsFailing, IsVerdict, IsWorking}
use Rattle.bdl_pairs.specs.declared.verdicts.PatternVerdict.{PatternVerdict}
use Rattle.bdl_pairs.specs.declared.verdicts.PatternVerdict.TheVariants.{Works as PatternWorks, Fails as PatternFails}
use Rattle.bdl_pairs.specs.declared.cell.CellAnswer.{CellAnswer}
use Rattle.bdl_pairs.specs.declared.cell.CellAnswer.TheVariants.{Works, Fails, Undecided, Budget, Long}
use Rattle.operational_domain.specs.Patterns.{wanted_at}
use Rattle.operational_domain.specs.Placed.{Placed}
use Rattle.parameter_regions.specs.declared.rectangles.Rectangle.{Rectangle}
use Rattle.parameter_regions.specs.Regions.{AtEveryPoint, IsRegionProblemOf}
use Rattle.region_domain.specs.Patterns.{HasTileVerdict}
use Rattle.region_domain.specs.Tiles.{IsTileAnswer}
use Rattle.region_domain.specs.Promises.{MissesEverywhere, ReadsEverywhere, TellsEverywhere}

-- the laws below
pub record LawsTell : Type 0 where
  pub tables : (layout : Arrangement) (r : Rectangle) (q : Problem) → IsRegionProblemOf layout r q → AtEveryPoint layout r q (IsTable q)
  pub there : (p : Problem) (outputs : List PairOf) (wanted : Bool) (es : List Entry) → IsMarkedGroundList p es → IsWorking outputs wanted es
      → UnderEveryTable p (λ t. (g : List Charge) × IsGroundState p t g)
  pub right : (p : Problem) (outputs : List PairOf) (wanted : Bool) (es : List Entry) → IsMarkedGroundList p es → IsWorking outputs wanted es
      → UnderEveryTable p (λ t. (g : List Charge) → IsGroundState p t g → IsRight outputs wanted g)
  pub wrong : (p : Problem) (outputs : List PairOf) (wanted : Bool) (es : List Entry) → IsMarkedGroundList p es → IsFailing outputs wanted es
      → UnderEveryTable p (λ t. (g : List Charge) × IsGroundState p t g × (IsRight outputs wanted g → ⊥))

-- a pattern's verdict speaks of the bit that it wants
verdict_on : (placed : Placed) (r : Rectangle) (k : ℕ) (v : PatternVerdict) → (has : HasTileVerdict placed r k v)
    → IsVerdict has.solved.left.outputs (wanted_at placed.gate k) has.answer.list v
verdict_on placed r k v has =
    let s = has.solved in
    subst (λ w. IsVerdict s.left.outputs w has.answer.list v) s.answers.bit
    (subst (λ x. IsVerdict s.left.outputs has.answer.wanted has.answer.list x) has.says s.answers.verdict)

module _ (laws : LawsTell) (placed : Placed) (r : Rectangle) where
  reads : (k : ℕ) → HasTileVerdict placed r k PatternWorks → ReadsEverywhere placed r k
  reads k has =
      let s = has.solved in
      let wanted = wanted_at placed.gate k in
      let list = s.answers.listed.list in
      let says = verdict_on placed r k PatternWorks has in
      record {
        left = s.left;
        problem = s.problem;
        of_pattern = s.of_pattern;
        reads = λ point inside t at.
            let table = laws.tables s.left.layout r s.problem s.of_pattern.problem_of point inside t at in
            let ground = laws.there s.problem s.left.outputs wanted has.answer.list list says t table in
            record { ground = ground.0; there = ground.1; right = laws.right s.problem s.left.outputs wanted has.answer.list list says t table };
      }

  misses : (k : ℕ) → HasTileVerdict placed r k PatternFails → MissesEverywhere placed r k
  misses k has =
      let s = has.solved in
      let wanted = wanted_at placed.gate k in
      let says = verdict_on placed r k PatternFails has in
      record {
        left = s.left;
        problem = s.problem;
        of_pattern = s.of_pattern;
        misses = λ point inside t at.
            let table = laws.tables s.left.layout r s.problem s.of_pattern.problem_of point inside t at in
            let (ground, there, wrong) = laws.wrong s.problem s.left.outputs wanted has.answer.list s.answers.listed.list says t table in
            record { ground = ground; there = there; wrong = wrong };
      }

  pub tells : (answer : CellAnswer) → IsTileAnswer placed r answer → TellsEverywhere placed r answer
  tells Works is = λ k lt. reads k (is k lt)
  tells (Fails j) is = subst (MissesEverywhere placed r) (sym is.reason.0) (misses is.pattern is.reason.1)
  tells (Undecided j) is = tt
  tells (Budget j) is = tt
  tells (Long j) is = tt
