-- what a gate does at every point of a rectangle, under every table of the potentials there
use Rattle.std.specs.Prelude.{ℕ, ◌<◌, Bool, List}
use Rattle.charge_model.specs.declared.charge.Charge.{Charge}
use Rattle.charge_model.specs.Problem.{Problem, Table}
use Rattle.charge_model.specs.Rules.{IsGroundState}
use Rattle.gate_model.specs.declared.pairs.PairOf.{PairOf}
use Rattle.gate_model.specs.Logic.{pattern_count}
use Rattle.bdl_pairs.specs.Readings.{IsRight}
use Rattle.bdl_pairs.specs.Remaining.{Remaining}
use Rattle.bdl_pairs.specs.declared.cell.CellAnswer.{CellAnswer}
use Rattle.bdl_pairs.specs.declared.cell.CellAnswer.TheVariants.{Works, Fails, Undecided, Budget, Long}
use Rattle.operational_domain.specs.Patterns.{wanted_at}
use Rattle.operational_domain.specs.Placed.{Placed}
use Rattle.parameter_regions.specs.declared.rectangles.Rectangle.{Rectangle}
use Rattle.parameter_regions.specs.Regions.{AtEveryPoint}
use Rattle.region_domain.specs.Patterns.{IsTileProblem}

-- there is a ground state, and each reads the wanted bit at every output
pub record ReadsTheBit (p : Problem) (outputs : List PairOf) (wanted : Bool) (t : Table) : Type 0
  where
    pub ground : List Charge
    pub there : IsGroundState p t ground
    pub right : (g : List Charge) → IsGroundState p t g → IsRight outputs wanted g

-- there is a ground state that does not read it
pub record MissesTheBit (p : Problem) (outputs : List PairOf) (wanted : Bool) (t : Table) : Type 0
  where
    pub ground : List Charge
    pub there : IsGroundState p t ground
    pub wrong : IsRight outputs wanted ground → ⊥

-- at every point of the rectangle, under every table of the potentials there, a pattern has a
-- ground state, and each reads the wanted bit at every output
pub record ReadsEverywhere (placed : Placed) (r : Rectangle) (k : ℕ) : Type 0 where
  pub left : Remaining
  pub problem : Problem
  pub of_pattern : IsTileProblem placed r k left problem
  pub reads : AtEveryPoint left.layout r problem
      (ReadsTheBit problem left.outputs (wanted_at placed.gate k))

-- at every point of the rectangle, under every table of the potentials there, a pattern has a
-- ground state that does not read it
pub record MissesEverywhere (placed : Placed) (r : Rectangle) (k : ℕ) : Type 0 where
  pub left : Remaining
  pub problem : Problem
  pub of_pattern : IsTileProblem placed r k left problem
  pub misses : AtEveryPoint left.layout r problem
      (MissesTheBit problem left.outputs (wanted_at placed.gate k))

-- what an answer on a rectangle tells of every point of it: where the gate works each pattern reads
-- its bit there, where it fails the named pattern misses it, and else nothing
abbrev pub TellsEverywhere : Placed → Rectangle → CellAnswer → Type 0
TellsEverywhere placed r Works =
    (k : ℕ) → k < pattern_count placed.gate → ReadsEverywhere placed r k
TellsEverywhere placed r (Fails k) = MissesEverywhere placed r k
TellsEverywhere placed r (Undecided k) = Unit {0}
TellsEverywhere placed r (Budget k) = Unit {0}
TellsEverywhere placed r (Long k) = Unit {0}
