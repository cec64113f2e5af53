-- what each pattern of a gate answers on a rectangle of parameters
use Rattle.std.specs.Prelude.{◌≡◌, ℕ, List, [], ◌∷◌}
use Rattle.charge_model.specs.Problem.{Problem}
use Rattle.charge_model.specs.GroundList.{Entry}
use Rattle.narrower_lists.specs.Listed.{ListedProblem}
use Rattle.bdl_pairs.specs.Remaining.{Remaining, IsLeft}
use Rattle.bdl_pairs.specs.declared.truth.PatternAnswer.{PatternAnswer}
use Rattle.bdl_pairs.specs.declared.verdicts.PatternVerdict.{PatternVerdict}
use Rattle.operational_domain.specs.declared.patterns.PatternSolved.{PatternSolved}
use Rattle.operational_domain.specs.declared.patterns.PatternSolved.TheVariants.{Answer, Budget, ListTooLong, Memory}
use Rattle.operational_domain.specs.Patterns.{IsShapedSolved, wanted_at}
use Rattle.operational_domain.specs.Placed.{Placed}
use Rattle.parameter_regions.specs.declared.rectangles.Rectangle.{Rectangle}
use Rattle.parameter_regions.specs.Regions.{IsRegionProblemOf}
use Rattle.region_domain.specs.declared.patterns.PatternFound.{PatternFound}
use Rattle.region_domain.specs.declared.patterns.PatternFound.TheVariants.{Verdict, Budget as FoundBudget, ListTooLong as FoundTooLong, Memory as FoundMemory}

-- what a pattern leaves of the layout, and the problem of that over a rectangle
pub record IsTileProblem (placed : Placed) (r : Rectangle) (pattern : ℕ) (left : Remaining)
    (problem : Problem) : Type 0 where
  pub left_by : IsLeft placed.whole placed.gate pattern left
  pub problem_of : IsRegionProblemOf left.layout r problem

-- what solving the pattern's problem over the rectangle answers
pub record IsSolvedOver (placed : Placed) (r : Rectangle) (pattern : ℕ) (solved : PatternSolved)
    : Type 0 where
  pub left : Remaining
  pub problem : Problem
  pub of_pattern : IsTileProblem placed r pattern left problem
  pub answers : IsShapedSolved left problem (wanted_at placed.gate pattern) placed.limit solved

-- what each answer says; want of memory says nothing
abbrev pub IsTileSolved : Placed → Rectangle → ℕ → PatternSolved → Type 0
IsTileSolved placed r pattern (Answer a) = IsSolvedOver placed r pattern (Answer a)
IsTileSolved placed r pattern Budget = IsSolvedOver placed r pattern Budget
IsTileSolved placed r pattern ListTooLong = IsSolvedOver placed r pattern ListTooLong
IsTileSolved placed r pattern Memory = Unit {0}

-- a pattern has this verdict, by its ground list over the rectangle
pub record HasTileVerdict (placed : Placed) (r : Rectangle) (pattern : ℕ)
    (verdict : PatternVerdict) : Type 0 where
  pub answer : PatternAnswer
  pub solved : IsTileSolved placed r pattern (Answer answer)
  pub says : answer.verdict ≡ verdict

-- something holds of the list that a pattern has, if it has one
abbrev pub IfPatternListed : PatternSolved → (List Entry → Type 0) → Type 0
IfPatternListed (Answer a) holds = holds a.list
IfPatternListed Budget holds = Unit {0}
IfPatternListed ListTooLong holds = Unit {0}
IfPatternListed Memory holds = Unit {0}

-- what is found of a pattern: its verdict, or why it has none; want of memory says nothing
abbrev pub IsTileFound : Placed → Rectangle → ℕ → PatternFound → Type 0
IsTileFound placed r pattern (Verdict verdict solved) = HasTileVerdict placed r pattern verdict
IsTileFound placed r pattern FoundBudget = IsTileSolved placed r pattern Budget
IsTileFound placed r pattern FoundTooLong = IsTileSolved placed r pattern ListTooLong
IsTileFound placed r pattern FoundMemory = Unit {0}

-- the solved problem of a pattern, if there is one
abbrev pub problems_of : PatternFound → List ListedProblem
problems_of (Verdict verdict solved) = solved ∷ []
problems_of FoundBudget = []
problems_of FoundTooLong = []
problems_of FoundMemory = []
