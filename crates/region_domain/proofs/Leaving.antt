-- the problem over a rectangle of what a pattern leaves
use Rattle.std.proofs.Common.{◌≡◌, ◌∙◌, ap, ℕ, length, subst}
use Rattle.std.specs.Prelude.{Bool}
use Rattle.charge_model.specs.Problem.{Problem}
use Rattle.sidb_layout.specs.Layout.{Arrangement}
use Rattle.bdl_pairs.specs.Remaining.{IsLeft, Remaining}
use Rattle.operational_domain.specs.declared.patterns.PatternSolved.{PatternSolved}
use Rattle.operational_domain.specs.declared.patterns.PatternSolved.TheVariants.{Answer, Budget, ListTooLong, Memory}
use Rattle.operational_domain.specs.Patterns.{IsShapedSolved, wanted_at}
use Rattle.operational_domain.specs.Placed.{Placed}
use Rattle.parameter_regions.specs.declared.rectangles.Rectangle.{Rectangle}
use Rattle.parameter_regions.specs.Regions.{IsRegionProblemOf}
use Rattle.ground_state.specs.Answer.{IsListedWithin}
use Rattle.region_domain.specs.Patterns.{IfPatternListed, IsSolvedOver, IsTileSolved}

-- its sites are those of the layout
pub region_sites : (layout : Arrangement) (r : Rectangle) (q : Problem) → IsRegionProblemOf layout r q → q.sites ≡ length layout.sites
region_sites layout r q is = ap (λ (p : Problem). p.sites) is.rest ∙ is.of_weakest.sites

-- what is solved of what a pattern leaves is solved of the pattern
pub tile_solved : (placed : Placed) (r : Rectangle) (k : ℕ) (left : Remaining) (problem : Problem) (wanted : Bool) (limit : ℕ) (solved : PatternSolved) (layout : Arrangement)
    → IsLeft placed.whole placed.gate k left → layout ≡ left.layout → IsRegionProblemOf layout r problem → wanted ≡ wanted_at placed.gate k → limit ≡ placed.limit
    → IsShapedSolved left problem wanted limit solved → IsTileSolved placed r k solved
tile_solved placed r k left problem wanted limit solved layout left_by same of_layout bit most is = by solved over
  where
    over : IsSolvedOver placed r k solved
    over = record {
      left = left;
      problem = problem;
      of_pattern = record { left_by = left_by; problem_of = subst (λ l. IsRegionProblemOf l r problem) same of_layout };
      answers = subst (λ n. IsShapedSolved left problem (wanted_at placed.gate k) n solved) most (subst (λ w. IsShapedSolved left problem w limit solved) bit is);
    }

    by : (s : PatternSolved) → IsSolvedOver placed r k s → IsTileSolved placed r k s
    by (Answer a) h = h
    by Budget h = h
    by ListTooLong h = h
    by Memory h = tt

-- the list of a shaped answer was found within the limit
pub listed_of : (left : Remaining) (problem : Problem) (wanted : Bool) (limit : ℕ) (solved : PatternSolved) → IsShapedSolved left problem wanted limit solved → IfPatternListed solved (IsListedWithin problem limit)
listed_of left problem wanted limit (Answer a) is = is.listed
listed_of left problem wanted limit Budget is = tt
listed_of left problem wanted limit ListTooLong is = tt
listed_of left problem wanted limit Memory is = tt
