-- the problem of a layout and parameters
use Rattle.std.specs.Prelude.{◌≡◌, ◌≢◌, ℕ, ℤ, pos, ◌<◌, ◌-ℤ◌, ◌≤ℤ◌, neg_ℤ, List, map, length, slice_index}
use Rattle.charge_model.specs.declared.TheConstants.{MAX_POTENTIAL}
use Rattle.charge_model.specs.declared.span.Span.{Span}
use Rattle.charge_model.specs.Problem.{Problem, class_of, near_class_of, lo_in, hi_in}
use Rattle.sidb_lattice.specs.Layout.{Arrangement}
use Rattle.sidb_lattice.specs.Classes.{AreClasses, Classing, near_distance, pair_distance}
use Rattle.model_params.specs.declared.params.Params.{Params}
use Rattle.screened_coulomb.specs.Potential.{HoldsDistance}
use Rattle.screened_coulomb.specs.Rounding.{IsRoundedSpan}

-- the ends of the span of a class with the squared distance d
pub record IsClassSpan (p : Params) (d : ℕ) (lo hi : ℤ) : Type 0 where
  pub rounded : IsRoundedSpan p d lo hi
  pub holds : HoldsDistance p d lo hi
  pub from_zero : pos 0 ≤ℤ lo
  pub in_order : lo ≤ℤ hi
  pub within : hi ≤ℤ MAX_POTENTIAL

-- the spans of the first classes of these squared distances
pub record AreSpansBelow (p : Params) (distances : List ℕ) (spans : List Span) (n : ℕ) : Type 0
  where
    pub whole : length spans ≡ n
    pub each : (c : ℕ) → c < n
        → IsClassSpan p (slice_index distances c) (lo_in spans c) (hi_in spans c)

-- the spans of all classes
abbrev pub AreClassSpans : Params → List ℕ → List Span → Type 0
AreClassSpans p distances spans = AreSpansBelow p distances spans (length distances)

-- the problem of a layout: its sites and fixed charges, the levels of the parameters,
-- the classes of the layout by rising squared distance, and the rounded span of each class
pub record IsProblemOf (layout : Arrangement) (p : Params) (problem : Problem) : Type 0 where
  pub sites : problem.sites ≡ length layout.sites
  pub base : problem.base ≡ p.base
  pub mu_minus : problem.mu_minus ≡ neg_ℤ p.depth
  pub mu_plus : problem.mu_plus ≡ problem.mu_minus -ℤ p.gap
  pub fixed : problem.fixed_charges ≡ map (λ f. f.charge) layout.fixes
  pub classes : Classing
  pub of_layout : AreClasses layout classes
  pub pair_classes : problem.pair_classes ≡ classes.pair_classes
  pub near_classes : problem.near_classes ≡ classes.near_classes
  pub spans : length problem.spans ≡ length classes.distances
  pub rounded : (c : ℕ) → c < length classes.distances
      → IsRoundedSpan p (slice_index classes.distances c)
      (lo_in problem.spans c) (hi_in problem.spans c)

-- the span of a class of the problem holds the squared distance d
abbrev pub HoldsAt : Params → Problem → ℕ → ℕ → Type 0
HoldsAt p problem class d =
    HoldsDistance p d (lo_in problem.spans class) (hi_in problem.spans class)

-- the span of each pair's class holds the squared distance of the pair,
-- for two sites and for a site and a fixed charge
pub record HoldsDistances (layout : Arrangement) (p : Params) (problem : Problem) : Type 0 where
  pub pairs : (i j : ℕ) → i ≢ j → i < length layout.sites → j < length layout.sites
      → HoldsAt p problem (class_of problem i j) (pair_distance layout i j)
  pub nears : (i a : ℕ) → i < length layout.sites → a < length layout.fixes
      → HoldsAt p problem (near_class_of problem i a) (near_distance layout i a)
