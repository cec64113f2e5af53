-- charge lists with their levels and energies
use Rattle.std.specs.Prelude.{◌≡◌, ℤ, ◌-ℤ◌, List, map, All}
use Rattle.charge_model.specs.declared.charge.Charge.{Charge}
use Rattle.charge_model.specs.Problem.{Problem, Table, IsLeast, IsGreatest}
use Rattle.charge_model.specs.Rules.{IsChargeList, energy}
use Rattle.linear_form.specs.Forms.{value_of, IsFormOf}
use Rattle.level_range_laws.specs.declared.interval.Interval.{Interval}
use Rattle.level_range_laws.specs.Candidates.{AreAllCandidates}
use Rattle.level_candidates.specs.declared.candidate.LevelCandidate.{LevelCandidate}
use Rattle.level_candidates.specs.Ends.{AreEnds}

-- the energy of a list under every table, and its least and greatest
pub record HasEnergyForm (p : Problem) (x : LevelCandidate) : Type 0 where
  pub form : IsFormOf p x.energy
  pub value : (t : Table) → value_of x.energy t ≡ energy p t x.charges
  pub least : IsLeast p (λ t. energy p t x.charges) x.span.lo
  pub greatest : IsGreatest p (λ t. energy p t x.charges) x.span.hi

-- a list of the problem, with its levels and its energy
pub record IsMeasured (p : Problem) (levels : Interval) (x : LevelCandidate) : Type 0 where
  pub is_list : IsChargeList p x.charges
  pub ends : AreEnds p levels x.charges x.ends
  pub weighed : HasEnergyForm p x

-- the least of the energy of the first list less that of the second
abbrev pub IsLeastGap : Problem → List Charge → List Charge → ℤ → Type 0
IsLeastGap p a b n = IsLeast p (λ t. energy p t a -ℤ energy p t b) n

-- their charge lists
abbrev pub lists_of_level_candidates : List LevelCandidate → List (List Charge)
lists_of_level_candidates xs = map (λ x. x.charges) xs

-- these lists, with their levels and energies
pub record AreCandidates (p : Problem) (levels : Interval) (xs : List LevelCandidate) : Type 0 where
  pub lists : AreAllCandidates p levels (lists_of_level_candidates xs)
  pub measured : All (IsMeasured p levels) xs
