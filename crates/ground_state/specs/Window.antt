-- what solving a problem answers where all within an energy of the ground is asked for
use Rattle.std.specs.Prelude.{◌≡◌, ℕ, ◌<◌, ◌≤◌, ℤ, List, length, Option}
use Rattle.charge_model.specs.Problem.{Problem}
use Rattle.charge_model.specs.GroundList.{Entry}
use Rattle.charge_model.specs.Tree.{IsLeastCertain, node_count}
use Rattle.sidb_units.specs.declared.TheConstants.{MAX_ENTRIES}
use Rattle.ground_entries.specs.declared.ground_list.Solved.{Solved}
use Rattle.window_model.specs.Windows.{IsMarkedWindowList}
use Rattle.walk_model.specs.Walks.{raised_bound}
pub use Rattle.candidate_marks.specs.Found.{IsWindowTooLong}
use Rattle.ground_state.specs.declared.reach.Reach.{Reach}
use Rattle.ground_state.specs.declared.solving.SolveAnswer.{SolveAnswer}
use Rattle.ground_state.specs.declared.solving.SolveAnswer.TheVariants.{List as Listed, Budget, ListTooLong, Memory}

-- from the least certain energy to the end of the window above it
pub record IsReach (p : Problem) (r : Reach) : Type 0 where
  pub bound : IsLeastCertain p r.bound
  pub end : r.end ≡ raised_bound r.window.width r.bound

-- the search tree under the least certain energy and the window has at most so many nodes
abbrev pub IsWindowWithinLimit : Problem → ℤ → ℕ → Type 0
IsWindowWithinLimit p window limit =
    (bound : Option ℤ) × IsLeastCertain p bound × (node_count p (raised_bound window bound) ≤ limit)

-- it has more
abbrev pub IsWindowOverLimit : Problem → ℤ → ℕ → Type 0
IsWindowOverLimit p window limit =
    (bound : Option ℤ) × IsLeastCertain p bound × (limit < node_count p (raised_bound window bound))

-- the window list with its marks, which has at most 4,096 entries and is found within the limit
pub record IsWindowListedWithin (p : Problem) (window : ℤ) (limit : ℕ) (es : List Entry)
    : Type 0 where
  pub budget : IsWindowWithinLimit p window limit
  pub list : IsMarkedWindowList p window es
  pub few : length es ≤ MAX_ENTRIES

-- the limit suffices, and the window list has more than 4,096 entries
pub record IsWindowTooLongWithin (p : Problem) (window : ℤ) (limit : ℕ) : Type 0 where
  pub budget : IsWindowWithinLimit p window limit
  pub many : IsWindowTooLong p window

-- the window list with its marks, the least certain energy,
-- and how many nodes the search tree under it and the window has
pub record IsWindowSolution (p : Problem) (window : ℤ) (limit : ℕ) (s : Solved) : Type 0 where
  pub list : IsMarkedWindowList p window s.list
  pub bound : IsLeastCertain p s.bound
  pub nodes : s.nodes ≡ node_count p (raised_bound window s.bound)
  pub within : s.nodes ≤ limit

-- what each answer says
abbrev pub IsWindowSolved : Problem → ℤ → ℕ → SolveAnswer → Type 0
IsWindowSolved p window limit (Listed s) = IsWindowSolution p window limit s
IsWindowSolved p window limit Budget = IsWindowOverLimit p window limit
IsWindowSolved p window limit ListTooLong = IsWindowTooLongWithin p window limit
IsWindowSolved p window limit Memory = Unit {0}
