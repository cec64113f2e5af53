-- the rule of a round, which holds after each list of events
use Rattle.std.specs.Prelude.{◌≡◌, ℕ, ◌+◌, ◌-◌, ◌*◌, ◌<◌, ◌≤◌, Bool, true, cond, eqb, ltb, ◌⊎◌, List, [], ◌∷◌, ℤ, negsuc, ◌≤ℤ◌, ◌^◌, min}
use Rattle.std.specs.List.{Contains}
use mathlib.Core.Option.{some}
use lib.ListN.{get_elem?}
use Rattle.sidb_units.specs.declared.TheConstants.{MAX_NODES, MAX_WORKERS}
use Rattle.shared_board.specs.declared.view.View.{View}
use Rattle.shared_board.specs.declared.view.Plan.{Plan}
use Rattle.shared_board.specs.Core.{Core, top, spent_view, InRange}

-- f of each view, added up
abbrev pub total : (View → ℕ) → List View → ℕ
total f [] = 0
total f (v ∷ vs) = f v + total f vs

-- 1 where n is k, else 0
abbrev pub one : ℕ → ℕ → ℕ
one n k = cond (eqb n k) 1 0

-- 1 where n is below k, else 0
abbrev pub once_below : ℕ → ℕ → ℕ
once_below n k = cond (ltb n k) 1 0

-- how often n stands in the list
abbrev pub times : ℕ → List ℕ → ℕ
times n [] = 0
times n (k ∷ ks) = one n k + times n ks

-- the shares of a view that a fact marks
abbrev pub shares_if : Bool → ℕ → ℕ
shares_if b n = cond b n 0

-- the numbers of a round are in their ranges: at most 3^4 tasks, and up to twice the greatest limit
pub record IsPlan (p : Plan) : Type 0 where
  pub threshold : InRange p.threshold
  pub some_limit : 1 ≤ p.limit
  pub limit : p.limit ≤ 2 * MAX_NODES
  pub tasks : p.tasks ≤ 81
  pub some_worker : 1 ≤ p.workers
  pub workers : p.workers ≤ MAX_WORKERS

-- what is true of each view that is not spent
pub record Fits (p : Plan) (bound : ℤ) (entered claimed : ℕ) (v : View) : Type 0 where
  pub some_share : 0 < v.shares
  pub below_seen : bound ≤ℤ v.seen
  pub seen_below : v.seen ≤ℤ top p
  pub below_each : (e : ℤ) → Contains v.published e → bound ≤ℤ e
  pub spent : v.got_spent ≡ true → p.limit < entered
  pub none : v.got_none ≡ true → p.tasks < claimed
  pub plan : v.plan ≡ p

-- the bound is one above the threshold or was published, at most what each seat saw and published;
-- each task is claimed once; each share passes the limit and the tasks at most once
pub record Rule (p : Plan) (x : Core) : Type 0 where
  pub plan : IsPlan p
  pub low : negsuc (2 ^ 60 - 1) ≤ℤ x.bound
  pub high : x.bound ≤ℤ top p
  pub attained : (x.bound ≡ top p)
      ⊎ ((i : ℕ) × (v : View) × (get_elem? x.views i ≡ some v) × Contains v.published x.bound)
  pub each : (i : ℕ) (v : View) → get_elem? x.views i ≡ some v
      → (v ≡ spent_view) ⊎ Fits p x.bound x.entered x.claimed v
  pub entered : x.entered ≡ total (λ v. v.entered) x.views
  pub claims : (n : ℕ)
      → total (λ v. times n v.claims) x.views ≡ once_below n (min x.claimed p.tasks)
  pub entered_most :
      x.entered ≤ p.limit + total (λ v. shares_if v.got_spent v.shares) x.views
  pub claimed_most :
      x.claimed ≤ p.tasks + total (λ v. shares_if v.got_none v.shares) x.views
  pub shares : total (λ v. v.shares) x.views ≡ p.workers
