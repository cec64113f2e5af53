-- a round of one worker, of one task and with room for one prefix, in eight steps
use Rattle.std.proofs.Common.{◌≡◌, true, List, [], ◌∷◌, refl, arith}
use Rattle.std.proofs.lemmas.Int.{ints}
use Rattle.std.specs.Prelude.{pos, negsuc}
use Rattle.shared_board.specs.declared.view.View.{View}
use Rattle.shared_board.specs.declared.view.Plan.{Plan}
use Rattle.shared_board.specs.Core.{Core, CoreEvent, make, claim, look, enter, publish, Runs, opening_core, first_view, view_at, after}
use Rattle.shared_board.specs.Rule.{Rule, IsPlan}
use Rattle.shared_board.specs.Words.{level, energy_of}
use Rattle.shared_board.proofs.Runs.{opens, keeps_all}

-- threshold 0, limit 1, 1 task, 1 worker
abbrev pub small_plan : Plan
small_plan = record { threshold = pos 0; limit = 1; tasks = 1; workers = 1 }

pub small_is_plan : IsPlan small_plan
small_is_plan = record {
  threshold = (omega (arith, ints), omega (arith, ints));
  some_limit = omega arith;
  limit = omega arith;
  tasks = omega arith;
  some_worker = omega arith;
  workers = omega arith;
}

-- the second entering is one too many, and so is the second claim
abbrev pub steps : List CoreEvent
steps = look 0 ∷ enter 0 (pos 0) ∷ look 0 ∷ enter 0 (pos 0) ∷ claim 0 ∷ claim 0 ∷ publish 0 (negsuc 4) ∷ look 0 ∷ []

-- what the seat knows at the end
abbrev pub last_view : View
last_view = record {
  seen = negsuc 4;
  fresh = true;
  shares = 1;
  entered = 2;
  claims = 0 ∷ [];
  published = negsuc 4 ∷ [];
  got_spent = true;
  got_none = true;
  plan = small_plan;
}

-- the bound is the published energy, two prefixes were entered and two tasks claimed
abbrev pub last_core : Core
last_core = record { bound = negsuc 4; entered = 2; claimed = 2; views = last_view ∷ [] }

-- the states on the way
abbrev looked_once : Core
looked_once = after (opening_core small_plan) (look 0)

abbrev entered_once : Core
entered_once = after looked_once (enter 0 (pos 0))

abbrev looked_twice : Core
looked_twice = after entered_once (look 0)

abbrev entered_twice : Core
entered_twice = after looked_twice (enter 0 (pos 0))

abbrev claimed_once : Core
claimed_once = after entered_twice (claim 0)

abbrev claimed_twice : Core
claimed_twice = after claimed_once (claim 0)

abbrev published_once : Core
published_once = after claimed_twice (publish 0 (negsuc 4))

publish_on : Runs claimed_twice (publish 0 (negsuc 4) ∷ look 0 ∷ []) last_core
publish_on = (
  (view_at claimed_twice 0, (refl, omega arith), (omega (arith, ints), omega (arith, ints))),
  ((view_at published_once 0, (refl, omega arith)), refl),
)

claim_on : Runs entered_twice (claim 0 ∷ claim 0 ∷ publish 0 (negsuc 4) ∷ look 0 ∷ []) last_core
claim_on = (
  (view_at entered_twice 0, (refl, omega arith), refl),
  ((view_at claimed_once 0, (refl, omega arith), refl), publish_on),
)

look_on : Runs entered_once (look 0 ∷ enter 0 (pos 0) ∷ claim 0 ∷ claim 0 ∷ publish 0 (negsuc 4) ∷ look 0 ∷ []) last_core
look_on = (
  (view_at entered_once 0, (refl, omega arith)),
  ((view_at looked_twice 0, (refl, omega arith), refl, omega (arith, ints), refl), claim_on),
)

pub they_run : Runs (opening_core small_plan) steps last_core
they_run = (
  (first_view small_plan, (refl, omega arith)),
  ((view_at looked_once 0, (refl, omega arith), refl, omega (arith, ints), refl), look_on),
)

pub the_rule_holds : Rule small_plan last_core
the_rule_holds = keeps_all small_plan (opening_core small_plan) steps last_core (opens small_plan small_is_plan) they_run

-- a seat that is split off begins with what the other saw, and has one of its two shares
abbrev pub two_plan : Plan
two_plan = record { threshold = pos 9; limit = 5; tasks = 3; workers = 2 }

two_seats : after (opening_core two_plan) (make 0) ≡ record {
  bound = pos 10;
  entered = 0;
  claimed = 0;
  views = record (first_view two_plan) { shares = 1 } ∷ record (first_view two_plan) { shares = 1 } ∷ [];
}
two_seats = refl

-- one worker's look sees what the other published
other_is_seen : (view_at (after (after (after (opening_core two_plan) (make 0)) (publish 1 (pos 3))) (look 0)) 0).seen ≡ pos 3
other_is_seen = refl

-- an energy is kept as a word that is never negative, and read again
minus_five : level (negsuc 4) ≡ 4611686018427387899
minus_five = refl

minus_five_again : energy_of 4611686018427387899 ≡ negsuc 4
minus_five_again = refl
