-- the problem of no sites: its one list has the energy 0
use Rattle.std.proofs.Common.{◌≡◌, pos, List, [], refl, arith}
use Rattle.std.specs.Prelude.{Some, None}
use Rattle.std.proofs.lemmas.Int.{ints}
use Rattle.charge_model.specs.declared.charge.Charge.{Charge}
use Rattle.charge_model.specs.Problem.{Problem, Table, IsTable}
use Rattle.charge_model.specs.Rules.{energy, at_site, by_hop, IsCertainlyValid}
use Rattle.charge_model.specs.Tree.{IsAttained}
use Rattle.search_guesses.specs.declared.guess.Guess.{Guess}
use Rattle.incumbent.specs.Hunting.{IsHunt}

abbrev pub nothing : Problem
nothing = record {
  sites = 0;
  base = 3;
  mu_minus = pos 0;
  mu_plus = pos 0;
  fixed_charges = [];
  pair_classes = [];
  near_classes = [];
  spans = [];
}

abbrev pub any_table : Table
any_table = record { scale = 1; potential = λ c. pos 0 }

pub any_is : IsTable nothing any_table
any_is = record { positive = omega arith; above = λ c h. absurd (omega (arith, h)); below = λ c h. absurd (omega (arith, h)) }

pub no_energy : (t : Table) (c : List Charge) → energy nothing t c ≡ pos 0
unfolding energy
no_energy t c = refl

valid : IsCertainlyValid nothing []
valid (at_site i k) of t is = absurd (omega (arith, of.0))
valid (by_hop i j) of t is = absurd (omega (arith, of.0))

pub zero_attained : IsAttained nothing (pos 0)
zero_attained = (
  [],
  record {
    is_list = record { whole = refl; of_base = tt };
    valid = valid;
    reached = record {
      bounds = λ t is. let e = no_energy t [] in omega (arith, ints, e);
      reached = (any_table, any_is, (refl, no_energy any_table []));
    };
  },
)

-- a list of which only the energy matters
abbrev pub some_guess : Guess
some_guess = record { numbers = record { at = [] }; potentials = record { at = [] }; energy = pos 7 }

-- before anything was found, and once something was
pub begins : IsHunt nothing (record { track = record { problem = nothing; prefix = [] }; best = some_guess; energy = None })
begins = record { problem = refl; attained = tt }

pub finds : IsHunt nothing (record { track = record { problem = nothing; prefix = [] }; best = some_guess; energy = Some (pos 0) })
finds = record { problem = refl; attained = zero_attained }
