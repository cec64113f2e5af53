-- the ranges of numbers that options give, but for the parameters
use Rattle.std.specs.Prelude.{ℕ, ℤ, pos, ◌≤ℤ◌}
use Rattle.model_params.specs.declared.quantity.Quantity.{Quantity}
use Rattle.model_params.specs.Quantities.{IsInRangeOf, level_depth}

-- the most nodes of a search: from 1 to 10,000,000, else 1,000,000
abbrev pub node_limit : Quantity
node_limit = record { places = 0; least = pos 1; greatest = pos 10000000; preset = pos 1000000 }

-- the number of workers: from 1 to 16, else 4
abbrev pub worker_count : Quantity
worker_count = record { places = 0; least = pos 1; greatest = pos 16; preset = pos 4 }

-- how far above the ground lists are looked for, in 10^-12 V: from 0 V to 2 V, else 0 V
abbrev pub window_width : Quantity
window_width = record { places = 12; least = pos 0; greatest = pos 2000000000000; preset = pos 0 }

-- two depths of a level, in 10^-12 V, the lesser one first
pub record AreEndsOfDepths (from to : ℤ) : Type 0 where
  pub from_within : IsInRangeOf level_depth from
  pub to_within : IsInRangeOf level_depth to
  pub in_order : from ≤ℤ to

-- Boltzmann's constant times the temperature, in 10^-12 V: from 1 mV to 1 V, else 25 mV
abbrev pub thermal_energy : Quantity
thermal_energy = record {
  places = 12;
  least = pos 1000000000;
  greatest = pos 1000000000000;
  preset = pos 25000000000;
}

-- the number that the generator begins with: from 0 to 2^63 - 1, else 0
abbrev pub generator_number : Quantity
generator_number = record {
  places = 0;
  least = pos 0;
  greatest = pos 9223372036854775807;
  preset = pos 0;
}

-- how many sites a generated layout has: from 0 to 64, else 40
abbrev pub generated_sites : Quantity
generated_sites = record { places = 0; least = pos 0; greatest = pos 64; preset = pos 40 }

-- how often an undecided rectangle may be quartered: from 0 to 6, else 2
abbrev pub refine_depth : Quantity
refine_depth = record { places = 0; least = pos 0; greatest = pos 6; preset = pos 2 }

-- the numbers of a generated layout are in their ranges
pub record AreGeneratedNumbers (number sites : ℕ) : Type 0 where
  pub number_within : IsInRangeOf generator_number (pos number)
  pub sites_within : IsInRangeOf generated_sites (pos sites)

-- the limits of a search are in their ranges
pub record AreSearchLimits (limit workers : ℕ) : Type 0 where
  pub limit_within : IsInRangeOf node_limit (pos limit)
  pub workers_within : IsInRangeOf worker_count (pos workers)
