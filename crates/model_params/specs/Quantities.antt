-- the numbers that a run may set: the units, range and preset value of each
use Rattle.std.specs.Prelude.{ℤ, pos, ◌≤ℤ◌}
use Rattle.model_params.specs.declared.quantity.Quantity.{Quantity}

-- the number is in the range of the quantity
pub record IsInRangeOf (q : Quantity) (v : ℤ) : Type 0 where
  pub from : q.least ≤ℤ v
  pub to : v ≤ℤ q.greatest

-- the Coulomb number e/(4π ε0), in 10^-6 V·Å: from 14 to 15, else 14.399645
abbrev pub coulomb_number : Quantity
coulomb_number = record {
  places = 6;
  least = pos 14000000;
  greatest = pos 15000000;
  preset = pos 14399645;
}

-- relative permittivity, in 10^-4: from 1 to 100, else 5.6
abbrev pub permittivity : Quantity
permittivity = record { places = 4; least = pos 10000; greatest = pos 1000000; preset = pos 56000 }

-- screening length, in 10^-4 nm: from 0.1 nm to 1000 nm, else 5 nm
abbrev pub screening_length : Quantity
screening_length = record {
  places = 4;
  least = pos 1000;
  greatest = pos 10000000;
  preset = pos 50000;
}

-- how far the upper level lies below 0, in 10^-12 V: from 0 V to 2 V, else 0.32 V
abbrev pub level_depth : Quantity
level_depth = record {
  places = 12;
  least = pos 0;
  greatest = pos 2000000000000;
  preset = pos 320000000000;
}

-- how far the lower level lies below the upper one, in 10^-12 V: from 0 V to 2 V, else 0.59 V
abbrev pub level_gap : Quantity
level_gap = record {
  places = 12;
  least = pos 0;
  greatest = pos 2000000000000;
  preset = pos 590000000000;
}
