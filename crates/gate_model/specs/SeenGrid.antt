-- grids as the definitions see them
use Rattle.gate_model.specs.Grids.{Axes}
use Rattle.gate_model.specs.declared.grid.Grid.TheInside.{Inside}

-- the two directions of the fields
abbrev pub seen_axes : Inside → Axes
seen_axes s = record {
  eps = record { start = s.eps_start; step = s.eps_step; count = s.eps_count };
  lam = record { start = s.lam_start; step = s.lam_step; count = s.lam_count };
}

-- the fields of the two directions
abbrev pub fields_of : Axes → Inside
fields_of a = record {
  eps_start = a.eps.start;
  eps_step = a.eps.step;
  eps_count = a.eps.count;
  lam_start = a.lam.start;
  lam_step = a.lam.step;
  lam_count = a.lam.count;
}
