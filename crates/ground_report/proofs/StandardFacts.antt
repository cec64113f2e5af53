-- versions and energies worked by hand
use Rattle.std.proofs.Common.{◌≡◌, pos, negsuc, refl, [], ◌∷◌, None, Some, arith}
use Rattle.std.proofs.Common.{lit≤}
use Rattle.std.proofs.lemmas.Int.{ints}
use Rattle.charge_model.specs.declared.span.Span.{Span}
use Rattle.charge_model.specs.declared.mark.Mark.TheVariants.{Certain}
use Rattle.charge_model.specs.Problem.{Problem, Table, IsTable}
use Rattle.charge_model.specs.Rules.{energy}
use Rattle.sidb_layout.specs.declared.lattice.Lattice.{Lattice}
use Rattle.sidb_layout.specs.declared.site.Site.{Site}
use Rattle.sidb_layout.specs.declared.site.Fix.{Fix}
use Rattle.sidb_layout.specs.Lattice.{silicon}
use Rattle.sidb_layout.specs.Layout.{arrangement_of}
use Rattle.ground_report.specs.Subject.{version_of, skipped_in, IsAboutProblem}
use Rattle.ground_report.specs.Energies.{IsEnergySpan, AreEnergies}

-- the lattice whose step along a row is that of a dimer
abbrev pub closer : Lattice
closer = record {
  ax = pos 225;
  ay = pos 0;
  bx = pos 0;
  by = pos 768;
  cx = pos 0;
  cy = pos 225;
  x_steps = lit≤ tt;
  y_steps = lit≤ tt;
  x_offset = lit≤ tt;
  y_offset = lit≤ tt;
}

abbrev pub at_zero : Site
at_zero = record { n = pos 0; m = pos 0; l = pos 0 }

abbrev pub fixed : Fix
fixed = record { site = record { n = pos 1; m = pos 0; l = pos 0 }; charge = negsuc 0 }

plain : version_of (Some (arrangement_of silicon (at_zero ∷ []) [])) ≡ 1
plain = refl

with_fixed_charge : version_of (Some (arrangement_of silicon (at_zero ∷ []) (fixed ∷ []))) ≡ 2
with_fixed_charge = refl

on_another_lattice : version_of (Some (arrangement_of closer (at_zero ∷ []) [])) ≡ 2
on_another_lattice = refl

no_layout : version_of None ≡ 1
no_layout = refl

skipped : skipped_in (record { layout = Some (arrangement_of silicon [] []); skipped = 3 }) ≡ 3
skipped = refl

skipped_nothing : skipped_in (record { layout = None; skipped = 3 }) ≡ 0
skipped_nothing = refl

-- a problem of no site, whose energy is 0
abbrev pub empty : Problem
empty = record {
  sites = 0;
  base = 3;
  mu_minus = pos 0;
  mu_plus = pos 0;
  fixed_charges = [];
  pair_classes = [];
  near_classes = [];
  spans = [];
}

about_empty : IsAboutProblem (record { layout = Some (arrangement_of silicon [] []); skipped = 0 }) empty
about_empty = refl

abbrev unit : Table
unit = record { scale = 1; potential = λ c. pos 0 }

unit_is_table : IsTable empty unit
unit_is_table = record {
  positive = lit≤ tt;
  above = λ c within. omega (arith, within);
  below = λ c within. omega (arith, within);
}

abbrev pub zero_span : Span
zero_span = record { lo = pos 0; hi = pos 0; in_order = record { le = tt } }

no_energy : (t : Table) → energy empty t [] ≡ pos 0
unfolding energy
no_energy t = refl

energy_of_none : IsEnergySpan empty [] zero_span
energy_of_none = record {
  least = record { bounds = λ t is. rw (no_energy t) (omega (arith, ints)); reached = (unit, unit_is_table, (refl, no_energy unit)) };
  greatest = record { bounds = λ t is. rw (no_energy t) (omega (arith, ints)); reached = (unit, unit_is_table, (refl, no_energy unit)) };
}

one_energy : AreEnergies empty (record { charges = []; mark = Certain } ∷ []) (zero_span ∷ [])
one_energy = (energy_of_none, _)
