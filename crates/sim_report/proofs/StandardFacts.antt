-- ground texts written by hand
use Rattle.std.proofs.Common.{◌≡◌, refl, ℕ, ℤ, pos, negsuc, List, [], ◌∷◌, ◌++◌, codes, map, None, Some, false}
use Rattle.std.specs.Fmt.{digits}
use Rattle.std.proofs.Common.{lit≤}
use Rattle.std.specs.List.{join_with_byte}
use Rattle.charge_model.specs.declared.charge.Charge.TheVariants.{Neg, Neutral}
use Rattle.charge_model.specs.declared.span.Span.{Span}
use Rattle.charge_model.specs.declared.mark.Mark.TheVariants.{Certain}
use Rattle.charge_model.specs.Problem.{Problem}
use Rattle.charge_model.specs.GroundList.{Entry}
use Rattle.sidb_layout.specs.declared.site.Site.{Site}
use Rattle.sidb_layout.specs.declared.lattice.Lattice.{Lattice}
use Rattle.sidb_layout.specs.Lattice.{silicon}
use Rattle.sidb_layout.specs.Layout.{arrangement_of}
use Rattle.ground_report.specs.declared.about.About.{About}
use Rattle.entry_lines.specs.EntryLines.{entry_words}
use Rattle.sidb_units.specs.Decimal.{last_digits}
use Rattle.sim_report.specs.GroundText.{energy_row, plain_text, titled_text, IsGroundText}
use Rattle.sim_report.specs.OccupationText.{occupation_text}
use Rattle.sim_report.specs.WindowText.{window_title_rows}

-- a line and its end
abbrev pub line : List ℕ → List ℕ → List ℕ
line words rest = words ++ 10 ∷ rest

abbrev pub at : ℤ → Site
at n = record { n = n; m = pos 0; l = pos 0 }

-- the lattice whose step along a row is that of a dimer
abbrev pub closer : Lattice
closer = record {
  ax = pos 225;
  ay = pos 0;
  bx = pos 0;
  by = pos 768;
  cx = pos 0;
  cy = pos 225;
  x_steps = lit≤ tt;
  y_steps = lit≤ tt;
  x_offset = lit≤ tt;
  y_offset = lit≤ tt;
}

abbrev pub neutral : Entry
neutral = record { charges = Neutral ∷ []; mark = Certain }

-- one site beside a fixed charge
abbrev pub beside_fixed : About
beside_fixed = record { layout = Some (arrangement_of silicon (at (pos 0) ∷ []) (record { site = at (pos 1); charge = negsuc 0 } ∷ [])); skipped = 0 }

no_sites : plain_text (record { layout = None; skipped = 5 }) 0 (record { charges = []; mark = Certain } ∷ [])
    ≡ line (codes "sidb-ground 1") (line (codes "sites 0") (line (codes "skipped 0") (line (codes "entries 1") (line (codes ". certain") (line (codes "end") [])))))
unfolding digits
no_sites = refl

a_fixed_charge : plain_text beside_fixed 1 (neutral ∷ [])
    ≡ line (codes "sidb-ground 2") (line (codes "sites 1") (line (codes "site 0 0 0 0") (line (codes "fix 0 1 0 0 -1") (line (codes "skipped 0") (line (codes "entries 1") (line (codes "0 certain") (line (codes "end") [])))))))
unfolding digits
a_fixed_charge = refl

of_a_problem : (p : Problem) → p.sites ≡ 1 → IsGroundText beside_fixed p (neutral ∷ []) false
    (line (codes "sidb-ground 2") (line (codes "sites 1") (line (codes "site 0 0 0 0") (line (codes "fix 0 1 0 0 -1") (line (codes "skipped 0") (line (codes "entries 1") (line (codes "0 certain") (line (codes "end") []))))))))
unfolding digits
of_a_problem p one = rw one refl

another_lattice : plain_text (record { layout = Some (arrangement_of closer (at (pos 0) ∷ at (pos 1) ∷ []) []); skipped = 1 }) 2 []
    ≡ line (codes "sidb-ground 2") (line (codes "sites 2") (line (codes "lattice 225 0 0 768 0 225") (line (codes "site 0 0 0 0") (line (codes "site 1 1 0 0") (line (codes "skipped 1") (line (codes "entries 0") (line (codes "end") [])))))))
unfolding digits
another_lattice = refl

abbrev wide : Span
wide = record { lo = negsuc 3; hi = pos 2; in_order = record { le = tt } }

an_energy : join_with_byte 32 (energy_row (neutral, wide)) ≡ codes "0 certain energy -4 2"
unfolding digits
an_energy = refl

-- one site of a table within a window of 2 * 10^-12 V
a_window : titled_text (window_title_rows (pos 2) 1) (record { layout = None; skipped = 0 }) (map entry_words (neutral ∷ []))
    ≡ line (codes "sidb-window 1") (line (codes "window 2") (line (codes "sites 1") (line (codes "skipped 0") (line (codes "entries 1") (line (codes "0 certain") (line (codes "end") []))))))
unfolding digits
a_window = refl

-- four sites with two lists one unit apart, within that unit, at a kT of 1 mV
abbrev pub first : Entry
first = record { charges = Neg ∷ Neutral ∷ Neutral ∷ Neg ∷ []; mark = Certain }

abbrev pub second : Entry
second = record { charges = Neutral ∷ Neg ∷ Neg ∷ Neutral ∷ []; mark = Certain }

two_shares : occupation_text (pos 1) (pos 1000000000) 4 (first ∷ second ∷ []) (record { lo = pos 500000000; hi = pos 500000001 } ∷ record { lo = pos 499999999; hi = pos 500000000 } ∷ [])
    ≡ line (codes "sidb-occupation 1") (line (codes "window 1") (line (codes "kt 1000000000") (line (codes "sites 4") (line (codes "entries 2") (line (codes "-00- 0.500000000 0.500000001") (line (codes "0--0 0.499999999 0.500000000") (line (codes "end") [])))))))
unfolding digits last_digits
two_shares = refl

-- no site: one list, with the whole
the_whole : occupation_text (pos 0) (pos 25000000000) 0 (record { charges = []; mark = Certain } ∷ []) (record { lo = pos 1000000000; hi = pos 1000000000 } ∷ [])
    ≡ line (codes "sidb-occupation 1") (line (codes "window 0") (line (codes "kt 25000000000") (line (codes "sites 0") (line (codes "entries 1") (line (codes ". 1.000000000 1.000000000") (line (codes "end") []))))))
unfolding digits last_digits
the_whole = refl
