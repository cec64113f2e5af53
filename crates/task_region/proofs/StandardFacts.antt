-- answers worked by hand: a gate of one input pair and one output pair on four sites
use Rattle.std.proofs.Common.{◌≡◌, ℕ, pos, refl, inl, inr, List, [], ◌∷◌, ◌++◌, false, codes, arith}
use Rattle.std.proofs.lemmas.Int.{ints}
use Rattle.std.specs.Fmt.{digits}
use Rattle.sidb_units.specs.Decimal.{last_digits}
use Rattle.sidb_layout.specs.Layout.{Arrangement}
use Rattle.model_params.specs.declared.params.Params.{Params}
use Rattle.command_words.specs.declared.settings.Settings.{Settings}
use Rattle.gate_model.specs.declared.pairs.PairOf.{PairOf}
use Rattle.gate_model.specs.declared.function.Function.{Function}
use Rattle.gate_model.specs.Grids.{Axes}
use Rattle.gate_model.specs.Logic.{Logic, logic_of}
use Rattle.bdl_pairs.specs.declared.cell.CellAnswer.{CellAnswer}
use Rattle.bdl_pairs.specs.declared.cell.CellAnswer.TheVariants.{Works, Budget}
use Rattle.bdl_pairs.specs.Remaining.{IsOn}
use Rattle.fault_lines.specs.declared.input_fault.InputFault.TheVariants.{GateSite}
use Rattle.screened_coulomb.proofs.StandardFacts.{usual}
use Rattle.parameter_regions.specs.declared.rectangles.Rectangle.{Rectangle}
use Rattle.region_tiles.specs.declared.tiles.Tile.{Tile}
use Rattle.region_domain.specs.Region.{AreRegionTiles}
use Rattle.run_answer.specs.declared.status.Status.TheVariants.{Answered, Input}
use Rattle.task_gate.specs.GateSite.{IsGateSite}
use Rattle.task_gate.specs.TruthAnswer.{placed_by}
use Rattle.task_region.specs.RegionAnswer.{IsRegionOfGate}

-- a line and its end
abbrev line : List ℕ → List ℕ → List ℕ
line words rest = words ++ 10 ∷ rest

abbrev pair : ℕ → ℕ → PairOf
pair a b = record { a = a; b = b }

-- the input between sites 0 and 3, the output between site 1 and another
abbrev gate_at : Function → ℕ → Logic
gate_at function b = logic_of (pair 0 3 ∷ []) (pair 1 b ∷ []) function

-- from 5.6 to 5.6001, and from 4.9 nm to 5 nm: 1 times 1000 units
abbrev weakest : Params
weakest = record {
  coulomb = pos 14399645;
  eps = pos 56001;
  lam = pos 49000;
  depth = pos 320000000000;
  gap = pos 590000000000;
  base = 3;
  in_range = record {
    coulomb_within = record { from = omega (arith, ints); to = omega (arith, ints) };
    eps_within = record { from = omega (arith, ints); to = omega (arith, ints) };
    lam_within = record { from = omega (arith, ints); to = omega (arith, ints) };
    depth_within = record { from = omega (arith, ints); to = omega (arith, ints) };
    gap_within = record { from = omega (arith, ints); to = omega (arith, ints) };
    base_from = omega arith;
    base_to = omega arith;
  };
}

abbrev thin : Rectangle
thin = record {
  weakest = weakest;
  strongest = usual;
  are_corners = record { coulomb = refl; eps = omega (arith, ints); lam = omega (arith, ints); depth = refl; gap = refl; base = refl };
}

abbrev tile : CellAnswer → Tile
tile answer = record { rectangle = thin; answer = answer }

-- a gate that works on it
works_on_it : (s : Settings) (function : Function) (a : Axes) (layout : Arrangement) → s.report.json ≡ false → IsOn (gate_at function 2) layout.sites
    → AreRegionTiles (placed_by s (gate_at function 2) layout) s.params a s.region.refine (tile Works ∷ [])
    → IsRegionOfGate s (gate_at function 2) a layout Answered
    (line (codes "sidb-region 1") (line (codes "tile 5.6000 5.6001 4.9000 5.0000 works") (line (codes "works 1000") (line (codes "fails 0") (line (codes "open 0") (line (codes "end") []))))))
unfolding last_digits digits
works_on_it s function a layout plain on are = inl (on, (refl, record { tiles = tile Works ∷ []; of_grid = are; prints = rw plain refl }))

-- one whose second pattern needs too many nodes there: that is an answer
over_budget : (s : Settings) (function : Function) (a : Axes) (layout : Arrangement) → s.report.json ≡ false → IsOn (gate_at function 2) layout.sites
    → AreRegionTiles (placed_by s (gate_at function 2) layout) s.params a s.region.refine (tile (Budget 1) ∷ [])
    → IsRegionOfGate s (gate_at function 2) a layout Answered
    (line (codes "sidb-region 1") (line (codes "tile 5.6000 5.6001 4.9000 5.0000 budget 1") (line (codes "works 0") (line (codes "fails 0") (line (codes "open 1000") (line (codes "end") []))))))
unfolding last_digits digits
over_budget s function a layout plain on are = inl (on, (refl, record { tiles = tile (Budget 1) ∷ []; of_grid = are; prints = rw plain refl }))

-- a place that is no site is named before anything is searched
fault_site : (s : Settings) (function : Function) (a : Axes) (layout : Arrangement) → IsGateSite (gate_at function 4) layout.sites 4
    → IsRegionOfGate s (gate_at function 4) a layout (Input (GateSite 4)) (line (codes "fault input gate-site 4") [])
unfolding digits
fault_site s function a layout site = inr (record {
  place = 4;
  site = site;
  answers = record {
    named = record { layout = λ is. absurd (cc is); certificate = λ is. absurd (cc is); certificate_table = λ is. absurd (cc is); table = λ is. absurd (cc is) };
    status_is = refl;
    prints = refl;
  };
})
