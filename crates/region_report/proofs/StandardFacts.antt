-- reports written by hand
use Rattle.std.proofs.Common.{◌≡◌, refl, ℕ, pos, ◌≤◌, List, [], ◌∷◌, ◌++◌, codes, arith}
use Rattle.std.specs.Fmt.{digits}
use Rattle.std.proofs.lemmas.Int.{ints}
use Rattle.sidb_units.specs.Decimal.{last_digits}
use Rattle.serde_json.proofs.OnLiterals.{serde_json_on_literals}
use Rattle.model_params.specs.declared.params.Params.{Params}
use Rattle.bdl_pairs.specs.declared.cell.CellAnswer.{CellAnswer}
use Rattle.bdl_pairs.specs.declared.cell.CellAnswer.TheVariants.{Works, Long}
use Rattle.parameter_regions.specs.declared.rectangles.Rectangle.{Rectangle}
use Rattle.region_tiles.specs.declared.tiles.Tile.{Tile}
use Rattle.region_report.specs.RegionText.{region_text}
use Rattle.region_report.specs.RegionJson.{region_json}

-- parameters of a permittivity from 5 to 6, and a screening length from 4 nm to 5 nm
abbrev params_at : (eps lam : ℕ) → 50000 ≤ eps → eps ≤ 60000 → 40000 ≤ lam → lam ≤ 50000 → Params
params_at eps lam eps_from eps_to lam_from lam_to = record {
  coulomb = pos 14399645;
  eps = pos eps;
  lam = pos lam;
  depth = pos 320000000000;
  gap = pos 590000000000;
  base = 3;
  in_range = record {
    coulomb_within = record { from = omega (arith, ints); to = omega (arith, ints) };
    eps_within = record { from = omega (arith, ints, eps_from); to = omega (arith, ints, eps_to) };
    lam_within = record { from = omega (arith, ints, lam_from); to = omega (arith, ints, lam_to) };
    depth_within = record { from = omega (arith, ints); to = omega (arith, ints) };
    gap_within = record { from = omega (arith, ints); to = omega (arith, ints) };
    base_from = omega arith;
    base_to = omega arith;
  };
}

-- permittivities from 5 to 5.0003, screening lengths from 4 nm to 4.0002 nm
abbrev three_by_two : Rectangle
three_by_two = record {
  weakest = params_at 50003 40000 (omega arith) (omega arith) (omega arith) (omega arith);
  strongest = params_at 50000 40002 (omega arith) (omega arith) (omega arith) (omega arith);
  are_corners = record { coulomb = refl; eps = omega (arith, ints); lam = omega (arith, ints); depth = refl; gap = refl; base = refl };
}

abbrev pub tile : CellAnswer → Tile
tile answer = record { rectangle = three_by_two; answer = answer }

-- a line and its end
abbrev line : List ℕ → List ℕ → List ℕ
line words rest = words ++ 10 ∷ rest

two_tiles : region_text (tile (Long 1) ∷ tile Works ∷ [])
    ≡ line (codes "sidb-region 1") (line (codes "tile 5.0000 5.0003 4.0000 4.0002 long 1") (line (codes "tile 5.0000 5.0003 4.0000 4.0002 works") (line (codes "works 6") (line (codes "fails 0") (line (codes "open 6") (line (codes "end") []))))))
unfolding last_digits digits
two_tiles = refl

-- 34 is the quotation mark
abbrev quoted : List ℕ → List ℕ
quoted word = 34 ∷ (word ++ 34 ∷ [])

no_tiles_in_json : region_json []
    ≡ (codes "{" ++ (quoted (codes "fails") ++ (codes ":0," ++ (quoted (codes "kind") ++ (codes ":" ++ (quoted (codes "sidb-region") ++ (codes "," ++ (quoted (codes "open") ++ (codes ":0," ++ (quoted (codes "tiles") ++ (codes ":[]," ++ (quoted (codes "version") ++ (codes ":1," ++ (quoted (codes "works") ++ codes ":0}")))))))))))))) ++ 10 ∷ []
unfolding serde_json_on_literals digits
no_tiles_in_json = refl
