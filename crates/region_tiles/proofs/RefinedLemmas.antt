-- the tiles of a rectangle and of a grid: at most one list, at least one, and they tile it
use Rattle.std.proofs.Common.{◌≡◌, ◌∙◌, ℕ, ◌+◌, ◌-◌, ◌^◌, ◌<◌, ◌≤◌, zero, suc, Bool, true, false, List, [], ◌∷◌, ◌++◌, map, refl, sym, ap, subst, arith}
use Rattle.std.proofs.lemmas.Int.{ints}
use Rattle.std.proofs.Math.Nat.{mul-le-mul}
use Rattle.std.specs.Prelude.{All, MatchBool, flat_map, sum_by}
use Rattle.std.specs.List.{AllZip}
use Rattle.std.proofs.lemmas.List.{map-append}
use Rattle.std.proofs.lemmas.List.Sums.{sum_by-cons}
use Rattle.std.proofs.lemmas.List.Elements.{All-append, All-cons, All-nil}
use Rattle.model_params.specs.declared.params.Params.{Params}
use Rattle.model_params.specs.Quantities.{permittivity, screening_length}
use Rattle.gate_model.specs.Grids.{AreAxes, Axes, HasFarEnds}
use Rattle.bdl_pairs.specs.declared.cell.CellAnswer.{CellAnswer}
use Rattle.screened_coulomb.specs.Potential.{eps_of, lam_of}
use Rattle.parameter_regions.specs.declared.rectangles.Rectangle.{Rectangle}
use Rattle.region_tiles.specs.declared.sides.Side.{Side}
use Rattle.region_tiles.specs.declared.tiles.Tile.{Tile}
use Rattle.region_tiles.specs.Sides.{IsSideWithin, halves_of, whole_side, steps_of}
use Rattle.region_tiles.specs.Rectangles.{AreGridRectangles, AreParts, AreRectangles, HasSides, IsGridWhole, Sides, eps_side, lam_side, rows_of, sides_of}
use Rattle.region_tiles.specs.Tiles.{AreJudgedTiles, AreTiles, area_of, rectangles_in}
use Rattle.region_tiles.specs.Areas.{whole_area}
use Rattle.region_tiles.specs.Refined.{AreGridTiles, AreJoined, AreOfParts, IsRefined, goes_on, tile_of}
use Rattle.region_tiles.proofs.ListLemmas.{zip_map, zip_one, zip_some, zip_weaker}
use Rattle.region_tiles.proofs.TileLemmas.{one_tile}
use Rattle.region_tiles.proofs.ManyTiles.{many_tiles}
use Rattle.region_tiles.proofs.SideLemmas.{halves_are_steps}
use Rattle.region_tiles.proofs.RowLemmas.{rows_all}
use Rattle.region_tiles.proofs.RectangleLemmas.{a_rectangle, one_rectangle, tiles_by_sides}
use Rattle.region_tiles.proofs.GridLemmas.{eps_within, first_within, halves_within, lam_within, span_within, start_above, step_above, steps_are_steps, steps_within}

-- the parts of a rectangle, and the rectangles of a grid, are tiles
pub parts_tile : (r : Rectangle) (parts : List Rectangle) → AreParts r parts → AreTiles r parts
parts_tile r parts are =
    tiles_by_sides r.weakest (sides_of (eps_side r) (lam_side r)) r (halves_of (eps_side r)) (halves_of (lam_side r)) parts
    (record { alike = record { coulomb = refl; depth = refl; gap = refl; base = refl }; eps = refl; lam = refl })
    (halves_are_steps (eps_side r) (eps_within r).order) (halves_are_steps (lam_side r) (lam_within r).order) are

pub grid_tiles : (p : Params) (a : Axes) (whole : Rectangle) (rectangles : List Rectangle) → AreAxes a → IsGridWhole p a whole → AreGridRectangles p a rectangles → AreTiles whole rectangles
grid_tiles p a whole rectangles axes is are =
    tiles_by_sides p (sides_of (whole_side a.eps) (whole_side a.lam)) whole (steps_of a.eps) (steps_of a.lam) rectangles is
    (steps_are_steps a.eps (start_above permittivity a.eps (omega (arith, ints)) axes.eps) (step_above permittivity a.eps axes.eps) axes.eps.some)
    (steps_are_steps a.lam (start_above screening_length a.lam (omega (arith, ints)) axes.lam) (step_above screening_length a.lam axes.lam) axes.lam.some)
    are

-- rectangles of sides: at most one list, and at least one
one_list : (p : Params) (es ls : List Side) (xs ys : List Rectangle) → AreRectangles p es ls xs → AreRectangles p es ls ys → xs ≡ ys
one_list p es ls xs ys a b = zip_one (HasSides p) (λ s r q x y. one_rectangle p s r q x y) (rows_of es ls) xs ys a b

abbrev AreWithin : Sides → Type 0
AreWithin s = IsSideWithin permittivity s.eps × IsSideWithin screening_length s.lam

some_rectangles : (p : Params) (es ls : List Side) → All (IsSideWithin permittivity) es → All (IsSideWithin screening_length) ls → (rs : List Rectangle) × AreRectangles p es ls rs
some_rectangles p es ls eps lam =
    zip_some AreWithin (HasSides p) (λ s within. a_rectangle p s.eps s.lam within.0 within.1) (rows_of es ls)
    (rows_all AreWithin es ls (λ k d less. λ j e also. (eps k d less, lam j e also)))

some_parts : (r : Rectangle) → (parts : List Rectangle) × AreParts r parts
some_parts r = some_rectangles r.weakest (halves_of (eps_side r)) (halves_of (lam_side r)) (halves_within permittivity (eps_side r) (eps_within r)) (halves_within screening_length (lam_side r) (lam_within r))

some_grid : (p : Params) (a : Axes) → AreAxes a → HasFarEnds a → (rs : List Rectangle) × AreGridRectangles p a rs
some_grid p a axes far =
    some_rectangles p (steps_of a.eps) (steps_of a.lam)
    (steps_within a.eps (start_above permittivity a.eps (omega (arith, ints)) axes.eps) (step_above permittivity a.eps axes.eps) permittivity (omega (arith, ints)) (first_within permittivity a.eps axes.eps) far.eps)
    (steps_within a.lam (start_above screening_length a.lam (omega (arith, ints)) axes.lam) (step_above screening_length a.lam axes.lam) screening_length (omega (arith, ints)) (first_within screening_length a.lam axes.lam) far.lam)

pub some_whole : (p : Params) (a : Axes) → AreAxes a → HasFarEnds a → (whole : Rectangle) × IsGridWhole p a whole
some_whole p a axes far =
    a_rectangle p (whole_side a.eps) (whole_side a.lam)
    (span_within a.eps (start_above permittivity a.eps (omega (arith, ints)) axes.eps) (step_above permittivity a.eps axes.eps) permittivity (omega (arith, ints)) (first_within permittivity a.eps axes.eps) far.eps)
    (span_within a.lam (start_above screening_length a.lam (omega (arith, ints)) axes.lam) (step_above screening_length a.lam axes.lam) screening_length (omega (arith, ints)) (first_within screening_length a.lam axes.lam) far.lam)

-- each rectangle has at most one list of tiles
abbrev IsOnce : (Rectangle → List Tile → Type 0) → Type 0
IsOnce refined = (r : Rectangle) (xs ys : List Tile) → refined r xs → refined r ys → xs ≡ ys

-- one list of tiles
module _ (says : Rectangle → CellAnswer → Type 0) (one : (r : Rectangle) (a b : CellAnswer) → says r a → says r b → a ≡ b) where
  joined_once : (refined : Rectangle → List Tile → Type 0) → IsOnce refined → (rs : List Rectangle) (xs ys : List Tile) → AreJoined refined rs xs → AreJoined refined rs ys → xs ≡ ys
  joined_once refined once rs xs ys a b =
      a.joined ∙ ap (λ (ls : List (List Tile)). flat_map (λ ts. ts) ls) (zip_one refined once rs a.lists b.lists a.each b.each) ∙ sym b.joined

  pub one_refined : (depth : ℕ) (r : Rectangle) (xs ys : List Tile) → IsRefined says depth r xs → IsRefined says depth r ys → xs ≡ ys
  one_refined zero r xs ys a b = a.tile ∙ ap (λ (answer : CellAnswer). tile_of r answer ∷ []) (one r a.answer b.answer a.said b.said) ∙ sym b.tile
  one_refined (suc depth) r xs ys a b =
      by (one_refined depth) (goes_on r a.answer) a.tiled
      (subst (λ (answer : CellAnswer). MatchBool (goes_on r answer) (AreOfParts (IsRefined says depth) r ys) (ys ≡ tile_of r answer ∷ [])) (one r b.answer a.answer b.said a.said) b.tiled)
    where
      of_parts : IsOnce (IsRefined says depth) → AreOfParts (IsRefined says depth) r xs → AreOfParts (IsRefined says depth) r ys → xs ≡ ys
      of_parts below left right =
          let same = one_list r.weakest (halves_of (eps_side r)) (halves_of (lam_side r)) right.parts left.parts right.of_cut left.of_cut in
          joined_once (IsRefined says depth) below left.parts xs ys left.of_parts
          (subst (λ (ps : List Rectangle). AreJoined (IsRefined says depth) ps ys) same right.of_parts)

      by : IsOnce (IsRefined says depth) → (further : Bool) → MatchBool further (AreOfParts (IsRefined says depth) r xs) (xs ≡ tile_of r a.answer ∷ []) → MatchBool further (AreOfParts (IsRefined says depth) r ys) (ys ≡ tile_of r a.answer ∷ []) → xs ≡ ys
      by below true left right = of_parts below left right
      by below false left right = left ∙ sym right

  pub one_grid : (p : Params) (a : Axes) (depth : ℕ) (xs ys : List Tile) → AreGridTiles says p a depth xs → AreGridTiles says p a depth ys → xs ≡ ys
  one_grid p a depth xs ys left right =
      let same = one_list p (steps_of a.eps) (steps_of a.lam) right.rectangles left.rectangles right.of_grid left.of_grid in
      joined_once (IsRefined says depth) (one_refined depth) left.rectangles xs ys left.refined
      (subst (λ (rs : List Rectangle). AreJoined (IsRefined says depth) rs ys) same right.refined)

-- some list of tiles
module _ (says : Rectangle → CellAnswer → Type 0) (some : (r : Rectangle) → (a : CellAnswer) × says r a) where
  joined_somehow : (refined : Rectangle → List Tile → Type 0) → ((r : Rectangle) → (tiles : List Tile) × refined r tiles) → (rs : List Rectangle) → (tiles : List Tile) × AreJoined refined rs tiles
  joined_somehow refined each rs =
      let lists = zip_some (λ (r : Rectangle). Unit {0}) refined (λ r here. each r) rs (λ k d within. tt) in
      (flat_map (λ ts. ts) lists.0, record { lists = lists.0; each = lists.1; joined = refl })

  pub some_refined : (depth : ℕ) (r : Rectangle) → (tiles : List Tile) × IsRefined says depth r tiles
  some_refined zero r =
      let answer = some r in
      (tile_of r answer.0 ∷ [], record { answer = answer.0; said = answer.1; tile = refl })
  some_refined (suc depth) r = by (some_refined depth) (some r).0 (some r).1 (goes_on r (some r).0) refl
    where
      by : ((q : Rectangle) → (tiles : List Tile) × IsRefined says depth q tiles) → (answer : CellAnswer) → says r answer → (further : Bool) → goes_on r answer ≡ further → (tiles : List Tile) × IsRefined says (suc depth) r tiles
      by below answer said true is =
          let parts = some_parts r in
          let joined = joined_somehow (IsRefined says depth) below parts.0 in
          let tiled : AreOfParts (IsRefined says depth) r joined.0 = record { parts = parts.0; of_cut = parts.1; of_parts = joined.1 } in
          (joined.0, record { answer = answer; said = said; tiled = rw is tiled })
      by below answer said false is =
          let tiled : tile_of r answer ∷ [] ≡ tile_of r answer ∷ [] = refl in
          (tile_of r answer ∷ [], record { answer = answer; said = said; tiled = rw is tiled })

  pub some_grid_tiles : (p : Params) (a : Axes) (depth : ℕ) → AreAxes a → HasFarEnds a → (tiles : List Tile) × AreGridTiles says p a depth tiles
  some_grid_tiles p a depth axes far =
      let rectangles = some_grid p a axes far in
      let joined = joined_somehow (IsRefined says depth) (some_refined depth) rectangles.0 in
      (joined.0, record { rectangles = rectangles.0; of_grid = rectangles.1; refined = joined.1 })

-- they are tiles, and the answer of each holds
module _ (says : Rectangle → CellAnswer → Type 0) where
  alone_judged : (r : Rectangle) (answer : CellAnswer) (tiles : List Tile) → says r answer → tiles ≡ tile_of r answer ∷ [] → AreJudgedTiles says r tiles
  alone_judged r answer tiles said is =
      let one : AreJudgedTiles says r (tile_of r answer ∷ []) = record {
        tiling = one_tile r;
        answers = All-cons (λ (t : Tile). says t.rectangle t.answer) (tile_of r answer) [] said (All-nil (λ (t : Tile). says t.rectangle t.answer));
      } in
      subst (AreJudgedTiles says r) (sym is) one

  rectangles_joined : (lists : List (List Tile)) → rectangles_in (flat_map (λ ts. ts) lists) ≡ flat_map (λ rs. rs) (map rectangles_in lists)
  rectangles_joined [] = refl
  rectangles_joined (ts ∷ lists) = map-append (λ (t : Tile). t.rectangle) ts (flat_map (λ ts. ts) lists) ∙ ap (λ (rs : List Rectangle). rectangles_in ts ++ rs) (rectangles_joined lists)

  answers_joined : (rs : List Rectangle) (lists : List (List Tile)) → AllZip (AreJudgedTiles says) rs lists → All (λ (t : Tile). says t.rectangle t.answer) (flat_map (λ ts. ts) lists)
  answers_joined [] [] zip = All-nil (λ (t : Tile). says t.rectangle t.answer)
  answers_joined [] (ts ∷ lists) zip = absurd zip
  answers_joined (r ∷ rs) [] zip = absurd zip
  answers_joined (r ∷ rs) (ts ∷ lists) zip = All-append (λ (t : Tile). says t.rectangle t.answer) ts (flat_map (λ ts. ts) lists) zip.0.answers (answers_joined rs lists zip.1)

  joined_judged : (whole : Rectangle) (rs : List Rectangle) (tiles : List Tile) (refined : Rectangle → List Tile → Type 0) → ((r : Rectangle) (ts : List Tile) → refined r ts → AreJudgedTiles says r ts)
      → AreTiles whole rs → AreJoined refined rs tiles → AreJudgedTiles says whole tiles
  joined_judged whole rs tiles refined judged are joined =
      let zip = zip_weaker refined (AreJudgedTiles says) judged rs joined.lists joined.each in
      let tiled = zip_map (AreJudgedTiles says) AreTiles rectangles_in (λ r ts is. is.tiling) rs joined.lists zip in
      let all : AreJudgedTiles says whole (flat_map (λ ts. ts) joined.lists) = record {
        tiling = subst (AreTiles whole) (sym (rectangles_joined joined.lists)) (many_tiles whole rs (map rectangles_in joined.lists) are tiled);
        answers = answers_joined rs joined.lists zip;
      } in
      subst (AreJudgedTiles says whole) (sym joined.joined) all

  pub refined_judged : (depth : ℕ) (r : Rectangle) (tiles : List Tile) → IsRefined says depth r tiles → AreJudgedTiles says r tiles
  refined_judged zero r tiles is = alone_judged r is.answer tiles is.said is.tile
  refined_judged (suc depth) r tiles is = by (refined_judged depth) (goes_on r is.answer) is.tiled
    where
      by : ((q : Rectangle) (ts : List Tile) → IsRefined says depth q ts → AreJudgedTiles says q ts) → (further : Bool) → MatchBool further (AreOfParts (IsRefined says depth) r tiles) (tiles ≡ tile_of r is.answer ∷ []) → AreJudgedTiles says r tiles
      by below true parts = joined_judged r parts.parts tiles (IsRefined says depth) below (parts_tile r parts.parts parts.of_cut) parts.of_parts
      by below false alone = alone_judged r is.answer tiles is.said alone

  pub grid_judged : (p : Params) (a : Axes) (depth : ℕ) (whole : Rectangle) (tiles : List Tile) → AreAxes a → IsGridWhole p a whole → AreGridTiles says p a depth tiles → AreJudgedTiles says whole tiles
  grid_judged p a depth whole tiles axes is are = joined_judged whole are.rectangles tiles (IsRefined says depth) (refined_judged depth) (grid_tiles p a whole are.rectangles axes is are.of_grid) are.refined

  -- their areas
  pub grid_small : (p : Params) (a : Axes) (depth : ℕ) (tiles : List Tile) → AreAxes a → HasFarEnds a → AreGridTiles says p a depth tiles → whole_area tiles < 2 ^ 64
  grid_small p a depth tiles axes far are =
      let whole = some_whole p a axes far in
      let judged = grid_judged p a depth whole.0 tiles axes whole.1 are in
      let small = small_area whole.0 in
      let same = sum_of_map tiles in
      omega (arith, small, same, judged.tiling.area)
    where
      sum_of_map : (ts : List Tile) → sum_by area_of (rectangles_in ts) ≡ whole_area ts
      sum_of_map [] = refl
      sum_of_map (t ∷ ts) = sum_by-cons area_of t.rectangle (rectangles_in ts) ∙ ap (λ (n : ℕ). area_of t.rectangle + n) (sum_of_map ts) ∙ sym (sum_by-cons (λ (u : Tile). area_of u.rectangle) t ts)

      small_area : (r : Rectangle) → area_of r < 2 ^ 64
      small_area r =
          let eps : eps_of r.weakest - eps_of r.strongest ≤ 1000000 = omega (arith, ints, (eps_within r).to) in
          let lam : lam_of r.strongest - lam_of r.weakest ≤ 10000000 = omega (arith, ints, (lam_within r).to) in
          omega (arith, mul-le-mul eps lam)
