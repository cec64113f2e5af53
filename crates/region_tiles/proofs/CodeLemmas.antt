-- one more side, one more rectangle, one more part
use Rattle.std.proofs.Common.{◌≡◌, ◌∙◌, ℕ, ℤ, zero, suc, pos, ◌+◌, ◌-◌, ◌*◌, ◌<◌, ◌≤◌, ◌≤ℤ◌, ◌⊎◌, inl, inr, true, false, List, [], ◌∷◌, ◌++◌, length, map, take, get_or, append_assoc, refl, sym, ap, subst, arith}
use Rattle.std.specs.Prelude.{All, flat_map}
use Rattle.std.specs.List.{AllZip, range_with_len}
use Rattle.std.proofs.lemmas.List.{append-nil, map-append, take_all, take_more}
use Rattle.std.proofs.lemmas.List.FromFn.{map-range_with_len_more}
use Rattle.std.proofs.lemmas.Grind.{flat_map-append}
use Rattle.std.proofs.lemmas.Slice.Zip.{all_zipped_more}
use Rattle.model_params.specs.declared.params.Params.{Params}
use Rattle.model_params.specs.declared.quantity.Quantity.{Quantity}
use Rattle.model_params.specs.Quantities.{IsInRangeOf}
use Rattle.gate_model.specs.declared.grid.Axis.{Axis}
use Rattle.gate_model.specs.Grids.{IsAxis, point_at}
use Rattle.bdl_pairs.specs.declared.cell.CellAnswer.{CellAnswer}
use Rattle.parameter_regions.specs.declared.rectangles.Rectangle.{Rectangle}
use Rattle.region_tiles.specs.declared.sides.Side.{Side}
use Rattle.region_tiles.specs.declared.tiles.Tile.{Tile}
use Rattle.region_tiles.specs.Sides.{IsSideWithin, between, step_at, steps_of}
use Rattle.region_tiles.specs.Rectangles.{AreParts, HasSides, Sides, sides_of}
use Rattle.region_tiles.specs.Refined.{AreJoined, AreOfParts, IsRefined, goes_on, tile_of}
use Rattle.region_tiles.specs.Added.{AddsTiles}
use Rattle.region_tiles.proofs.GridLemmas.{first_within, start_above, step_above, steps_within}

-- one more side of a direction
pub steps_more : (axis : Axis) (start step k : ℕ) (before after : List Side) (s : Side) → axis.start ≡ pos start → axis.step ≡ pos step → before ≡ map (step_at axis) (range_with_len 0 k)
    → s ≡ between (start + step * k) (start + step * (k + 1)) → after ≡ before ++ s ∷ [] → after ≡ map (step_at axis) (range_with_len 0 (k + 1))
steps_more axis start step k before after s of_start of_step was is pushed =
    let numbers : step_at (record { start = pos start; step = pos step; count = axis.count }) k ≡ between (start + step * k) (start + step * (k + 1)) = refl in
    let same : step_at axis k ≡ step_at (record { start = pos start; step = pos step; count = axis.count }) k =
    ap (λ (z : ℤ). step_at (record { start = z; step = axis.step; count = axis.count }) k) of_start ∙ ap (λ (z : ℤ). step_at (record { start = pos start; step = z; count = axis.count }) k) of_step in
    pushed ∙ ap (λ (ss : List Side). ss ++ s ∷ []) was ∙ ap (λ (t : Side). map (step_at axis) (range_with_len 0 k) ++ t ∷ []) (is ∙ sym numbers ∙ sym same)
    ∙ sym (map-range_with_len_more (step_at axis) 0 k k (omega arith))

-- the sides of a direction are in range
pub steps_in_range : (q : Quantity) (axis given : Axis) (xs ys : List Side) → pos 0 ≤ℤ q.least → given ≡ axis → IsAxis q axis → IsInRangeOf q (point_at axis axis.count) → ys ≡ steps_of given → xs ≡ ys → All (IsSideWithin q) xs
steps_in_range q axis given xs ys least same is far listed seen =
    let all = steps_within axis (start_above q axis least is) (step_above q axis is) q least (first_within q axis is) far in
    subst (All (IsSideWithin q)) (sym (seen ∙ listed ∙ ap steps_of same)) all

-- one more rectangle of a row
pub row_more : (p : Params) (e : Side) (ls : List Side) (j : ℕ) (d : Side) (seen : List Sides) (rs after : List Rectangle) (r : Rectangle) → j < length ls
    → AllZip (HasSides p) (seen ++ map (sides_of e) (take j ls)) rs → HasSides p (sides_of e (get_or ls j d)) r → after ≡ rs ++ r ∷ [] → AllZip (HasSides p) (seen ++ map (sides_of e) (take (j + 1) ls)) after
row_more p e ls j d seen rs after r within zip is pushed =
    let more : map (sides_of e) (take (j + 1) ls) ≡ map (sides_of e) (take j ls) ++ sides_of e (get_or ls j d) ∷ [] =
    ap (map (sides_of e)) (take_more ls j d within) ∙ map-append (sides_of e) (take j ls) (get_or ls j d ∷ []) in
    let listed : seen ++ map (sides_of e) (take (j + 1) ls) ≡ (seen ++ map (sides_of e) (take j ls)) ++ sides_of e (get_or ls j d) ∷ [] =
    ap (λ (ss : List Sides). seen ++ ss) more ∙ sym (append_assoc seen (map (sides_of e) (take j ls)) (sides_of e (get_or ls j d) ∷ [])) in
    let both = all_zipped_more (HasSides p) (seen ++ map (sides_of e) (take j ls)) rs (sides_of e (get_or ls j d)) r zip is in
    subst (AllZip (HasSides p) (seen ++ map (sides_of e) (take (j + 1) ls))) (sym pushed) (subst (λ (ss : List Sides). AllZip (HasSides p) ss (rs ++ r ∷ [])) (sym listed) both)

-- a rectangle that stays whole
alone_refined : (says : Rectangle → CellAnswer → Type 0) (depth : ℕ) (r : Rectangle) (answer : CellAnswer) → says r answer → (depth ≡ 0) ⊎ (goes_on r answer ≡ false) → IsRefined says depth r (tile_of r answer ∷ [])
alone_refined says zero r answer said why = record { answer = answer; said = said; tile = refl }
alone_refined says (suc depth) r answer said (inl none) = absurd (omega (arith, none))
alone_refined says (suc depth) r answer said (inr stays) = let tiled : tile_of r answer ∷ [] ≡ tile_of r answer ∷ [] = refl in record { answer = answer; said = said; tiled = rw stays tiled }

pub added_alone : (says : Rectangle → CellAnswer → Type 0) (depth : ℕ) (r : Rectangle) (answer : CellAnswer) (before after : List Tile) → says r answer → (depth ≡ 0) ⊎ (goes_on r answer ≡ false)
    → after ≡ before ++ tile_of r answer ∷ [] → AddsTiles (IsRefined says depth r) before after
added_alone says depth r answer before after said why pushed = record { more = tile_of r answer ∷ []; appended = pushed; of_more = alone_refined says depth r answer said why }

-- no part yet, one more, and all of them
pub added_none : (refined : Rectangle → List Tile → Type 0) (before : List Tile) → AddsTiles (AreJoined refined []) before before
added_none refined before = record { more = []; appended = sym (append-nil before); of_more = record { lists = []; each = tt; joined = refl } }

pub added_part : (refined : Rectangle → List Tile → Type 0) (parts : List Rectangle) (k : ℕ) (part : Rectangle) (before between after : List Tile) → k < length parts → get_or parts k part ≡ part
    → AddsTiles (AreJoined refined (take k parts)) before between → AddsTiles (refined part) between after → AddsTiles (AreJoined refined (take (k + 1) parts)) before after
added_part refined parts k part before between after within is first second =
    let listed : take (k + 1) parts ≡ take k parts ++ part ∷ [] = take_more parts k part within ∙ ap (λ (r : Rectangle). take k parts ++ r ∷ []) is in
    let lists = first.of_more.lists in
    record {
      more = first.more ++ second.more;
      appended = second.appended ∙ ap (λ (ts : List Tile). ts ++ second.more) first.appended ∙ append_assoc before first.more second.more;
      of_more = record {
        lists = lists ++ second.more ∷ [];
        each = subst (λ (rs : List Rectangle). AllZip refined rs (lists ++ second.more ∷ [])) (sym listed) (all_zipped_more refined (take k parts) lists part second.more first.of_more.each second.of_more);
        joined = ap (λ (ts : List Tile). ts ++ second.more) first.of_more.joined ∙ ap (λ (ts : List Tile). flat_map (λ us. us) lists ++ ts) (sym (append-nil second.more)) ∙ sym (flat_map-append (λ us. us) lists (second.more ∷ []));
      };
    }

of_parts : (says : Rectangle → CellAnswer → Type 0) (depth : ℕ) (r : Rectangle) (answer : CellAnswer) (parts : List Rectangle) (tiles : List Tile) → 1 ≤ depth → says r answer → goes_on r answer ≡ true → AreParts r parts
    → AreJoined (IsRefined says (depth - 1)) parts tiles → IsRefined says depth r tiles
of_parts says zero r answer parts tiles some said goes are joined = absurd (omega (arith, some))
of_parts says (suc depth) r answer parts tiles some said goes are joined =
    let less : suc depth - 1 ≡ depth = omega arith in
    let tiled : AreOfParts (IsRefined says depth) r tiles = record { parts = parts; of_cut = are; of_parts = subst (λ (n : ℕ). AreJoined (IsRefined says n) parts tiles) less joined } in
    record { answer = answer; said = said; tiled = rw goes tiled }

pub added_parts : (says : Rectangle → CellAnswer → Type 0) (depth : ℕ) (r : Rectangle) (answer : CellAnswer) (parts : List Rectangle) (k : ℕ) (before after : List Tile) → 1 ≤ depth → says r answer → goes_on r answer ≡ true → AreParts r parts
    → length parts ≤ k → AddsTiles (AreJoined (IsRefined says (depth - 1)) (take k parts)) before after → AddsTiles (IsRefined says depth r) before after
added_parts says depth r answer parts k before after some said goes are past adds = record {
  more = adds.more;
  appended = adds.appended;
  of_more = of_parts says depth r answer parts adds.more some said goes are (subst (λ (rs : List Rectangle). AreJoined (IsRefined says (depth - 1)) rs adds.more) (take_all k parts past) adds.of_more);
}

pub added_to_none : (holds : List Tile → Type 0) (before after : List Tile) → before ≡ [] → AddsTiles holds before after → holds after
added_to_none holds before after none adds = subst holds (sym (adds.appended ∙ ap (λ (ts : List Tile). ts ++ adds.more) none)) adds.of_more
