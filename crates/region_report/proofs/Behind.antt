-- what is written, followed by what is due for the rest of a list, is the whole
use Rattle.std.proofs.Common.{◌≡◌, ◌∙◌, ap, sym, refl, ℕ, suc, ◌+◌, ◌≤◌, List, [], ◌∷◌, ◌++◌, append_assoc, length, map, drop, Some, drop-cons, add-one}
use Rattle.std.proofs.lemmas.List.{append-nil, drop_all}
use Rattle.std.proofs.lemmas.Option.{slice_get_within, get_or_from_slice_get}
use Rattle.std.specs.List.{slice_get, join_with_byte}
use Rattle.serde_json.specs.Data.{Data}
use Rattle.text_rows.specs.Rows.{text_of}
use Rattle.region_tiles.specs.declared.tiles.Tile.{Tile}
use Rattle.region_report.specs.RegionText.{tile_row}
use Rattle.region_report.specs.RegionJson.{tile_data}

module _ {Y : Type 0} (due : List Tile → List Y) (part : Tile → List Y)
    (steps : (t : Tile) (ts : List Tile) → due (t ∷ ts) ≡ part t ++ due ts)
    (ends : due [] ≡ []) where
  pub one_more : (ts : List Tile) (k : ℕ) (t : Tile) (old new whole : List Y) → slice_get ts k ≡ Some t → old ++ due (drop k ts) ≡ whole → new ≡ old ++ part t → new ++ due (drop (k + 1) ts) ≡ whole
  one_more ts k t old new whole here before is =
      let rest : drop k ts ≡ t ∷ drop (k + 1) ts =
      drop-cons ts k t (slice_get_within ts k t here) ∙ ap (λ y. y ∷ drop (suc k) ts) (get_or_from_slice_get ts k t t here) ∙ ap (λ n. t ∷ drop n ts) (sym (add-one k)) in
      ap (λ l. l ++ due (drop (k + 1) ts)) is ∙ append_assoc old (part t) (due (drop (k + 1) ts))
      ∙ ap (λ l. old ++ l) (sym (steps t (drop (k + 1) ts))) ∙ ap (λ l. old ++ due l) (sym rest) ∙ before

  pub all_done : (ts : List Tile) (k : ℕ) (old whole : List Y) → length ts ≤ k → old ++ due (drop k ts) ≡ whole → old ≡ whole
  all_done ts k old whole past before =
      sym (append-nil old) ∙ ap (λ l. old ++ l) (sym ends) ∙ ap (λ l. old ++ due l) (sym (drop_all k ts past)) ∙ before

-- the lines of the tiles
abbrev pub lines_due : List Tile → List ℕ
lines_due ts = text_of (map tile_row ts)

abbrev pub line_part : Tile → List ℕ
line_part t = join_with_byte 32 (tile_row t) ++ 10 ∷ []

pub line_steps : (t : Tile) (ts : List Tile) → lines_due (t ∷ ts) ≡ line_part t ++ lines_due ts
line_steps t ts = sym (append_assoc (join_with_byte 32 (tile_row t)) (10 ∷ []) (text_of (map tile_row ts)))

-- a line behind a text
pub line_added : (base line joined one two : List ℕ) → line ≡ joined → one ≡ base ++ line → two ≡ one ++ 10 ∷ [] → two ≡ base ++ (joined ++ 10 ∷ [])
line_added base line joined one two is first second =
    second ∙ ap (λ t. t ++ 10 ∷ []) (first ∙ ap (λ t. base ++ t) is) ∙ append_assoc base joined (10 ∷ [])

-- the tiles of JSON
abbrev pub items_due : List Tile → List Data
items_due ts = map tile_data ts

abbrev pub item_part : Tile → List Data
item_part t = tile_data t ∷ []

pub item_steps : (t : Tile) (ts : List Tile) → items_due (t ∷ ts) ≡ item_part t ++ items_due ts
item_steps t ts = refl

text_of-append : (rows more : List (List (List ℕ))) → text_of (rows ++ more) ≡ text_of rows ++ text_of more
text_of-append [] more = refl
text_of-append (row ∷ rows) more =
    ap (λ text. join_with_byte 32 row ++ 10 ∷ text) (text_of-append rows more)
    ∙ sym (append_assoc (join_with_byte 32 row) (10 ∷ text_of rows) (text_of more))

-- three parts of a text
pub three_parts : (first second third : List (List (List ℕ))) (a b d ab abd : List ℕ) → a ≡ text_of first → b ≡ text_of second → d ≡ text_of third → ab ≡ a ++ b → abd ≡ ab ++ d → abd ≡ text_of (first ++ (second ++ third))
three_parts first second third a b d ab abd one two three more whole =
    whole ∙ ap (λ t. t ++ d) more ∙ append_assoc a b d ∙ ap (λ t. t ++ (b ++ d)) one ∙ ap (λ t. text_of first ++ (t ++ d)) two ∙ ap (λ t. text_of first ++ (text_of second ++ t)) three
    ∙ ap (λ t. text_of first ++ t) (sym (text_of-append second third)) ∙ sym (text_of-append first (second ++ third))
