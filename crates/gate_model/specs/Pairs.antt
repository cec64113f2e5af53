-- pairs of sites in texts: `A:B`, with commas between them
use Rattle.std.specs.Prelude.{◌≡◌, ℕ, pos, ◌≤◌, eqb, List, [], ◌∷◌, length}
use Rattle.std.specs.List.{AllZip, slice_split}
use Rattle.sidb_units.specs.Decimal.{IsReadAs}
use Rattle.gate_model.specs.declared.TheConstants.{MAX_PAIR_PLACE}
use Rattle.gate_model.specs.declared.pairs.PairOf.{PairOf}

-- what stands between the commas of a text
abbrev pub parts : List ℕ → List (List ℕ)
parts text = slice_split (λ b. eqb b 44) text

-- what stands between the colons of a part
abbrev pub between_colons : List ℕ → List (List ℕ)
between_colons part = slice_split (λ b. eqb b 58) part

-- a place of a site: a whole number from 0 to 9,999
abbrev pub IsPlace : List ℕ → ℕ → Type 0
IsPlace word place = IsReadAs word 0 (pos 0) MAX_PAIR_PLACE (pos place)

-- the two places of a pair
pub record IsPair (part : List ℕ) (pair : PairOf) : Type 0 where
  pub a_word : List ℕ
  pub b_word : List ℕ
  pub words : between_colons part ≡ a_word ∷ b_word ∷ []
  pub a : IsPlace a_word pair.a
  pub b : IsPlace b_word pair.b

-- a text is these pairs, of which there are at most `most`
pub record ArePairs (most : ℕ) (text : List ℕ) (pairs : List PairOf) : Type 0 where
  pub each : AllZip IsPair (parts text) pairs
  pub few : length pairs ≤ most
