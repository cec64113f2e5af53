-- the occupation text: the entries of a window list with their shares
use Rattle.std.specs.Prelude.{ℕ, ℤ, List, [], ◌∷◌, ◌++◌, length, map, zip, codes, decimal, unsigned_abs}
use Rattle.std.specs.Fmt.{signed_decimal}
use Rattle.charge_model.specs.GroundList.{Entry}
use Rattle.charge_state.specs.Text.{charges_text}
use Rattle.occupation.specs.declared.share.Share.{Share}
use Rattle.sidb_units.specs.Decimal.{decimal_text}
use Rattle.text_rows.specs.Rows.{text_of, end_rows}

-- the lines before the entries: the kind, the window and kT in 10^-12 V, and how many sites and how
-- many entries there are
abbrev pub occupation_title_rows : ℤ → ℤ → ℕ → ℕ → List (List (List ℕ))
occupation_title_rows window kt sites entries = (codes "sidb-occupation" ∷ codes "1" ∷ [])
    ∷ (codes "window" ∷ signed_decimal window ∷ [])
    ∷ (codes "kt" ∷ signed_decimal kt ∷ [])
    ∷ (codes "sites" ∷ decimal sites ∷ [])
    ∷ (codes "entries" ∷ decimal entries ∷ []) ∷ []

-- the line of an entry: its charges, and the ends of its share as decimals of nine places
abbrev pub share_row : Entry × Share → List (List ℕ)
share_row x = charges_text x.0.charges ∷ decimal_text 9 (unsigned_abs x.1.lo)
    ∷ decimal_text 9 (unsigned_abs x.1.hi) ∷ []

-- the text of these entries, each with its share
abbrev pub occupation_text : ℤ → ℤ → ℕ → List Entry → List Share → List ℕ
occupation_text window kt sites es shares =
    text_of (occupation_title_rows window kt sites (length es)
    ++ (map share_row (zip es shares) ++ end_rows))
