-- Table texts worked by hand: one of two sites with its lines, and texts with a row at fault.
use Rattle.std.proofs.Common.{refl, ℕ, pos, negsuc, List, [], ◌∷◌, ◌++◌, codes, arith, inr}
use Rattle.std.specs.Fmt.{digits}
use Rattle.table_lines.specs.declared.line.TableLine.{TableLine}
use Rattle.table_lines.specs.declared.line.TableLine.TheVariants.{FirstVersion, Sites, Base, Levels, Class, Pair, End}
use Rattle.table_lines.specs.declared.fault.LineWhy.TheVariants.{Form}
use Rattle.table_lines.specs.declared.fault.TableFault.TheVariants.{Line, TooMany}
use Rattle.table_lines.specs.FineLines.{IsFineTableLine, AreFineTableLines, AreTableLinesIn, IsRowFault}

-- the first lines of a text of two sites, its class, its pair and its end
abbrev pub head_text : List ℕ
head_text = codes "sidb-table 1" ++ 10 ∷ codes "sites 2" ++ 10 ∷ codes "base 3" ++ 10 ∷ codes "mu -2 -5" ++ 10 ∷ codes "class 1 3" ++ 10 ∷ []

abbrev pub pair_text : List ℕ
pair_text = head_text ++ codes "pair 0 1 0" ++ 10 ∷ codes "end" ++ 10 ∷ []

-- its lines
abbrev pub head : List TableLine → List TableLine
head rest = FirstVersion ∷ Sites (pos 2) ∷ Base (pos 3) ∷ Levels (negsuc 1) (negsuc 4) ∷ Class (pos 1) (pos 3) ∷ rest

abbrev pub pair_lines : List TableLine
pair_lines = head (Pair (pos 0) (pos 1) (pos 0) ∷ End ∷ [])

-- the first lines are fine, and so are all where those behind them are
pub fine_head : (rest : List TableLine) → AreFineTableLines (head []) rest → AreFineTableLines [] (head rest)
fine_head rest fine =
    let version : IsFineTableLine [] FirstVersion = record { follows = refl; faultless = refl; short = tt } in
    let sites : IsFineTableLine (FirstVersion ∷ []) (Sites (pos 2)) = record { follows = refl; faultless = refl; short = omega arith } in
    let base : IsFineTableLine (FirstVersion ∷ Sites (pos 2) ∷ []) (Base (pos 3)) = record { follows = refl; faultless = refl; short = omega arith } in
    let levels : IsFineTableLine (FirstVersion ∷ Sites (pos 2) ∷ Base (pos 3) ∷ []) (Levels (negsuc 1) (negsuc 4)) = record { follows = refl; faultless = refl; short = (omega arith, omega arith) } in
    let class : IsFineTableLine (FirstVersion ∷ Sites (pos 2) ∷ Base (pos 3) ∷ Levels (negsuc 1) (negsuc 4) ∷ []) (Class (pos 1) (pos 3)) = record { follows = refl; faultless = refl; short = (omega arith, omega arith) } in
    (version, (sites, (base, (levels, (class, fine)))))

pub two_sites_fine : AreFineTableLines [] pair_lines
two_sites_fine =
    let pair : IsFineTableLine (head []) (Pair (pos 0) (pos 1) (pos 0)) = record { follows = refl; faultless = refl; short = (omega arith, omega arith, omega arith) } in
    let end : IsFineTableLine (head (Pair (pos 0) (pos 1) (pos 0) ∷ [])) End = record { follows = refl; faultless = refl; short = tt } in
    fine_head (Pair (pos 0) (pos 1) (pos 0) ∷ End ∷ []) (pair, (end, tt))

pub two_sites_whole : AreTableLinesIn pair_text pair_lines
unfolding digits
two_sites_whole = record { rows_are = refl; fine = two_sites_fine; ended = refl }

-- sixty-five sites are too many, whatever follows
abbrev pub many_text : List ℕ
many_text = codes "sidb-table 1" ++ 10 ∷ codes "sites 65" ++ 10 ∷ codes "base 4"

pub sites_are_too_many : IsRowFault 1 many_text TooMany
unfolding digits
sites_are_too_many = record {
  before = FirstVersion ∷ [];
  row = codes "sites" ∷ codes "65" ∷ [];
  rest = (codes "base" ∷ codes "4" ∷ []) ∷ [];
  rows_are = refl;
  fine = (record { follows = refl; faultless = refl; short = tt }, tt);
  wrong = inr (Sites (pos 65), refl, omega arith, refl, refl);
}

-- the empty text is no line
pub no_line : IsRowFault 1 [] (Line 1 Form)
no_line = record {
  before = [];
  row = [] ∷ [];
  rest = [];
  rows_are = refl;
  fine = tt;
  wrong = (refl, λ ended row. absurd (cc ended));
}
