-- from the lines of a text to the text
use Rattle.std.proofs.Common.{◌≡◌, ◌∙◌, sym, ap, subst, ℕ, ◌+◌, ◌⊎◌, inl, inr, List, [], ◌∷◌, ◌++◌, map, length, Option, Some, Result, Ok, Err}
use Rattle.std.specs.Prelude.{IfOk}
use Rattle.std.specs.List.{filter_map}
use Rattle.std.proofs.lemmas.List.{length-map}
use Rattle.std.proofs.lemmas.List.Elements.{All-head, All-tail}
use Rattle.sidb_layout.specs.Layout.{Arrangement}
use Rattle.sites_layout.specs.declared.line.Vectors.{Vectors}
use Rattle.sites_layout.specs.declared.line.SitesLine.{SitesLine}
use Rattle.sites_layout.specs.declared.line.SitesLine.TheVariants.{Empty, Place, Charge, Lattice}
use Rattle.sqd_scan.specs.declared.fault.SqdFault.{SqdFault}
use Rattle.sqd_scan.specs.declared.fault.SqdFault.TheVariants.{BadLine, Memory}
use Rattle.sites_layout.specs.SitesLines.{line_in, lines_in, sites_lines_of, vectors_of}
use Rattle.sites_layout.specs.SitesFaults.{AreFineSitesLines, AreInReach, AreLinesInRange, IsLineInRange, IsLinesFault, IsLayoutOf, IsSitesText, IsSitesFault}
use Rattle.sites_layout.proofs.FineLines.{first_bad, lines_back}

-- the vectors of lines in range are those of a lattice
pub in_reach : (ls : List SitesLine) (w : Vectors) → AreLinesInRange ls → vectors_of ls ≡ Some w → AreInReach w
in_reach [] w all e = absurd (cc e)
in_reach (Empty ∷ ls) w all e = in_reach ls w (All-tail IsLineInRange Empty ls all) e
in_reach (Place s ∷ ls) w all e = in_reach ls w (All-tail IsLineInRange (Place s) ls all) e
in_reach (Charge f ∷ ls) w all e = in_reach ls w (All-tail IsLineInRange (Charge f) ls all) e
in_reach (Lattice v ∷ ls) w all e =
    let same : v ≡ w = cc e in
    subst AreInReach same (All-head IsLineInRange (Lattice v) ls all)

-- a wrong line behind fine ones is the fault of the text
pub wrong_line : (text : List ℕ) (ls : List SitesLine) (line : List ℕ) (more : List (Option SitesLine)) (fault : SqdFault)
    → lines_in text ≡ map Some ls ++ line_in line ∷ more → AreFineSitesLines (map Some ls)
    → (fault ≡ Memory) ⊎ ((fault ≡ BadLine (length ls + 1)) × (¬ AreFineSitesLines (map Some ls ++ line_in line ∷ [])))
    → (fault ≡ Memory) ⊎ IsSitesFault text fault
wrong_line text ls line more fault is fine (inl e) = inl e
wrong_line text ls line more fault is fine (inr (e, wrong)) =
    let number : length ls + 1 ≡ length (map Some ls) + 1 = simp length-map in
    let bad = first_bad (lines_in text) (map Some ls) more (line_in line) is fine wrong in
    inr (subst (λ f. IsSitesFault text f) (sym e) (length (map Some ls), number, bad))

pub lines_are : (text : List ℕ) (ls : List SitesLine) → lines_in text ≡ map Some ls → sites_lines_of text ≡ ls
lines_are text ls is = ap (filter_map (λ line. line)) is ∙ lines_back ls

-- a layout of the lines is one of the text
pub text_layout : (text : List ℕ) (ls : List SitesLine) (p : Arrangement) → lines_in text ≡ map Some ls → AreFineSitesLines (map Some ls)
    → IsLayoutOf ls p → IsSitesText text p
text_layout text ls p is fine layout = record {
  fine = subst AreFineSitesLines (sym is) fine;
  layout = subst (λ l. IsLayoutOf l p) (sym (lines_are text ls is)) layout;
}

both_facts : (text : List ℕ) (fault : SqdFault) → AreFineSitesLines (lines_in text) → IsLinesFault (sites_lines_of text) fault → IsSitesFault text fault
both_facts text (BadLine k) fine h = absurd h
both_facts text fault fine h = (fine, h)

-- a fault of the lines is one of the text
pub text_fault : (text : List ℕ) (ls : List SitesLine) (fault : SqdFault) → lines_in text ≡ map Some ls → AreFineSitesLines (map Some ls)
    → (fault ≡ Memory) ⊎ IsLinesFault ls fault → (fault ≡ Memory) ⊎ IsSitesFault text fault
text_fault text ls fault is fine (inl e) = inl e
text_fault text ls fault is fine (inr h) =
    inr (both_facts text fault (subst AreFineSitesLines (sym is) fine) (subst (λ l. IsLinesFault l fault) (sym (lines_are text ls is)) h))

-- what follows for the value of an Ok
pub if_ok : {T E : Type 0} (P Q : T → Type 0) (r : Result T E) → ((x : T) → P x → Q x) → IfOk r P → IfOk r Q
if_ok P Q (Ok x) f h = f x h
if_ok P Q (Err e) f h = h
