-- fine lines, and the first that is none
use Rattle.std.proofs.Common.{◌≡◌, ◌∙◌, sym, ap, subst, refl, ℕ, ◌+◌, ◌≤◌, List, [], ◌∷◌, ◌++◌, map, length, take, Bool, true, false, cond, ◌||◌, Option, None, Some, arith}
use Rattle.std.specs.Prelude.{count_by, IsSome}
use Rattle.std.specs.List.{list_any, filter_map}
use Rattle.std.proofs.Math.Seq.{take-append_seam, take-append-add}
use Rattle.std.proofs.lemmas.Bool.{false≢true}
use Rattle.std.proofs.lemmas.List.Elements.{All-take, All-push, All-contains, Contains-push}
use Rattle.std.proofs.lemmas.List.Sums.{sum_by-take-le, sum_by-append, sum_by-cons}
use Rattle.sites_layout.specs.declared.line.SitesLine.{SitesLine}
use Rattle.sites_layout.specs.SitesLines.{is_lattice}
use Rattle.sites_layout.specs.SitesFaults.{AreFineSitesLines, IsFirstBadLine}

-- 1 for a line `lattice`, and else 0
abbrev pub count_of : Option SitesLine → ℕ
count_of line = cond (is_lattice line) 1 0

pub fine_front : (found : List (Option SitesLine)) (n : ℕ) → AreFineSitesLines found → AreFineSitesLines (take n found)
fine_front found n fine = record {
  each = All-take (λ line. IsSome line) n found fine.each;
  one_lattice = omega (arith, sum_by-take-le count_of found n, fine.one_lattice);
}

-- where a line is wrong behind fine ones, it is the first bad one
pub first_bad : (found before more : List (Option SitesLine)) (line : Option SitesLine)
    → found ≡ before ++ line ∷ more → AreFineSitesLines before → ¬ AreFineSitesLines (before ++ line ∷ []) → IsFirstBadLine found (length before)
first_bad found before more line is fine wrong = record {
  before = subst AreFineSitesLines (sym (ap (take (length before)) is ∙ take-append_seam before (line ∷ more))) fine;
  here = λ h. wrong (subst AreFineSitesLines (ap (take (length before + 1)) is ∙ take-append-add before (line ∷ more) 1) h);
}

-- the lines that are there are all lines
pub lines_back : (ls : List SitesLine) → filter_map (λ line. line) (map Some ls) ≡ ls
lines_back [] = refl
lines_back (l ∷ ls) = ap (λ more. l ∷ more) (lines_back ls)

-- the test of a line `lattice` among lines
abbrev pub has_one : List SitesLine → Bool
has_one ls = list_any (λ line. is_lattice (Some line)) ls

none_counted : (ls : List SitesLine) → has_one ls ≡ false → count_by is_lattice (map Some ls) ≡ 0
none_counted [] h = refl
none_counted (l ∷ ls) h = sum_by-cons count_of (Some l) (map Some ls) ∙ by (is_lattice (Some l)) h (none_counted ls)
  where
    by : (b : Bool) → (b || has_one ls) ≡ false → (has_one ls ≡ false → count_by is_lattice (map Some ls) ≡ 0)
        → cond b 1 0 + count_by is_lattice (map Some ls) ≡ 0
    by true h rest = absurd (cc h)
    by false h rest = omega (arith, rest h)

one_counted : (ls : List SitesLine) → has_one ls ≡ true → 1 ≤ count_by is_lattice (map Some ls)
one_counted [] h = absurd (cc h)
one_counted (l ∷ ls) h =
    let rest = by (is_lattice (Some l)) h (one_counted ls) in
    omega (arith, sum_by-cons count_of (Some l) (map Some ls), rest)
  where
    by : (b : Bool) → (b || has_one ls) ≡ true → (has_one ls ≡ true → 1 ≤ count_by is_lattice (map Some ls))
        → 1 ≤ cond b 1 0 + count_by is_lattice (map Some ls)
    by true h rest = omega arith
    by false h rest = omega (arith, rest h)

count_push : (found : List (Option SitesLine)) (line : Option SitesLine) → count_by is_lattice (found ++ line ∷ []) ≡ count_by is_lattice found + count_of line
count_push found line = omega (arith, sum_by-append count_of found (line ∷ []))

more_fine : (found : List (Option SitesLine)) (line : SitesLine) → AreFineSitesLines found → count_by is_lattice found + count_of (Some line) ≤ 1 → AreFineSitesLines (found ++ Some line ∷ [])
more_fine found line fine few = record {
  each = All-push (λ l. IsSome l) found (Some line) fine.each refl;
  one_lattice = omega (arith, count_push found (Some line), few);
}

-- a line that is no line `lattice`
pub fine_plain : (found : List (Option SitesLine)) (line : SitesLine) → AreFineSitesLines found → is_lattice (Some line) ≡ false → AreFineSitesLines (found ++ Some line ∷ [])
fine_plain found line fine plain =
    let none : count_of (Some line) ≡ 0 = ap (λ b. cond b 1 0) plain in
    more_fine found line fine (omega (arith, none, fine.one_lattice))

at_most_one : (b : Bool) → cond b 1 0 ≤ 1
at_most_one true = omega arith
at_most_one false = omega arith

-- a line behind lines without a line `lattice`
pub fine_first : (ls : List SitesLine) (line : SitesLine) → AreFineSitesLines (map Some ls) → has_one ls ≡ false → AreFineSitesLines (map Some ls ++ Some line ∷ [])
fine_first ls line fine none =
    more_fine (map Some ls) line fine (omega (arith, none_counted ls none, at_most_one (is_lattice (Some line))))

-- a second line `lattice`
pub bad_second : (ls : List SitesLine) (line : SitesLine) → has_one ls ≡ true → is_lattice (Some line) ≡ true → ¬ AreFineSitesLines (map Some ls ++ Some line ∷ [])
bad_second ls line some lattice fine =
    let one : count_of (Some line) ≡ 1 = ap (λ b. cond b 1 0) lattice in
    omega (arith, one, one_counted ls some, count_push (map Some ls) (Some line), fine.one_lattice)

-- what is no line
pub bad_none : (found : List (Option SitesLine)) (line : Option SitesLine) → line ≡ None → ¬ AreFineSitesLines (found ++ line ∷ [])
bad_none found line is fine =
    let there = All-contains (λ l. IsSome l) (found ++ line ∷ []) line fine.each (Contains-push found line) in
    false≢true (subst IsSome is there)
