-- the lines of a problem's table text, in the order in which they are printed
use Rattle.std.specs.Prelude.{ℕ, suc, ◌-◌, ◌==◌, pos, cond, List, [], ◌∷◌, ◌++◌, map, flat_map}
use Rattle.std.specs.List.{range_with_len}
use Rattle.charge_model.specs.Problem.{Problem, class_of, near_class_of, fixed_count}
use Rattle.table_lines.specs.declared.line.TableLine.{TableLine}
use Rattle.table_lines.specs.declared.line.TableLine.TheVariants.{FirstVersion, SecondVersion, Sites, Fixed, Base, Levels, Charge, Class, Pair, Near, End}
use Rattle.table_lines.specs.Lines.{table_line_words}

-- the version, the counts and the levels: version 1 exactly where there is no fixed charge
abbrev pub head_lines : Problem → List TableLine
head_lines p = cond (fixed_count p == 0)
    (FirstVersion ∷ Sites (pos p.sites) ∷ Base (pos p.base) ∷ Levels p.mu_minus p.mu_plus ∷ [])
    (SecondVersion ∷ Sites (pos p.sites) ∷ Fixed (pos (fixed_count p)) ∷ Base (pos p.base)
    ∷ Levels p.mu_minus p.mu_plus ∷ [])

-- a line for each fixed charge
abbrev pub charge_lines : Problem → List TableLine
charge_lines p = map Charge p.fixed_charges

-- a line for each class
abbrev pub class_lines : Problem → List TableLine
class_lines p = map (λ s. Class s.lo s.hi) p.spans

-- the line of a pair of sites
abbrev pub pair_line : Problem → ℕ → ℕ → TableLine
pair_line p i j = Pair (pos i) (pos j) (pos (class_of p i j))

-- the line of a site and a fixed charge
abbrev pub near_line : Problem → ℕ → ℕ → TableLine
near_line p i a = Near (pos i) (pos a) (pos (near_class_of p i a))

-- the lines of site i with each later site
abbrev pub pairs_from : Problem → ℕ → List TableLine
pairs_from p i = map (pair_line p i) (range_with_len (suc i) (p.sites - suc i))

-- the lines of site i with each fixed charge
abbrev pub near_at : Problem → ℕ → List TableLine
near_at p i = map (near_line p i) (range_with_len 0 (fixed_count p))

-- the lines of all pairs of sites, by the first site and then by the second
abbrev pub pair_lines : Problem → List TableLine
pair_lines p = flat_map (pairs_from p) (range_with_len 0 p.sites)

-- the lines of all sites and fixed charges, by the site and then by the fixed charge
abbrev pub near_lines : Problem → List TableLine
near_lines p = flat_map (near_at p) (range_with_len 0 p.sites)

-- all lines: the pairs of sites come before the sites with the fixed charges
abbrev pub problem_lines : Problem → List TableLine
problem_lines p =
    ((((head_lines p ++ charge_lines p) ++ class_lines p) ++ pair_lines p) ++ near_lines p)
    ++ (End ∷ [])

-- their words
abbrev pub table_rows : Problem → List (List (List ℕ))
table_rows p = map table_line_words (problem_lines p)
