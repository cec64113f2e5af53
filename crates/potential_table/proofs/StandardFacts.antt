-- The lines of problems, worked by hand: three sites, two sites and one fixed charge, and none.
use Rattle.std.proofs.Common.{◌≡◌, ℕ, ℤ, pos, negsuc, List, [], ◌∷◌, refl, arith}
use Rattle.std.proofs.lemmas.Int.{ints}
use Rattle.charge_model.specs.declared.span.Span.{Span}
use Rattle.charge_model.specs.Problem.{Problem, class_of, near_class_of}
use Rattle.table_lines.specs.declared.line.TableLine.TheVariants.{FirstVersion, SecondVersion, Sites, Fixed, Base, Levels, Charge, Class, Pair, Near, End}
use Rattle.potential_table.specs.TableRows.{problem_lines}

abbrev small_span : Span
small_span = record { lo = pos 1; hi = pos 3; in_order = omega (arith, ints) }

abbrev large_span : Span
large_span = record { lo = pos 4; hi = pos 4; in_order = omega (arith, ints) }

abbrev problem : ℕ → ℕ → List ℤ → List ℕ → List ℕ → List Span → Problem
problem sites base charges pairs near spans = record { sites = sites; base = base; mu_minus = negsuc 1; mu_plus = negsuc 4; fixed_charges = charges; pair_classes = pairs; near_classes = near; spans = spans }

-- version 1, with the pairs by the first site
three_sites : problem_lines (problem 3 3 [] (0 ∷ 1 ∷ 0 ∷ []) [] (small_span ∷ large_span ∷ []))
    ≡ FirstVersion ∷ Sites (pos 3) ∷ Base (pos 3) ∷ Levels (negsuc 1) (negsuc 4)
    ∷ Class (pos 1) (pos 3) ∷ Class (pos 4) (pos 4)
    ∷ Pair (pos 0) (pos 1) (pos 0) ∷ Pair (pos 0) (pos 2) (pos 1) ∷ Pair (pos 1) (pos 2) (pos 0) ∷ End ∷ []
unfolding class_of
three_sites = refl

-- version 2, with the sites and fixed charges behind the pairs
one_fixed : problem_lines (problem 2 2 (negsuc 0 ∷ []) (1 ∷ []) (0 ∷ 1 ∷ []) (small_span ∷ large_span ∷ []))
    ≡ SecondVersion ∷ Sites (pos 2) ∷ Fixed (pos 1) ∷ Base (pos 2) ∷ Levels (negsuc 1) (negsuc 4) ∷ Charge (negsuc 0)
    ∷ Class (pos 1) (pos 3) ∷ Class (pos 4) (pos 4)
    ∷ Pair (pos 0) (pos 1) (pos 1) ∷ Near (pos 0) (pos 0) (pos 0) ∷ Near (pos 1) (pos 0) (pos 1) ∷ End ∷ []
unfolding class_of near_class_of
one_fixed = refl

-- no site
no_sites : problem_lines (problem 0 2 [] [] [] []) ≡ FirstVersion ∷ Sites (pos 0) ∷ Base (pos 2) ∷ Levels (negsuc 1) (negsuc 4) ∷ End ∷ []
no_sites = refl
