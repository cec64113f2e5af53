-- The classes of three neighbours in a row, worked by hand: two pairs 3.84 Å apart, and one 7.68 Å.
use Rattle.std.proofs.Common.{◌≡◌, ◌≢◌, ℕ, zero, suc, ◌+◌, ◌<◌, pos, inl, List, [], ◌∷◌, slice_get, slice_index, Some, refl, arith, lit≤, lit<}
use Rattle.std.specs.Prelude.{All}
use Rattle.std.proofs.lemmas.List.Elements.{All-nil, All-cons}
use Rattle.sidb_layout.specs.declared.site.Site.{Site}
use Rattle.sidb_layout.specs.Lattice.{silicon, squared_distance}
use Rattle.sidb_layout.specs.Layout.{Arrangement, arrangement_of}
use Rattle.sidb_lattice.specs.Classes.{Classing, IsClassing, AreClasses, IsBetween, IsDistance, classing_of, class_between, pair_distance}

abbrev pub column : ℕ → Site
column n = record { n = pos n; m = pos 0; l = pos 0 }

abbrev pub three : Arrangement
three = arrangement_of silicon (column 0 ∷ column 1 ∷ column 2 ∷ []) []

abbrev pub two_distances : Classing
two_distances = classing_of 3 0 (147456 ∷ 589824 ∷ []) (0 ∷ 1 ∷ 0 ∷ []) []

below_two : (k : ℕ) → k < 2 → (rest : List ℕ) → All (λ c. c < 2) rest → All (λ c. c < 2) (k ∷ rest)
below_two k l rest all = All-cons (λ c. c < 2) k rest l all

pub two_distances_are_classes : IsClassing two_distances
two_distances_are_classes = record {
  few_sites = lit≤ tt;
  few_fixes = lit≤ tt;
  class_per_pair = refl;
  class_per_near = refl;
  classes = below_two 0 (lit< tt) (1 ∷ 0 ∷ []) (below_two 1 (lit< tt) (0 ∷ []) (below_two 0 (lit< tt) [] (All-nil (λ c. c < 2))));
  near = All-nil (λ c. c < 2);
  few_classes = lit≤ tt;
  rising = rises;
  in_range = All-cons IsDistance 147456 (589824 ∷ []) (record { least = lit≤ tt; greatest = lit< tt })
      (All-cons IsDistance 589824 [] (record { least = lit≤ tt; greatest = lit< tt }) (All-nil IsDistance));
}
  where
    rises : (k : ℕ) → k + 1 < 2 → slice_index (147456 ∷ 589824 ∷ []) k < slice_index (147456 ∷ 589824 ∷ []) (k + 1)
    rises zero l = lit< tt
    rises (suc k) l = absurd (omega arith)

first_used : IsBetween three 147456
unfolding squared_distance
first_used = inl (0, 1, lit< tt, lit< tt, refl)

second_used : IsBetween three 589824
unfolding squared_distance
second_used = inl (0, 2, lit< tt, lit< tt, refl)

pair_read : (i j : ℕ) → i ≢ j → i < 3 → j < 3 → slice_get two_distances.distances (class_between two_distances i j) ≡ Some (pair_distance three i j)
unfolding class_between squared_distance
pair_read zero zero ne l m = absurd (ne refl)
pair_read zero (suc zero) ne l m = refl
pair_read zero (suc (suc zero)) ne l m = refl
pair_read (suc zero) zero ne l m = refl
pair_read (suc zero) (suc zero) ne l m = absurd (ne refl)
pair_read (suc zero) (suc (suc zero)) ne l m = refl
pair_read (suc (suc zero)) zero ne l m = refl
pair_read (suc (suc zero)) (suc zero) ne l m = refl
pair_read (suc (suc zero)) (suc (suc zero)) ne l m = absurd (ne refl)
pair_read (suc (suc (suc i))) j ne l m = absurd (omega arith)
pair_read zero (suc (suc (suc j))) ne l m = absurd (omega arith)
pair_read (suc zero) (suc (suc (suc j))) ne l m = absurd (omega arith)
pair_read (suc (suc zero)) (suc (suc (suc j))) ne l m = absurd (omega arith)

pub three_neighbours : AreClasses three two_distances
three_neighbours = record {
  whole = two_distances_are_classes;
  sites = refl;
  fixes = refl;
  used = All-cons (IsBetween three) 147456 (589824 ∷ []) first_used
      (All-cons (IsBetween three) 589824 [] second_used (All-nil (IsBetween three)));
  pairs = pair_read;
  nears = λ i a l m. absurd (omega arith);
}
