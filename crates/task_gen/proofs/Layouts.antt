-- generated sites make a layout
use Rattle.std.proofs.Common.{◌≡◌, ◌≢◌, sym, subst, ap, ℕ, ◌<◌, ◌≤◌, List, [], length, arith}
use Rattle.std.specs.Prelude.{All, AllPairs, slice_index_or, unsigned_abs}
use Rattle.std.proofs.lemmas.List.{append-nil}
use Rattle.std.proofs.lemmas.List.Elements.{All-nil}
use Rattle.charge_model.specs.declared.TheConstants.{MAX_SITES}
use Rattle.sidb_layout.specs.declared.site.Site.{Site}
use Rattle.sidb_layout.specs.declared.site.Fix.{Fix}
use Rattle.sidb_layout.specs.declared.lattice.Lattice.{Lattice}
use Rattle.sidb_layout.specs.declared.TheConstants.{LEAST_SQUARED_DISTANCE}
use Rattle.sidb_layout.specs.Lattice.{silicon, squared_distance}
use Rattle.sidb_layout.specs.Layout.{Arrangement}
use Rattle.sidb_layout.specs.Refusal.{AreDistinct, AreFew, IsMadeOf, IsTooClose}
use Rattle.sidb_layout.specs.Site.{IsFixInRange, IsInRange, places_of}
use Rattle.task_gen.specs.Generator.{sites_for_number}
use Rattle.task_gen.proofs.Fine.{column_at, count_of, in_range, rising}

-- what places make a layout, and that different places of the default lattice lie apart
pub record ArePlaceLaws : Type 0 where
  pub clear : (v : Lattice) (sites : List Site) (fixes : List Fix) → AreFew sites fixes → AreDistinct (places_of sites fixes)
      → AllPairs (λ a b. ¬ IsTooClose v a b) (places_of sites fixes) → (p : Arrangement) × IsMadeOf v sites fixes p
  pub roomy : (a b : Site) → IsInRange a → IsInRange b → a ≢ b → LEAST_SQUARED_DISTANCE ≤ squared_distance silicon a b

module _ (laws : ArePlaceLaws) (number count : ℕ) (few : count ≤ MAX_SITES) where
  sites_in_range : All IsInRange (sites_for_number number count)
  sites_in_range = in_range count number 0 (omega (arith, few))

  are_few : AreFew (sites_for_number number count) []
  are_few = record {
    in_range = record { all_sites = sites_in_range; all_fixes = All-nil IsFixInRange };
    few_sites = omega (arith, few, count_of count number 0);
    few_fixes = omega arith;
  }

  -- the columns of two sites differ
  differ : (i j : ℕ) (d : Site) → i < j → j < length (sites_for_number number count) → slice_index_or (sites_for_number number count) i d ≢ slice_index_or (sites_for_number number count) j d
  differ i j d before within e =
      let rise : column_at d (sites_for_number number count) i < column_at d (sites_for_number number count) j = rising d count number 0 i j before (omega (arith, within, count_of count number 0)) in
      let same : column_at d (sites_for_number number count) i ≡ column_at d (sites_for_number number count) j = ap (λ (s : Site). unsigned_abs s.n) e in
      omega (arith, rise, same)

  apart : (i j : ℕ) (d : Site) → i < j → j < length (sites_for_number number count) → ¬ IsTooClose silicon (slice_index_or (sites_for_number number count) i d) (slice_index_or (sites_for_number number count) j d)
  apart i j d before within close =
      let far = laws.roomy (slice_index_or (sites_for_number number count) i d) (slice_index_or (sites_for_number number count) j d) (sites_in_range i d (omega (arith, before, within))) (sites_in_range j d within) (differ i j d before within) in
      omega (arith, far, close)

  places_are : sites_for_number number count ≡ places_of (sites_for_number number count) []
  places_are = sym (append-nil (sites_for_number number count))

  pub make_a_layout : (p : Arrangement) × IsMadeOf silicon (sites_for_number number count) [] p
  make_a_layout = laws.clear silicon (sites_for_number number count) [] are_few
      (subst AreDistinct places_are differ)
      (subst (AllPairs (λ a b. ¬ IsTooClose silicon a b)) places_are apart)
