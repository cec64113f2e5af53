-- places and fixed charges make a layout, or have a refusal
use Rattle.std.proofs.Common.{◌≡◌, ◌≢◌, ℕ, ◌<◌, ◌≤◌, ◌⊎◌, inl, inr, List, length}
use Rattle.std.specs.Prelude.{AllPairs}
use Rattle.std.proofs.lemmas.Bool.{cases_lt}
use Rattle.charge_model.specs.declared.TheConstants.{MAX_SITES, MAX_FIXED}
use Rattle.sidb_layout.specs.declared.site.Site.{Site}
use Rattle.sidb_layout.specs.declared.site.Fix.{Fix}
use Rattle.sidb_layout.specs.declared.lattice.Lattice.{Lattice}
use Rattle.sidb_layout.specs.declared.fault.LayoutFault.{LayoutFault}
use Rattle.sidb_layout.specs.declared.fault.LayoutFault.TheVariants.{OutOfRange, TooMany, TooManyFixes, Duplicate, TooClose}
use Rattle.sidb_layout.specs.Site.{places_of}
use Rattle.sidb_layout.specs.Layout.{Arrangement}
use Rattle.sidb_layout.specs.Refusal.{IsFirstOutOfRange, IsFirstPair, IsTooClose, ArePlacesInRange, AreFew, AreDistinct, IsLayoutRefusal, IsMadeOf}
use Rattle.layout_laws.proofs.Decisions.{same, too_close}
use Rattle.layout_laws.proofs.Made.{HaveNoDirection, layout_of_clear}
use Rattle.layout_laws.proofs.Searches.{first_pair_or_none, first_out_or_in_range}
use Rattle.layout_laws.proofs.Unrefused.{not_refused}

-- one of the two
abbrev IsEither : Lattice → List Site → List Fix → Type 0
IsEither v sites fixes =
    ((p : Arrangement) × IsMadeOf v sites fixes p × ((f : LayoutFault) → IsLayoutRefusal v sites fixes f → ⊥))
    ⊎ ((f : LayoutFault) × IsLayoutRefusal v sites fixes f)

clear_or_close : HaveNoDirection → (v : Lattice) (sites : List Site) (fixes : List Fix) → AreFew sites fixes → AreDistinct (places_of sites fixes) → IsEither v sites fixes
clear_or_close turned v sites fixes few distinct = by (first_pair_or_none (IsTooClose v) (too_close v) (places_of sites fixes))
  where
    by : ((i j : ℕ) × IsFirstPair (IsTooClose v) (places_of sites fixes) i j) ⊎ AllPairs (λ a b. ¬ IsTooClose v a b) (places_of sites fixes)
        → IsEither v sites fixes
    by (inl (i, j, f)) = inr (TooClose i j, (few, distinct, f))
    by (inr clear) =
        let made = layout_of_clear turned v sites fixes few distinct clear in
        inl (made.0, made.1, not_refused v sites fixes made.0 made.1)

few_settled : HaveNoDirection → (v : Lattice) (sites : List Site) (fixes : List Fix) → AreFew sites fixes → IsEither v sites fixes
few_settled turned v sites fixes few = by (first_pair_or_none (λ a b. a ≡ b) same (places_of sites fixes))
  where
    by : ((i j : ℕ) × IsFirstPair (λ a b. a ≡ b) (places_of sites fixes) i j) ⊎ AllPairs (λ a b. a ≢ b) (places_of sites fixes)
        → IsEither v sites fixes
    by (inl (i, j, f)) = inr (Duplicate i j, (few, f))
    by (inr distinct) = clear_or_close turned v sites fixes few distinct

pub made_or_refused : HaveNoDirection → (v : Lattice) (sites : List Site) (fixes : List Fix) → IsEither v sites fixes
made_or_refused turned v sites fixes = by (first_out_or_in_range sites fixes) (cases_lt MAX_SITES (length sites)) (cases_lt MAX_FIXED (length fixes))
  where
    by : ((i : ℕ) × IsFirstOutOfRange sites fixes i) ⊎ ArePlacesInRange sites fixes → (MAX_SITES < length sites) ⊎ (length sites ≤ MAX_SITES)
        → (MAX_FIXED < length fixes) ⊎ (length fixes ≤ MAX_FIXED) → IsEither v sites fixes
    by (inl (i, f)) b c = inr (OutOfRange i, f)
    by (inr all) (inl many) c = inr (TooMany, (all, many))
    by (inr all) (inr few) (inl many) = inr (TooManyFixes, (all, few, many))
    by (inr all) (inr few) (inr few_fixes) =
        few_settled turned v sites fixes (record { in_range = all; few_sites = few; few_fixes = few_fixes })
