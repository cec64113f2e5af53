-- one more squared distance of a pair, or of a site with a fixed charge
use Rattle.std.proofs.Common.{◌≡◌, ℕ, suc, ◌+◌, ◌-◌, ◌*◌, ◌<◌, ◌≤◌, ◌⊎◌, inl, inr, List, [], ◌∷◌, ◌++◌, length, length-append, slice_index, arith, ◌∙◌}
use Rattle.std.proofs.lemmas.Bool.{cases_lt}
use Rattle.std.proofs.lemmas.List.{get_or_append_left, get_or_push}
use Rattle.std.proofs.lemmas.List.Elements.{All-push}
use Rattle.std.proofs.Math.Nat.{mul-le-mul_right}
use Rattle.charge_model.specs.Problem.{pairs_before}
use Rattle.sidb_layout.specs.Layout.{Arrangement}
use Rattle.sidb_lattice.specs.Classes.{IsBetween, IsDistance, pair_distance, near_distance}
use Rattle.sidb_lattice.specs.Measured.{ArePairsUpto, AreNearUpto}
use Rattle.charge_model.proofs.Pairs.{pairs_before-le}

pub pairs_more : (p : Arrangement) (i j : ℕ) (ds : List ℕ) (d : ℕ) → i < j → j < length p.sites → ArePairsUpto p i j ds
    → d ≡ pair_distance p i j → IsDistance d → ArePairsUpto p i (j + 1) (ds ++ d ∷ [])
pairs_more p i j ds d order within h is in_range = record {
  whole = omega (arith, length-append ds (d ∷ []), h.whole);
  rows = rows;
  row = λ b l m. row b l m (cases_lt b j);
  used = All-push (IsBetween p) ds d h.used (inl (i, j, order, within, is));
  in_range = All-push IsDistance ds d h.in_range in_range;
}
  where
    rows : (a b : ℕ) → a < i → a < b → b < length p.sites → slice_index (ds ++ d ∷ []) (pairs_before (length p.sites) a + (b - suc a)) ≡ pair_distance p a b
    rows a b l m w =
        let later = pairs_before-le (length p.sites) (suc a) i l in
        let at : pairs_before (length p.sites) a + (b - suc a) < length ds = omega (arith, later, h.whole) in
        get_or_append_left ds (d ∷ []) 0 _ at ∙ h.rows a b l m w

    row : (b : ℕ) → i < b → b < j + 1 → (b < j) ⊎ (j ≤ b) → slice_index (ds ++ d ∷ []) (pairs_before (length p.sites) i + (b - suc i)) ≡ pair_distance p i b
    row b l m (inl below) =
        let at : pairs_before (length p.sites) i + (b - suc i) < length ds = omega (arith, h.whole) in
        get_or_append_left ds (d ∷ []) 0 _ at ∙ h.row b l below
    row b l m (inr above) =
        let same : b ≡ j = omega arith in
        let at : length ds ≡ pairs_before (length p.sites) i + (b - suc i) = omega (arith, h.whole) in
        get_or_push ds d 0 _ at ∙ rw same is

pub near_more : (p : Arrangement) (i a : ℕ) (ds : List ℕ) (d : ℕ) → i < length p.sites → a < length p.fixes → AreNearUpto p i a ds
    → d ≡ near_distance p i a → IsDistance d → AreNearUpto p i (a + 1) (ds ++ d ∷ [])
near_more p i a ds d i_within a_within h is in_range = record {
  whole = omega (arith, length-append ds (d ∷ []), h.whole);
  rows = rows;
  row = λ b m. row b m (cases_lt b a);
  used = All-push (IsBetween p) ds d h.used (inr (i, a, i_within, a_within, is));
  in_range = All-push IsDistance ds d h.in_range in_range;
}
  where
    rows : (k b : ℕ) → k < i → b < length p.fixes → slice_index (ds ++ d ∷ []) (k * length p.fixes + b) ≡ near_distance p k b
    rows k b l w =
        let later = mul-le-mul_right (length p.fixes) l in
        let at : k * length p.fixes + b < length ds = omega (arith, later, h.whole) in
        get_or_append_left ds (d ∷ []) 0 _ at ∙ h.rows k b l w

    row : (b : ℕ) → b < a + 1 → (b < a) ⊎ (a ≤ b) → slice_index (ds ++ d ∷ []) (i * length p.fixes + b) ≡ near_distance p i b
    row b m (inl below) =
        let at : i * length p.fixes + b < length ds = omega (arith, h.whole) in
        get_or_append_left ds (d ∷ []) 0 _ at ∙ h.row b below
    row b m (inr above) =
        let same : b ≡ a = omega arith in
        let at : length ds ≡ i * length p.fixes + b = omega (arith, h.whole) in
        get_or_push ds d 0 _ at ∙ rw same is
