-- whether a list is a candidate, and whether one list beats another, is decided
use Rattle.std.proofs.Common.{◌≡◌, ◌≢◌, ℕ, List, [], ◌∷◌, length, ℤ, pos, negsuc, ◌-ℤ◌, ◌≤ℤ◌, ◌<ℤ◌, refl, arith, ◌⊎◌, inl, inr}
use Rattle.std.proofs.lemmas.Int.{ints}
use Rattle.std.proofs.lemmas.Bool.{cases_eq}
use Rattle.charge_model.specs.declared.charge.Charge.{Charge}
use Rattle.charge_model.specs.declared.charge.Charge.TheVariants.{Neg, Neutral, Pos}
use Rattle.charge_model.specs.Charges.{IsOfBase}
use Rattle.charge_model.specs.Problem.{Problem, Table, IsProblem, UnderEveryTable}
use Rattle.charge_model.specs.Rules.{energy, slack, IsChargeList, IsValid, IsPossiblyValid, IsCertainlyValid, Beats}
use Rattle.charge_model.specs.GroundList.{IsCandidate}
use Rattle.certain_energy_laws.proofs.Extremes.{greatest_difference}
use Rattle.certain_energy_laws.proofs.Decisions.{Decided, both_decided, each_decided, less_decided, certain_decided, possible_decided}

-- where one holds exactly if the other does
decided_by : (P Q : Type 0) → (P → Q) → (Q → P) → Decided P → Decided Q
decided_by P Q to back (inl p) = inl (to p)
decided_by P Q to back (inr never) = inr (λ q. never (back q))

-- whether each charge is of the base
pub of_base_decided : (base : ℕ) (q : List Charge) → Decided (IsOfBase base q)
of_base_decided base [] = inl tt
of_base_decided base (x ∷ q) = both_decided (base ≡ 2 → x ≢ Pos) (IsOfBase base q) (first x (cases_eq base 2)) (of_base_decided base q)
  where
    first : (x : Charge) → (base ≡ 2) ⊎ (base ≢ 2) → Decided (base ≡ 2 → x ≢ Pos)
    first Neg two = inl (λ _ e. absurd (cc))
    first Neutral two = inl (λ _ e. absurd (cc))
    first Pos (inl two) = inr (λ h. h two refl)
    first Pos (inr three) = inl (λ two. absurd (three two))

-- whether it is a charge list of the problem
list_decided : (p : Problem) (c : List Charge) → Decided (IsChargeList p c)
list_decided p c = decided_by ((length c ≡ p.sites) × IsOfBase p.base c) (IsChargeList p c)
    (λ h. record { whole = h.0; of_base = h.1 }) (λ list. (list.whole, list.of_base))
    (both_decided (length c ≡ p.sites) (IsOfBase p.base c) (cases_eq (length c) p.sites) (of_base_decided p.base c))

-- whether it is a possibly valid one
pub candidate_decided : (p : Problem) (c : List Charge) → IsProblem p → Decided (IsCandidate p c)
candidate_decided p c is = decided_by (IsChargeList p c × IsPossiblyValid p c) (IsCandidate p c)
    (λ h. record { is_list = h.0; possible = h.1 }) (λ candidate. (candidate.is_list, candidate.possible))
    (both_decided (IsChargeList p c) (IsPossiblyValid p c) (list_decided p c) (possible_decided p c is))

-- whether a number is at least 0
from_zero_decided : (z : ℤ) → Decided (pos 0 ≤ℤ z)
from_zero_decided (pos n) = inl (omega (arith, ints))
from_zero_decided (negsuc n) = inr (λ h. absurd (omega (arith, ints, h)))

-- whether it is a charge list that is valid under a table
pub valid_decided : (p : Problem) (t : Table) (c : List Charge) → Decided (IsChargeList p c × IsValid p t c)
valid_decided p t c = both_decided (IsChargeList p c) (IsValid p t c) (list_decided p c)
    (each_decided p c (λ q. pos 0 ≤ℤ slack p c q t) (λ q of_list. from_zero_decided (slack p c q t)))

-- w has less energy than c under every table
abbrev IsLower : Problem → List Charge → List Charge → Type 0
IsLower p w c = UnderEveryTable p (λ t. energy p t w <ℤ energy p t c)

-- whether it has less energy under every table
lower_decided : (p : Problem) (w c : List Charge) → IsProblem p → Decided (IsLower p w c)
lower_decided p w c is = decided_by (UnderEveryTable p (λ t. (energy p t w -ℤ energy p t c) <ℤ pos 0)) (IsLower p w c)
    (λ h t table. let less = h t table in omega (arith, ints, less)) (λ h t table. let less = h t table in omega (arith, ints, less))
    (let greatest = greatest_difference p w c is in less_decided p (λ t. energy p t w -ℤ energy p t c) greatest.0 greatest.1)

-- whether it beats another
pub beats_decided : (p : Problem) (w c : List Charge) → IsProblem p → Decided (Beats p w c)
beats_decided p w c is = decided_by (IsChargeList p w × (IsCertainlyValid p w × IsLower p w c)) (Beats p w c)
    (λ h. record { is_list = h.0; certain = h.1.0; lower = h.1.1 }) (λ beats. (beats.is_list, (beats.certain, beats.lower)))
    (both_decided (IsChargeList p w) (IsCertainlyValid p w × IsLower p w c) (list_decided p w)
    (both_decided (IsCertainlyValid p w) (IsLower p w c) (certain_decided p w is) (lower_decided p w c is)))
