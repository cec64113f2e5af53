-- the verdicts exclude each other, and the tests of a neutral site
use Rattle.std.proofs.Common.{◌≡◌, ℕ, List, pos, ◌≤ℤ◌, ◌<ℤ◌, ◌⊎◌, inl, inr, refl, sym, subst, arith}
use Rattle.std.specs.Prelude.{◌↔◌}
use Rattle.std.proofs.lemmas.Int.{ints}
use Rattle.charge_model.specs.declared.charge.Charge.{Charge}
use Rattle.charge_model.specs.declared.charge.Charge.TheVariants.{Neutral}
use Rattle.charge_model.specs.declared.charge.Test.{Test}
use Rattle.charge_model.specs.declared.charge.Test.TheVariants.{AbovePlus, BelowMinus}
use Rattle.charge_model.specs.Charges.{charge_at}
use Rattle.charge_model.specs.declared.span.Span.{Span}
use Rattle.charge_model.specs.GroundList.{own, IsEarlier}
use Rattle.charge_model.specs.Problem.{Problem, UnderEveryTable, UnderSomeTable, IsLeast, IsGreatest}
use Rattle.charge_model.specs.Rules.{IsTestOf, test_slack, at_site}
use Rattle.population_rule.specs.declared.verdict.PopulationVerdict.{PopulationVerdict}
use Rattle.population_rule.specs.declared.verdict.PopulationVerdict.TheVariants.{Always, Never, Depends}
use Rattle.population_rule.specs.Verdict.{HoldAlways, HoldSometimes, OneNeverHolds, TestsDependOnTable, IsPopulationVerdict}

-- where each test holds under some table, none of them never holds
not_never : (p : Problem) (cs : List Charge) (i : ℕ) → HoldSometimes p cs i → OneNeverHolds p cs i → ⊥
not_never p cs i some (k, of_charge, never) =
    let at = some k of_charge in
    let low = never at.0 at.1 in
    let high = at.2 in omega (arith, ints, low, high)

-- what always holds holds under some table, a problem having one
sometimes : (p : Problem) (cs : List Charge) (i : ℕ) → UnderSomeTable p (λ t. t.scale ≡ 1) → HoldAlways p cs i → HoldSometimes p cs i
sometimes p cs i table always k of_charge = (table.0, table.1, always k of_charge table.0 table.1)

not_always : (p : Problem) (cs : List Charge) (i : ℕ) (k : Test) → IsTestOf (charge_at cs i) k
    → UnderSomeTable p (λ t. test_slack p cs i k t <ℤ pos 0) → HoldAlways p cs i → ⊥
not_always p cs i k of_charge fails always =
    let low = fails.2 in
    let high = always k of_charge fails.0 fails.1 in omega (arith, ints, low, high)

pub always_exactly : (p : Problem) (cs : List Charge) (i : ℕ) (v : PopulationVerdict) → UnderSomeTable p (λ t. t.scale ≡ 1)
    → IsPopulationVerdict p cs i v → (v ≡ Always) ↔ HoldAlways p cs i
always_exactly p cs i Always table is = (λ e. is, λ h. refl)
always_exactly p cs i Never table is = (λ e. absurd (cc), λ h. absurd (not_never p cs i (sometimes p cs i table h) is))
always_exactly p cs i (Depends k s) table is = (λ e. absurd (cc), λ h. absurd (not_always p cs i k is.first.of_charge is.first.fails h))

pub never_exactly : (p : Problem) (cs : List Charge) (i : ℕ) (v : PopulationVerdict) → UnderSomeTable p (λ t. t.scale ≡ 1)
    → IsPopulationVerdict p cs i v → (v ≡ Never) ↔ OneNeverHolds p cs i
never_exactly p cs i Always table is = (λ e. absurd (cc), λ h. absurd (not_never p cs i (sometimes p cs i table is) h))
never_exactly p cs i Never table is = (λ e. is, λ h. refl)
never_exactly p cs i (Depends k s) table is = (λ e. absurd (cc), λ h. absurd (not_never p cs i is.possible h))

-- what holds of both tests of a neutral site holds of each of its tests
pub at_neutral : (P : Test → Type 0) (c : Charge) → c ≡ Neutral → P AbovePlus → P BelowMinus → (k : Test) → IsTestOf c k → P k
at_neutral P c e a b k is = by (subst (λ z. IsTestOf z k) e is)
  where
    by : (k ≡ AbovePlus) ⊎ (k ≡ BelowMinus) → P k
    by (inl f) = subst P (sym f) a
    by (inr f) = subst P (sym f) b

pub above_of : (c : Charge) → c ≡ Neutral → IsTestOf c AbovePlus
above_of c e = subst (λ z. IsTestOf z AbovePlus) (sym e) (inl refl)

pub below_of : (c : Charge) → c ≡ Neutral → IsTestOf c BelowMinus
below_of c e = subst (λ z. IsTestOf z BelowMinus) (sym e) (inr refl)

-- a neutral site whose first test fails under some table
pub above_fails : (p : Problem) (cs : List Charge) (i : ℕ) (s : Span) → charge_at cs i ≡ Neutral
    → UnderSomeTable p (λ t. pos 0 ≤ℤ test_slack p cs i AbovePlus t) → UnderSomeTable p (λ t. pos 0 ≤ℤ test_slack p cs i BelowMinus t)
    → UnderSomeTable p (λ t. test_slack p cs i AbovePlus t <ℤ pos 0)
    → IsLeast p (test_slack p cs i AbovePlus) s.lo → IsGreatest p (test_slack p cs i AbovePlus) s.hi → TestsDependOnTable p cs i AbovePlus s
above_fails p cs i s e above below fails least greatest = record {
  possible = at_neutral (λ k. UnderSomeTable p (λ t. pos 0 ≤ℤ test_slack p cs i k t)) _ e above below;
  first = record { of_charge = above_of _ e; fails = fails; earlier = none; least = least; greatest = greatest };
}
  where
    none : (k : Test) → IsTestOf (charge_at cs i) k → IsEarlier (own (at_site i k)) (own (at_site i AbovePlus)) → UnderEveryTable p (λ t. pos 0 ≤ℤ test_slack p cs i k t)
    none k of_charge (inl h) = absurd (omega (arith, h))
    none k of_charge (inr h) = let wrong = h.2 in absurd (cc)

-- a neutral site whose second test alone fails under some table
pub below_fails : (p : Problem) (cs : List Charge) (i : ℕ) (s : Span) → charge_at cs i ≡ Neutral
    → UnderEveryTable p (λ t. pos 0 ≤ℤ test_slack p cs i AbovePlus t)
    → UnderSomeTable p (λ t. pos 0 ≤ℤ test_slack p cs i AbovePlus t) → UnderSomeTable p (λ t. pos 0 ≤ℤ test_slack p cs i BelowMinus t)
    → UnderSomeTable p (λ t. test_slack p cs i BelowMinus t <ℤ pos 0)
    → IsLeast p (test_slack p cs i BelowMinus) s.lo → IsGreatest p (test_slack p cs i BelowMinus) s.hi → TestsDependOnTable p cs i BelowMinus s
below_fails p cs i s e always above below fails least greatest = record {
  possible = at_neutral (λ k. UnderSomeTable p (λ t. pos 0 ≤ℤ test_slack p cs i k t)) _ e above below;
  first = record { of_charge = below_of _ e; fails = fails; earlier = before; least = least; greatest = greatest };
}
  where
    before : (k : Test) → IsTestOf (charge_at cs i) k → IsEarlier (own (at_site i k)) (own (at_site i BelowMinus)) → UnderEveryTable p (λ t. pos 0 ≤ℤ test_slack p cs i k t)
    before k of_charge (inl h) = absurd (omega (arith, h))
    before k of_charge (inr h) = subst (λ z. UnderEveryTable p (λ t. pos 0 ≤ℤ test_slack p cs i z t)) (sym h.1) always
