-- what the tests of one site are over all potential tables
use Rattle.std.specs.Prelude.{ℕ, pos, ◌≤ℤ◌, ◌<ℤ◌, List}
use Rattle.charge_model.specs.declared.charge.Charge.{Charge}
use Rattle.charge_model.specs.declared.charge.Test.{Test}
use Rattle.charge_model.specs.declared.span.Span.{Span}
use Rattle.charge_model.specs.Charges.{charge_at}
use Rattle.charge_model.specs.GroundList.{own, IsEarlier}
use Rattle.charge_model.specs.Problem.{Problem, UnderEveryTable, UnderSomeTable, IsLeast, IsGreatest}
use Rattle.charge_model.specs.Rules.{IsTestOf, test_slack, at_site}
use Rattle.linear_form.specs.Forms.{IsSmallSpan}
use Rattle.population_rule.specs.declared.verdict.PopulationVerdict.{PopulationVerdict}
use Rattle.population_rule.specs.declared.verdict.PopulationVerdict.TheVariants.{Always, Never, Depends}

-- each test of the charge of site i holds under every table
abbrev pub HoldAlways : Problem → List Charge → ℕ → Type 0
HoldAlways p cs i = (k : Test) → IsTestOf (charge_at cs i) k
    → UnderEveryTable p (λ t. pos 0 ≤ℤ test_slack p cs i k t)

-- each of them holds under some table
abbrev pub HoldSometimes : Problem → List Charge → ℕ → Type 0
HoldSometimes p cs i = (k : Test) → IsTestOf (charge_at cs i) k
    → UnderSomeTable p (λ t. pos 0 ≤ℤ test_slack p cs i k t)

-- one of them holds under no table
abbrev pub OneNeverHolds : Problem → List Charge → ℕ → Type 0
OneNeverHolds p cs i = (k : Test) × IsTestOf (charge_at cs i) k
    × UnderEveryTable p (λ t. test_slack p cs i k t <ℤ pos 0)

-- the first test of the charge of site i that fails under some table,
-- with its least and greatest slack at scale 1
pub record IsFirstFailing (p : Problem) (cs : List Charge) (i : ℕ) (k : Test) (s : Span)
    : Type 0 where
  pub of_charge : IsTestOf (charge_at cs i) k
  pub fails : UnderSomeTable p (λ t. test_slack p cs i k t <ℤ pos 0)
  pub earlier : (e : Test) → IsTestOf (charge_at cs i) e
      → IsEarlier (own (at_site i e)) (own (at_site i k))
      → UnderEveryTable p (λ t. pos 0 ≤ℤ test_slack p cs i e t)
  pub least : IsLeast p (test_slack p cs i k) s.lo
  pub greatest : IsGreatest p (test_slack p cs i k) s.hi

-- each test holds under some table, and one fails under another
pub record TestsDependOnTable (p : Problem) (cs : List Charge) (i : ℕ) (k : Test) (s : Span)
    : Type 0 where
  pub possible : HoldSometimes p cs i
  pub first : IsFirstFailing p cs i k s

-- what a verdict says
abbrev pub IsPopulationVerdict : Problem → List Charge → ℕ → PopulationVerdict → Type 0
IsPopulationVerdict p cs i Always = HoldAlways p cs i
IsPopulationVerdict p cs i Never = OneNeverHolds p cs i
IsPopulationVerdict p cs i (Depends k s) = TestsDependOnTable p cs i k s

-- the span of a verdict has small ends
abbrev pub HasSmallTestSpan : PopulationVerdict → Type 0
HasSmallTestSpan Always = Unit {0}
HasSmallTestSpan Never = Unit {0}
HasSmallTestSpan (Depends k s) = IsSmallSpan s
