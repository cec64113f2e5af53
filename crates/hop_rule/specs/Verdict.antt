-- what the slack of one hop is over all potential tables
use Rattle.std.specs.Prelude.{ℕ, pos, ◌≤ℤ◌, ◌<ℤ◌, List}
use Rattle.charge_model.specs.declared.charge.Charge.{Charge}
use Rattle.charge_model.specs.declared.span.Span.{Span}
use Rattle.charge_model.specs.Problem.{Problem, UnderEveryTable, UnderSomeTable, IsLeast, IsGreatest}
use Rattle.charge_model.specs.Rules.{hop_slack}
use Rattle.linear_form.specs.Forms.{IsSmallSpan}
use Rattle.hop_rule.specs.declared.verdict.HopVerdict.{HopVerdict}
use Rattle.hop_rule.specs.declared.verdict.HopVerdict.TheVariants.{Always, Never, Depends}

-- under every table the hop does not lower the energy
abbrev pub HoldsAlways : Problem → List Charge → ℕ → ℕ → Type 0
HoldsAlways p cs i j = UnderEveryTable p (λ t. pos 0 ≤ℤ hop_slack p cs i j t)

-- under every table the hop lowers the energy
abbrev pub NeverHolds : Problem → List Charge → ℕ → ℕ → Type 0
NeverHolds p cs i j = UnderEveryTable p (λ t. hop_slack p cs i j t <ℤ pos 0)

-- the hop lowers the energy under one table and not under another,
-- and its slack has this least and greatest value at scale 1
pub record DependsOnTable (p : Problem) (cs : List Charge) (i j : ℕ) (s : Span) : Type 0 where
  pub holds : UnderSomeTable p (λ t. pos 0 ≤ℤ hop_slack p cs i j t)
  pub fails : UnderSomeTable p (λ t. hop_slack p cs i j t <ℤ pos 0)
  pub least : IsLeast p (hop_slack p cs i j) s.lo
  pub greatest : IsGreatest p (hop_slack p cs i j) s.hi

-- what a verdict says
abbrev pub IsHopVerdict : Problem → List Charge → ℕ → ℕ → HopVerdict → Type 0
IsHopVerdict p cs i j Always = HoldsAlways p cs i j
IsHopVerdict p cs i j Never = NeverHolds p cs i j
IsHopVerdict p cs i j (Depends s) = DependsOnTable p cs i j s

-- the span of a verdict has small ends
abbrev pub HasSmallHopSpan : HopVerdict → Type 0
HasSmallHopSpan Always = Unit {0}
HasSmallHopSpan Never = Unit {0}
HasSmallHopSpan (Depends s) = IsSmallSpan s
