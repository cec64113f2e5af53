-- what the own inequalities of a charge list say of its mark, whatever the entries are
use Rattle.std.specs.Prelude.{◌≡◌, ℕ, ◌<◌, pos, ◌≤ℤ◌, ◌<ℤ◌, List}
use Rattle.charge_model.specs.declared.charge.Charge.{Charge}
use Rattle.charge_model.specs.declared.charge.Test.{Test}
use Rattle.charge_model.specs.declared.span.Span.{Span}
use Rattle.charge_model.specs.declared.mark.Deciding.{Deciding}
use Rattle.charge_model.specs.declared.mark.Deciding.TheVariants.{Population, Hop, Rival}
use Rattle.charge_model.specs.declared.mark.Mark.{Mark}
use Rattle.charge_model.specs.declared.mark.Mark.TheVariants.{Certain, Unresolved}
use Rattle.charge_model.specs.Charges.{charge_at, rank_of}
use Rattle.charge_model.specs.Problem.{Problem, UnderEveryTable, UnderSomeTable, IsLeast, IsGreatest}
use Rattle.charge_model.specs.Rules.{IsTestOf, test_slack, hop_slack, IsCertainlyValid}
use Rattle.charge_model.specs.GroundList.{IsDeciding}

-- each test of site i holds under some table
abbrev pub AreTestsPossible : Problem → List Charge → ℕ → Type 0
AreTestsPossible p c i = (k : Test) → IsTestOf (charge_at c i) k
    → UnderSomeTable p (λ t. pos 0 ≤ℤ test_slack p c i k t)

-- each test of site i holds under every table
abbrev pub AreTestsCertain : Problem → List Charge → ℕ → Type 0
AreTestsCertain p c i = (k : Test) → IsTestOf (charge_at c i) k
    → UnderEveryTable p (λ t. pos 0 ≤ℤ test_slack p c i k t)

-- the hop from site j to site i, where it is one, holds under some table
abbrev pub IsHopPossible : Problem → List Charge → ℕ → ℕ → Type 0
IsHopPossible p c i j = rank_of (charge_at c i) < rank_of (charge_at c j)
    → UnderSomeTable p (λ t. pos 0 ≤ℤ hop_slack p c i j t)

-- the hop from site j to site i, where it is one, holds under every table
abbrev pub IsHopCertain : Problem → List Charge → ℕ → ℕ → Type 0
IsHopCertain p c i j = rank_of (charge_at c i) < rank_of (charge_at c j)
    → UnderEveryTable p (λ t. pos 0 ≤ℤ hop_slack p c i j t)

-- each hop to site i holds under some table
abbrev pub AreHopsPossible : Problem → List Charge → ℕ → Type 0
AreHopsPossible p c i = (j : ℕ) → j < p.sites → IsHopPossible p c i j

-- each hop to site i holds under every table
abbrev pub AreHopsCertain : Problem → List Charge → ℕ → Type 0
AreHopsCertain p c i = (j : ℕ) → j < p.sites → IsHopCertain p c i j

-- all tests hold under every table
abbrev pub AreAllTestsCertain : Problem → List Charge → Type 0
AreAllTestsCertain p c = (i : ℕ) → i < p.sites → AreTestsCertain p c i

-- all hops hold under every table
abbrev pub AreAllHopsCertain : Problem → List Charge → Type 0
AreAllHopsCertain p c = (i : ℕ) → i < p.sites → AreHopsCertain p c i

-- a hop that some table breaks, with the span of its slack
pub record BreaksHop (p : Problem) (c : List Charge) (i j : ℕ) (s : Span) : Type 0 where
  pub hop : rank_of (charge_at c i) < rank_of (charge_at c j)
  pub fails : UnderSomeTable p (λ t. hop_slack p c i j t <ℤ pos 0)
  pub least : IsLeast p (hop_slack p c i j) s.lo
  pub greatest : IsGreatest p (hop_slack p c i j) s.hi

-- the first hop to site i that some table breaks
abbrev pub IsFirstHopTo : Problem → List Charge → ℕ → Deciding → Type 0
IsFirstHopTo p c i (Population j k s) = ⊥
IsFirstHopTo p c i (Hop m j s) = (m ≡ i) × (j < p.sites) × BreaksHop p c i j s
    × ((k : ℕ) → k < j → IsHopCertain p c i k)
IsFirstHopTo p c i (Rival j s) = ⊥

-- the deciding comparison of a charge list among whatever entries
abbrev pub IsOwnDeciding : Problem → List Charge → Deciding → Type 0
IsOwnDeciding p c d = (l : List (List Charge)) → IsDeciding p l c d

-- the mark by the list's own inequalities: certainly valid, or what decides that it is not
abbrev pub IsOwnMark : Problem → List Charge → Mark → Type 0
IsOwnMark p c Certain = IsCertainlyValid p c
IsOwnMark p c (Unresolved d) = IsOwnDeciding p c d
