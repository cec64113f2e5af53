-- the verdicts on a hop exclude each other
use Rattle.std.proofs.Common.{◌≡◌, ℕ, List, ℤ, pos, ◌≤ℤ◌, ◌<ℤ◌, refl, arith}
use Rattle.std.specs.Prelude.{◌↔◌}
use Rattle.std.proofs.lemmas.Int.{ints}
use Rattle.charge_model.specs.declared.charge.Charge.{Charge}
use Rattle.charge_model.specs.Problem.{Problem, Table, UnderEveryTable, UnderSomeTable}
use Rattle.charge_model.specs.Rules.{hop_slack}
use Rattle.hop_rule.specs.declared.verdict.HopVerdict.{HopVerdict}
use Rattle.hop_rule.specs.declared.verdict.HopVerdict.TheVariants.{Always, Never, Depends}
use Rattle.hop_rule.specs.Verdict.{HoldsAlways, NeverHolds, IsHopVerdict}

-- no quantity is at least 0 under some table and below 0 under every table, or the other way round
not_never : (p : Problem) (q : Table → ℤ) → UnderSomeTable p (λ t. pos 0 ≤ℤ q t) → UnderEveryTable p (λ t. q t <ℤ pos 0) → ⊥
not_never p q some never = let low = never some.0 some.1 in let high = some.2 in omega (arith, ints, low, high)

not_always : (p : Problem) (q : Table → ℤ) → UnderSomeTable p (λ t. q t <ℤ pos 0) → UnderEveryTable p (λ t. pos 0 ≤ℤ q t) → ⊥
not_always p q some always = let high = always some.0 some.1 in let low = some.2 in omega (arith, ints, low, high)

-- what holds always holds under some table, a problem having one
sometimes : (p : Problem) (q : Table → ℤ) → UnderSomeTable p (λ t. t.scale ≡ 1) → UnderEveryTable p (λ t. pos 0 ≤ℤ q t) → UnderSomeTable p (λ t. pos 0 ≤ℤ q t)
sometimes p q table always = (table.0, table.1, always table.0 table.1)

pub always_exactly : (p : Problem) (cs : List Charge) (i j : ℕ) (v : HopVerdict) → UnderSomeTable p (λ t. t.scale ≡ 1)
    → IsHopVerdict p cs i j v → (v ≡ Always) ↔ HoldsAlways p cs i j
always_exactly p cs i j Always table is = (λ e. is, λ h. refl)
always_exactly p cs i j Never table is = (λ e. absurd (cc), λ h. absurd (not_never p (hop_slack p cs i j) (sometimes p (hop_slack p cs i j) table h) is))
always_exactly p cs i j (Depends s) table is = (λ e. absurd (cc), λ h. absurd (not_always p (hop_slack p cs i j) is.fails h))

pub never_exactly : (p : Problem) (cs : List Charge) (i j : ℕ) (v : HopVerdict) → UnderSomeTable p (λ t. t.scale ≡ 1)
    → IsHopVerdict p cs i j v → (v ≡ Never) ↔ NeverHolds p cs i j
never_exactly p cs i j Always table is = (λ e. absurd (cc), λ h. absurd (not_never p (hop_slack p cs i j) (sometimes p (hop_slack p cs i j) table is) h))
never_exactly p cs i j Never table is = (λ e. is, λ h. refl)
never_exactly p cs i j (Depends s) table is = (λ e. absurd (cc), λ h. absurd (not_never p (hop_slack p cs i j) is.holds h))
