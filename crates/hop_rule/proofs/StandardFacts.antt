-- two neighbours worked by hand: a hop of the one charge changes no energy, a hop into a charge costs
use Rattle.std.proofs.Common.{◌≡◌, ℕ, ℤ, zero, suc, ◌<◌, pos, negsuc, ◌+ℤ◌, ◌-ℤ◌, ◌≤ℤ◌, ◌*ℤ◌, List, [], ◌∷◌, refl, arith}
use Rattle.std.proofs.lemmas.Int.{ints}
use Rattle.charge_model.specs.declared.charge.Charge.{Charge}
use Rattle.charge_model.specs.declared.charge.Charge.TheVariants.{Neg, Neutral, Pos}
use Rattle.charge_model.specs.declared.span.Span.{Span}
use Rattle.charge_model.specs.Problem.{Problem, Table, IsTable, class_of, near_class_of, lo_in, hi_in}
use Rattle.charge_model.specs.Rules.{energy, hop_slack}
use Rattle.hop_rule.specs.declared.verdict.HopVerdict.TheVariants.{Always, Never, Depends}
use Rattle.hop_rule.specs.Verdict.{IsHopVerdict}

abbrev pub span : Span
span = record { lo = pos 1; hi = pos 3; in_order = omega (arith, ints) }

abbrev pub neighbours : Problem
neighbours = record {
  sites = 2;
  base = 3;
  mu_minus = negsuc 1;
  mu_plus = negsuc 9;
  fixed_charges = [];
  pair_classes = 0 ∷ [];
  near_classes = [];
  spans = span ∷ [];
}

abbrev pub lowest : Table
lowest = record { scale = 1; potential = λ c. pos 1 }

pub lowest_is : IsTable neighbours lowest
lowest_is = record { positive = omega arith; above = above; below = below }
  where
    above : (c : ℕ) → c < 1 → (pos 1 *ℤ lo_in neighbours.spans c) ≤ℤ pos 1
    above zero h = omega (arith, ints)
    above (suc c) h = absurd (omega (arith, h))

    below : (c : ℕ) → c < 1 → pos 1 ≤ℤ (pos 1 *ℤ hi_in neighbours.spans c)
    below zero h = omega (arith, ints)
    below (suc c) h = absurd (omega (arith, h))

pub one_charge : (t : Table) → hop_slack neighbours (Neg ∷ Neutral ∷ []) 0 1 t ≡ pos 0
unfolding energy class_of near_class_of
one_charge t = by (t.potential 0)
  where
    by : (u : ℤ) → ((pos 0 +ℤ pos 0) +ℤ (pos 0 +ℤ u *ℤ pos 0 *ℤ negsuc 0)) +ℤ ((pos 0 +ℤ pos 0) +ℤ pos 0) -ℤ (((pos 0 +ℤ pos 0) +ℤ (pos 0 +ℤ u *ℤ negsuc 0 *ℤ pos 0)) +ℤ ((pos 0 +ℤ pos 0) +ℤ pos 0)) ≡ pos 0
    by u = omega (arith, ints)

pub holds_always : IsHopVerdict neighbours (Neg ∷ Neutral ∷ []) 0 1 Always
holds_always t is = let e = one_charge t in omega (arith, ints, e)
