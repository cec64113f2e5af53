-- what the first place where two charge lists differ says of their order
use Rattle.std.proofs.Common.{◌≡◌, ℕ, ◌<◌, ◌≤◌, List, length, refl, sym, subst, arith}
use Rattle.std.specs.Prelude.{◌↔◌}
use Rattle.std.specs.declared.cmp.Ordering.{Ordering}
use Rattle.std.specs.declared.cmp.Ordering.TheVariants.{Less, Equal, Greater}
use Rattle.std.specs.Ordering.{nat_cmp, MatchOrdering}
use Rattle.std.specs.Cmp.{ranked}
use Rattle.charge_model.specs.declared.charge.Charge.{Charge}
use Rattle.charge_model.specs.Charges.{charge_at, rank_of, IsBefore}
use Rattle.charge_state.proofs.Numerals.{IsBefore-asym, before_at, same_charges}
use Rattle.charge_model.proofs.Order.{IsBefore-irrefl}

-- the answer tells exactly how the lists stand
pub record Tells (a b : List Charge) (r : Ordering) : Type 0 where
  pub less : (r ≡ Less) ↔ IsBefore a b
  pub equal : (r ≡ Equal) ↔ (a ≡ b)
  pub greater : (r ≡ Greater) ↔ IsBefore b a

tells_less : (a b : List Charge) → IsBefore a b → Tells a b Less
tells_less a b h = record {
  less = (λ _. h, λ _. refl);
  equal = (λ e. absurd (cc), λ e. absurd (IsBefore-irrefl b (subst (λ z. IsBefore z b) e h)));
  greater = (λ e. absurd (cc), λ g. absurd (IsBefore-asym a b h g));
}

tells_greater : (a b : List Charge) → IsBefore b a → Tells a b Greater
tells_greater a b h = record {
  less = (λ e. absurd (cc), λ g. absurd (IsBefore-asym a b g h));
  equal = (λ e. absurd (cc), λ e. absurd (IsBefore-irrefl b (subst (λ z. IsBefore b z) e h)));
  greater = (λ _. h, λ _. refl);
}

tells_equal : (a b : List Charge) → a ≡ b → Tells a b Equal
tells_equal a b e = record {
  less = (λ f. absurd (cc), λ g. absurd (IsBefore-irrefl b (subst (λ z. IsBefore z b) e g)));
  equal = (λ _. e, λ _. refl);
  greater = (λ f. absurd (cc), λ g. absurd (IsBefore-irrefl b (subst (λ z. IsBefore b z) e g)));
}

-- the lists agree before place i, and their ranks there compare as r, which is not equal
pub tells_apart : (a b : List Charge) (i x y : ℕ) (r : Ordering) → length a ≡ length b → i < length a
    → ((k : ℕ) → k < i → charge_at a k ≡ charge_at b k)
    → x ≡ rank_of (charge_at a i) → y ≡ rank_of (charge_at b i) → r ≡ nat_cmp x y → (r ≡ Equal → ⊥) → Tells a b r
tells_apart a b i x y r same lt agree left right is apart = by r (ranked x y r is) apart
  where
    by : (s : Ordering) → MatchOrdering s (x < y) (x ≡ y) (y < x) → (s ≡ Equal → ⊥) → Tells a b s
    by Less lower other = tells_less a b (before_at i a b same lt agree (omega (arith, lower, left, right)))
    by Equal level other = absurd (other refl)
    by Greater higher other = tells_greater a b (before_at i b a (sym same) (omega (arith, same, lt)) (λ k below. sym (agree k below)) (omega (arith, higher, left, right)))

-- the lists agree at every place
pub tells_alike : (a b : List Charge) (i : ℕ) → length a ≡ length b → length a ≤ i
    → ((k : ℕ) → k < i → charge_at a k ≡ charge_at b k) → Tells a b Equal
tells_alike a b i same past agree = tells_equal a b (same_charges a b same (λ k lt. agree k (omega (arith, lt, past))))
