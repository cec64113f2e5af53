-- whether a charge list is possibly, or certainly, valid is decided
use Rattle.std.proofs.Common.{◌≡◌, ◌≢◌, ℕ, zero, suc, ◌<◌, ◌≤◌, List, ℤ, pos, negsuc, ◌*ℤ◌, ◌≤ℤ◌, ◌<ℤ◌, refl, sym, subst, arith, Bool, true, false, ◌⊎◌, inl, inr}
use Rattle.std.specs.Prelude.{int_le}
use Rattle.std.proofs.lemmas.Int.{ints}
use Rattle.std.proofs.lemmas.Bool.{cases_lt, cases_eq}
use Rattle.charge_model.specs.declared.charge.Charge.{Charge}
use Rattle.charge_model.specs.declared.charge.Charge.TheVariants.{Neg, Neutral, Pos}
use Rattle.charge_model.specs.declared.charge.Test.{Test}
use Rattle.charge_model.specs.declared.charge.Test.TheVariants.{AboveMinus, AbovePlus, BelowMinus, BelowPlus}
use Rattle.charge_model.specs.Charges.{charge_at, rank_of}
use Rattle.charge_model.specs.Problem.{Problem, Table, IsProblem, UnderEveryTable, UnderSomeTable, IsLeast, IsGreatest}
use Rattle.charge_model.specs.Rules.{slack, Inequality, at_site, by_hop, IsInequalityOf, IsTestOf, IsPossiblyValid, IsCertainlyValid}
use Rattle.charge_model.proofs.Sums.{mul-le}
use Rattle.certain_energy_laws.proofs.Extremes.{least_slack, greatest_slack}

-- it holds, or it does not
abbrev pub Decided : Type 0 → Type 0
Decided P = P ⊎ (P → ⊥)

-- what holds of each number below n
all_decided : (n : ℕ) (P : ℕ → Type 0) → ((k : ℕ) → k < n → Decided (P k)) → Decided ((k : ℕ) → k < n → P k)
all_decided zero P each = inl (λ k l. absurd (omega arith))
all_decided (suc n) P each = by (all_decided n P (λ k l. each k (omega arith))) (each n (omega arith))
  where
    by : Decided ((k : ℕ) → k < n → P k) → Decided (P n) → Decided ((k : ℕ) → k < suc n → P k)
    by (inl rest) (inl here) = inl (λ k l. at k l (cases_eq k n))
      where
        at : (k : ℕ) → k < suc n → (k ≡ n) ⊎ (k ≢ n) → P k
        at k l (inl e) = subst P (sym e) here
        at k l (inr ne) = rest k (omega arith)
    by (inr never) here = inr (λ h. never (λ k l. h k (omega arith)))
    by (inl rest) (inr never) = inr (λ h. never (h n (omega arith)))

-- two facts, each decided
pub both_decided : (P Q : Type 0) → Decided P → Decided Q → Decided (P × Q)
both_decided P Q (inl a) (inl b) = inl (a, b)
both_decided P Q (inr never) b = inr (λ h. never h.0)
both_decided P Q (inl a) (inr never) = inr (λ h. never h.1)

-- a quantity is at least 0 under every table where its least value is
pub kept_decided : (p : Problem) (f : Table → ℤ) (least : ℤ) → IsLeast p f least → Decided (UnderEveryTable p (λ t. pos 0 ≤ℤ f t))
kept_decided p f least is = by (int_le (pos 0) least) refl
  where
    by : (r : Bool) → int_le (pos 0) least ≡ r → Decided (UnderEveryTable p (λ t. pos 0 ≤ℤ f t))
    by true e = inl (λ t table. let bound = is.bounds t table in let scaled = mul-le (pos 0) least t.scale (omega (arith, ints)) in omega (arith, ints, bound, scaled))
    by false e = inr (λ h. let at = is.reached in let kept = h at.0 at.1 in let same = at.2.1 in omega (arith, ints, kept, same))

-- a number below 0 stays below it, times a scale
below_zero : (greatest : ℤ) (s : ℕ) → 1 ≤ s → greatest <ℤ pos 0 → (pos s *ℤ greatest) <ℤ pos 0
below_zero greatest s positive less =
    let scaled = mul-le greatest (negsuc 0) s (omega (arith, ints, less)) in omega (arith, ints, scaled, positive)

-- it is so under some table where its greatest value is
pub reached_decided : (p : Problem) (f : Table → ℤ) (greatest : ℤ) → IsGreatest p f greatest → Decided (UnderSomeTable p (λ t. pos 0 ≤ℤ f t))
reached_decided p f greatest is = by (int_le (pos 0) greatest) refl
  where
    by : (r : Bool) → int_le (pos 0) greatest ≡ r → Decided (UnderSomeTable p (λ t. pos 0 ≤ℤ f t))
    by true e = let at = is.reached in let same = at.2.1 in inl (at.0, at.1, omega (arith, ints, same, e))
    by false e = inr (λ (t, table, kept). let bound = is.bounds t table in
        let less = below_zero greatest t.scale table.positive (omega (arith, ints, e)) in omega (arith, ints, bound, less, kept))

-- it is below 0 under every table where its greatest value is
pub less_decided : (p : Problem) (f : Table → ℤ) (greatest : ℤ) → IsGreatest p f greatest → Decided (UnderEveryTable p (λ t. f t <ℤ pos 0))
less_decided p f greatest is = by (int_le (pos 0) greatest) refl
  where
    by : (r : Bool) → int_le (pos 0) greatest ≡ r → Decided (UnderEveryTable p (λ t. f t <ℤ pos 0))
    by true e = inr (λ h. let at = is.reached in let less = h at.0 at.1 in let same = at.2.1 in omega (arith, ints, less, same, e))
    by false e = inl (λ t table. let bound = is.bounds t table in
        let less = below_zero greatest t.scale table.positive (omega (arith, ints, e)) in omega (arith, ints, bound, less))

-- the tests of a charge
tests_decided : (a : Charge) (Q : Test → Type 0) → ((k : Test) → IsTestOf a k → Decided (Q k)) → Decided ((k : Test) → IsTestOf a k → Q k)
tests_decided Neg Q each = by (each AboveMinus refl)
  where
    by : Decided (Q AboveMinus) → Decided ((k : Test) → k ≡ AboveMinus → Q k)
    by (inl a) = inl (λ k e. subst Q (sym e) a)
    by (inr never) = inr (λ h. never (h AboveMinus refl))
tests_decided Neutral Q each = by (each AbovePlus (inl refl)) (each BelowMinus (inr refl))
  where
    by : Decided (Q AbovePlus) → Decided (Q BelowMinus) → Decided ((k : Test) → (k ≡ AbovePlus) ⊎ (k ≡ BelowMinus) → Q k)
    by (inl a) (inl b) = inl at
      where
        at : (k : Test) → (k ≡ AbovePlus) ⊎ (k ≡ BelowMinus) → Q k
        at k (inl e) = subst Q (sym e) a
        at k (inr e) = subst Q (sym e) b
    by (inr never) b = inr (λ h. never (h AbovePlus (inl refl)))
    by (inl a) (inr never) = inr (λ h. never (h BelowMinus (inr refl)))
tests_decided Pos Q each = by (each BelowPlus refl)
  where
    by : Decided (Q BelowPlus) → Decided ((k : Test) → k ≡ BelowPlus → Q k)
    by (inl a) = inl (λ k e. subst Q (sym e) a)
    by (inr never) = inr (λ h. never (h BelowPlus refl))

-- what is decided of a pair that is a hop
hop_decided : (c : List Charge) (i j : ℕ) (Q : Type 0) → (rank_of (charge_at c i) < rank_of (charge_at c j) → Decided Q)
    → Decided (rank_of (charge_at c i) < rank_of (charge_at c j) → Q)
hop_decided c i j Q each = by (cases_lt (rank_of (charge_at c i)) (rank_of (charge_at c j)))
  where
    by : (rank_of (charge_at c i) < rank_of (charge_at c j)) ⊎ (rank_of (charge_at c j) ≤ rank_of (charge_at c i)) → Decided (rank_of (charge_at c i) < rank_of (charge_at c j) → Q)
    by (inl higher) = at (each higher)
      where
        at : Decided Q → Decided (rank_of (charge_at c i) < rank_of (charge_at c j) → Q)
        at (inl kept) = inl (λ _. kept)
        at (inr never) = inr (λ h. never (h higher))
    by (inr not) = inl (λ higher. absurd (omega (arith, higher, not)))

-- what is decided of each inequality of a charge list is decided of all
module _ (p : Problem) (c : List Charge) (Q : Inequality → Type 0) (each : (q : Inequality) → IsInequalityOf p c q → Decided (Q q)) where
  -- all tests of all sites, and all hops
  abbrev AreTestsKept : Type 0
  AreTestsKept = (i : ℕ) → i < p.sites → (k : Test) → IsTestOf (charge_at c i) k → Q (at_site i k)

  abbrev AreHopsKept : Type 0
  AreHopsKept = (i : ℕ) → i < p.sites → (j : ℕ) → j < p.sites → rank_of (charge_at c i) < rank_of (charge_at c j) → Q (by_hop i j)

  -- all inequalities, once each is decided
  pub each_decided : Decided ((q : Inequality) → IsInequalityOf p c q → Q q)
  each_decided = by (both_decided AreTestsKept AreHopsKept
      (all_decided p.sites (λ i. (k : Test) → IsTestOf (charge_at c i) k → Q (at_site i k))
      (λ i l. tests_decided (charge_at c i) (λ k. Q (at_site i k)) (λ k of_charge. each (at_site i k) (l, of_charge))))
      (all_decided p.sites (λ i. (j : ℕ) → j < p.sites → rank_of (charge_at c i) < rank_of (charge_at c j) → Q (by_hop i j))
      (λ i l. all_decided p.sites (λ j. rank_of (charge_at c i) < rank_of (charge_at c j) → Q (by_hop i j))
      (λ j m. hop_decided c i j (Q (by_hop i j)) (λ higher. each (by_hop i j) (l, m, higher))))))
    where
      by : Decided (AreTestsKept × AreHopsKept) → Decided ((q : Inequality) → IsInequalityOf p c q → Q q)
      by (inl kept) = inl at
        where
          at : (q : Inequality) → IsInequalityOf p c q → Q q
          at (at_site i k) of_list = kept.0 i of_list.0 k of_list.1
          at (by_hop i j) of_list = kept.1 i of_list.0 j of_list.1 of_list.2
      by (inr never) = inr (λ h. never (λ i l k of_charge. h (at_site i k) (l, of_charge), λ i l j m higher. h (by_hop i j) (l, m, higher)))

-- each inequality holds under every table, or one does not
pub certain_decided : (p : Problem) (c : List Charge) → IsProblem p → Decided (IsCertainlyValid p c)
certain_decided p c is = each_decided p c (λ q. UnderEveryTable p (λ t. pos 0 ≤ℤ slack p c q t))
    (λ q of_list. let least = least_slack p c q is of_list in kept_decided p (slack p c q) least.0 least.1)

-- each inequality holds under some table, or one does not
pub possible_decided : (p : Problem) (c : List Charge) → IsProblem p → Decided (IsPossiblyValid p c)
possible_decided p c is = each_decided p c (λ q. UnderSomeTable p (λ t. pos 0 ≤ℤ slack p c q t))
    (λ q of_list. let greatest = greatest_slack p c q is of_list in reached_decided p (slack p c q) greatest.0 greatest.1)
