-- there is one answer
use Rattle.std.proofs.Common.{◌≡◌, ℕ, ◌<◌, ◌≤◌, ℤ, List, length, Option, ◌⊎◌, inl, inr, ap, arith}
use Rattle.std.proofs.lemmas.Bool.{cases_lt}
use Rattle.std.proofs.lemmas.List.{length-map}
use Rattle.charge_model.specs.declared.charge.Charge.{Charge}
use Rattle.charge_model.specs.Problem.{Problem}
use Rattle.charge_model.specs.GroundList.{Entry, IsGroundList, lists_of}
use Rattle.charge_model.specs.Tree.{IsLeastCertain}
use Rattle.ground_entries.specs.declared.ground_list.Solved.{Solved}
use Rattle.sidb_units.specs.declared.TheConstants.{MAX_ENTRIES}
use Rattle.window_model.specs.Windows.{IsWindowList}
use Rattle.ground_state.specs.Answer.{IsListedWithin, IsTooLongWithin, IsSolution}
use Rattle.ground_state.specs.Window.{IsWindowListedWithin, IsWindowTooLongWithin}

pub not_both_lengths : ((p : Problem) (l m : List (List Charge)) → IsGroundList p l → IsGroundList p m → l ≡ m)
    → (p : Problem) (limit : ℕ) (es : List Entry) → IsListedWithin p limit es → IsTooLongWithin p limit → ⊥
not_both_lengths one p limit es listed long =
    let many = long.many in
    let same = ap length (one p (lists_of es) many.0 listed.list.ground many.1) in
    let whole = length-map es (λ e. e.charges) in
    omega (arith, same, whole, listed.few, many.2)

-- the same for the window list
pub not_both_window_lengths : ((p : Problem) (window : ℤ) (l m : List (List Charge)) → IsWindowList p window l → IsWindowList p window m → l ≡ m)
    → (p : Problem) (window : ℤ) (limit : ℕ) (es : List Entry) → IsWindowListedWithin p window limit es → IsWindowTooLongWithin p window limit → ⊥
not_both_window_lengths one p window limit es listed long =
    let many = long.many in
    let same = ap length (one p window (lists_of es) many.0 listed.list.within many.1) in
    let whole = length-map es (λ e. e.charges) in
    omega (arith, same, whole, listed.few, many.2)

-- the count by a least certain energy keeps the limit or exceeds it, and not both
pub not_both_budgets : ((p : Problem) (a b : Option ℤ) → IsLeastCertain p a → IsLeastCertain p b → a ≡ b) → (p : Problem) (limit : ℕ) (count : Option ℤ → ℕ)
    → (bound : Option ℤ) × IsLeastCertain p bound × (count bound ≤ limit) → (bound : Option ℤ) × IsLeastCertain p bound × (limit < count bound) → ⊥
not_both_budgets one p limit count within over =
    let same = ap count (one p within.0 over.0 within.1 over.1) in
    omega (arith, same, within.2, over.2)

pub budget_decided : (p : Problem) (limit : ℕ) (count : Option ℤ → ℕ) → (bound : Option ℤ) × IsLeastCertain p bound
    → ((bound : Option ℤ) × IsLeastCertain p bound × (count bound ≤ limit)) ⊎ ((bound : Option ℤ) × IsLeastCertain p bound × (limit < count bound))
budget_decided p limit count (bound, least) = by (cases_lt limit (count bound))
  where
    by : (limit < count bound) ⊎ (count bound ≤ limit)
        → ((bound : Option ℤ) × IsLeastCertain p bound × (count bound ≤ limit)) ⊎ ((bound : Option ℤ) × IsLeastCertain p bound × (limit < count bound))
    by (inl many) = inr (bound, least, many)
    by (inr few) = inl (bound, least, few)

pub solution_is_listed : (p : Problem) (limit : ℕ) (s : Solved) → IsSolution p limit s → length s.list ≤ MAX_ENTRIES → IsListedWithin p limit s.list
solution_is_listed p limit s is few = record {
  budget = (s.bound, is.bound, omega (arith, is.nodes, is.within));
  list = is.list;
  few = few;
}
