-- there is one answer, and what holds of the window list holds of the list of the answer
use Rattle.std.proofs.Common.{◌≡◌, ℕ, ℤ, List, refl, ap, ◌⊎◌, inl, inr}
use Rattle.charge_model.specs.Problem.{Problem}
use Rattle.charge_model.specs.GroundList.{Entry}
use Rattle.window_model.specs.Windows.{IsMarkedWindowList}
use Rattle.ground_state.specs.Window.{IsWindowListedWithin, IsWindowWithinLimit, IsWindowOverLimit, IsWindowTooLongWithin}
use Rattle.energy_window.specs.declared.answer.WindowAnswer.{WindowAnswer}
use Rattle.energy_window.specs.declared.answer.WindowAnswer.TheVariants.{List as Listed, Budget, ListTooLong, Memory}
use Rattle.energy_window.specs.Answers.{IsWindowAnswer, IfWindowListed}

-- one list, no list beside a long one, and one side of the budget
pub record AreApart (p : Problem) (window : ℤ) (limit : ℕ) : Type 0 where
  pub one : (es fs : List Entry) → IsWindowListedWithin p window limit es → IsWindowListedWithin p window limit fs → es ≡ fs
  pub length : (es : List Entry) → IsWindowListedWithin p window limit es → IsWindowTooLongWithin p window limit → ⊥
  pub budget : IsWindowWithinLimit p window limit → IsWindowOverLimit p window limit → ⊥

pub one : (p : Problem) (window : ℤ) (limit : ℕ) → AreApart p window limit → (a b : WindowAnswer) → IsWindowAnswer p window limit a → IsWindowAnswer p window limit b
    → (a ≡ b) ⊎ ((a ≡ Memory) ⊎ (b ≡ Memory))
one p window limit apart Memory b is also = inr (inl refl)
one p window limit apart (Listed es) Memory is also = inr (inr refl)
one p window limit apart Budget Memory is also = inr (inr refl)
one p window limit apart ListTooLong Memory is also = inr (inr refl)
one p window limit apart (Listed es) (Listed fs) is also = inl (ap Listed (apart.one es fs is also))
one p window limit apart (Listed es) Budget is also = absurd (apart.budget is.budget also)
one p window limit apart (Listed es) ListTooLong is also = absurd (apart.length es is also)
one p window limit apart Budget (Listed es) is also = absurd (apart.budget also.budget is)
one p window limit apart Budget Budget is also = inl refl
one p window limit apart Budget ListTooLong is also = absurd (apart.budget also.budget is)
one p window limit apart ListTooLong (Listed es) is also = absurd (apart.length es also is)
one p window limit apart ListTooLong Budget is also = absurd (apart.budget is.budget also)
one p window limit apart ListTooLong ListTooLong is also = inl refl

-- what holds of the marked window list holds of the list of the answer
pub where_listed : (p : Problem) (window : ℤ) (limit : ℕ) (Q : List Entry → Type 0) → ((es : List Entry) → IsMarkedWindowList p window es → Q es)
    → (a : WindowAnswer) → IsWindowAnswer p window limit a → IfWindowListed a Q
where_listed p window limit Q then (Listed es) is = then es is.list
where_listed p window limit Q then Budget is = tt
where_listed p window limit Q then ListTooLong is = tt
where_listed p window limit Q then Memory is = tt
