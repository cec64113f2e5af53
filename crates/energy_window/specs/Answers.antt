-- what a search for all lists within a window answers
use Rattle.std.specs.Prelude.{ℕ, ℤ, List}
use Rattle.charge_model.specs.Problem.{Problem}
use Rattle.charge_model.specs.GroundList.{Entry}
use Rattle.ground_state.specs.Window.{IsWindowListedWithin, IsWindowOverLimit, IsWindowTooLongWithin}
use Rattle.energy_window.specs.declared.answer.WindowAnswer.{WindowAnswer}
use Rattle.energy_window.specs.declared.answer.WindowAnswer.TheVariants.{List as Listed, Budget, ListTooLong, Memory}

-- what each answer says
abbrev pub IsWindowAnswer : Problem → ℤ → ℕ → WindowAnswer → Type 0
IsWindowAnswer p window limit (Listed es) = IsWindowListedWithin p window limit es
IsWindowAnswer p window limit Budget = IsWindowOverLimit p window limit
IsWindowAnswer p window limit ListTooLong = IsWindowTooLongWithin p window limit
IsWindowAnswer p window limit Memory = Unit {0}

-- what holds of the window list, where the answer is one
abbrev pub IfWindowListed : WindowAnswer → (List Entry → Type 0) → Type 0
IfWindowListed (Listed es) holds = holds es
IfWindowListed Budget holds = Unit {0}
IfWindowListed ListTooLong holds = Unit {0}
IfWindowListed Memory holds = Unit {0}
