-- what is no answer
use Rattle.std.proofs.Common.{inl, inr, List, ℕ}
use Rattle.charge_model.specs.Problem.{Problem}
use Rattle.command_words.specs.declared.settings.Settings.{Settings}
use Rattle.ground_report.specs.declared.about.About.{About}
use Rattle.ground_state.specs.Window.{IsWindowOverLimit, IsWindowTooLongWithin}
use Rattle.run_answer.specs.declared.status.Status.TheVariants.{Budget, ListTooLong, Memory}
use Rattle.task_levels.specs.OccupationAnswer.{IsOccupationAnswer}
use Rattle.task_levels.specs.WindowAnswer.{IsWindowListAnswer}

never_memory : (s : Settings) (about : About) (p : Problem) (text : List ℕ) → IsWindowListAnswer s about p Memory text → ⊥
never_memory s about p text (inl is) = let wrong = is.0 in absurd (cc)
never_memory s about p text (inr (inl over)) = let wrong = over.1.0 in absurd (cc)
never_memory s about p text (inr (inr long)) = let wrong = long.1.0 in absurd (cc)

only_over_budget : (s : Settings) (about : About) (p : Problem) (text : List ℕ) → IsWindowListAnswer s about p Budget text
    → IsWindowOverLimit p s.levels.window.width s.search.limit
only_over_budget s about p text (inl is) = let wrong = is.0 in absurd (cc)
only_over_budget s about p text (inr (inl over)) = over.0
only_over_budget s about p text (inr (inr long)) = let wrong = long.1.0 in absurd (cc)

no_shares_for_want_of_memory : (s : Settings) (p : Problem) (text : List ℕ) → IsOccupationAnswer s p Memory text → ⊥
no_shares_for_want_of_memory s p text (inl is) = let wrong = is.0 in absurd (cc)
no_shares_for_want_of_memory s p text (inr (inl over)) = let wrong = over.1.0 in absurd (cc)
no_shares_for_want_of_memory s p text (inr (inr long)) = let wrong = long.1.0 in absurd (cc)

no_shares_only_of_long_lists : (s : Settings) (p : Problem) (text : List ℕ) → IsOccupationAnswer s p ListTooLong text
    → IsWindowTooLongWithin p s.levels.window.width s.search.limit
no_shares_only_of_long_lists s p text (inl is) = let wrong = is.0 in absurd (cc)
no_shares_only_of_long_lists s p text (inr (inl over)) = let wrong = over.1.0 in absurd (cc)
no_shares_only_of_long_lists s p text (inr (inr long)) = long.0
