-- what is no generated layout, and no answer
use Rattle.std.proofs.Common.{◌≡◌, ap, ℕ, pos, inl, inr, List, [], ◌∷◌, arith}
use Rattle.std.specs.Prelude.{slice_index_or}
use Rattle.std.proofs.lemmas.Int.{ints}
use Rattle.sidb_layout.specs.declared.site.Site.{Site}
use Rattle.run_answer.specs.declared.status.Status.TheVariants.{Answered, Budget, Memory}
use Rattle.command_words.specs.declared.settings.Settings.{Settings}
use Rattle.command_words.specs.Limits.{AreGeneratedNumbers}
use Rattle.task_gen.specs.Generator.{next_state, sites_for_number}
use Rattle.task_gen.specs.GenAnswer.{IsGenAnswer, IsGenOver}
use Rattle.task_gen.proofs.StandardFacts.{place}

-- a layout with more sites than a layout has
too_many : AreGeneratedNumbers 1 65 → ⊥
too_many within = let most = within.sites_within.to in omega (arith, ints, most)

-- a number past those of 63 bits
too_great : AreGeneratedNumbers 9223372036854775808 1 → ⊥
too_great within = let most = within.number_within.to in omega (arith, ints, most)

-- another column
other_column : sites_for_number 1 1 ≡ (place 11 0 0 ∷ []) → ⊥
unfolding next_state
other_column wrong =
    let columns : pos 10 ≡ pos 11 = ap (λ (l : List Site). (slice_index_or l 0 (place 0 0 0)).n) wrong in
    omega (arith, ints, columns)

never_memory : (s : Settings) (text : List ℕ) → IsGenAnswer s Memory text → ⊥
never_memory s text (inl is) = let wrong = is.0 in absurd (cc)
never_memory s text (inr (inl over)) = let wrong = over.1.0 in absurd (cc)
never_memory s text (inr (inr long)) = let wrong = long.1.0 in absurd (cc)

only_over_budget : (s : Settings) (text : List ℕ) → IsGenAnswer s Budget text → IsGenOver s
only_over_budget s text (inl is) = let wrong = is.0 in absurd (cc)
only_over_budget s text (inr (inl over)) = over.0
only_over_budget s text (inr (inr long)) = let wrong = long.1.0 in absurd (cc)

no_empty_text : (s : Settings) → IsGenAnswer s Answered [] → ⊥
no_empty_text s (inl is) = let wrong = is.1.prints in absurd (cc (wrong))
no_empty_text s (inr (inl over)) = let wrong = over.1.0 in absurd (cc)
no_empty_text s (inr (inr long)) = let wrong = long.1.0 in absurd (cc)
