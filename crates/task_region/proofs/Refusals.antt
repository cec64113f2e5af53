-- what is no answer
use Rattle.std.proofs.Common.{◌≡◌, ℕ, inl, inr, List, None}
use Rattle.sidb_layout.specs.Layout.{Arrangement}
use Rattle.command_words.specs.declared.settings.Settings.{Settings}
use Rattle.gate_model.specs.Grids.{Axes}
use Rattle.gate_model.specs.Logic.{Logic}
use Rattle.bdl_pairs.specs.Remaining.{IsOn}
use Rattle.run_answer.specs.declared.status.Status.{Status}
use Rattle.run_answer.specs.declared.status.Status.TheVariants.{Answered, Budget, ListTooLong, Memory}
use Rattle.task_region.specs.RegionAnswer.{IsRegionAnswer, IsRegionOfGate}
use Rattle.task_region.specs.Told.{TellsRegion}

-- a budget and a long list are answers of tiles, and end no run
no_budget : (s : Settings) (gate : Logic) (a : Axes) (layout : Arrangement) (text : List ℕ) → IsRegionOfGate s gate a layout Budget text → ⊥
no_budget s gate a layout text (inl (on, is)) = let wrong = is.0 in absurd (cc)
no_budget s gate a layout text (inr site) = let wrong = site.answers.status_is in absurd (cc)

no_long_list : (s : Settings) (gate : Logic) (a : Axes) (layout : Arrangement) (text : List ℕ) → IsRegionOfGate s gate a layout ListTooLong text → ⊥
no_long_list s gate a layout text (inl (on, is)) = let wrong = is.0 in absurd (cc)
no_long_list s gate a layout text (inr site) = let wrong = site.answers.status_is in absurd (cc)

never_memory : (s : Settings) (gate : Logic) (a : Axes) (layout : Arrangement) (text : List ℕ) → IsRegionOfGate s gate a layout Memory text → ⊥
never_memory s gate a layout text (inl (on, is)) = let wrong = is.0 in absurd (cc)
never_memory s gate a layout text (inr site) = let wrong = site.answers.status_is in absurd (cc)

-- a place that is no site is answered before anything of the tiles
only_on_sites : (s : Settings) (gate : Logic) (a : Axes) (layout : Arrangement) (text : List ℕ) → IsRegionOfGate s gate a layout Answered text → IsOn gate layout.sites
only_on_sites s gate a layout text (inl (on, is)) = on
only_on_sites s gate a layout text (inr site) = let wrong = site.answers.status_is in absurd (cc)

-- settings without a grid, or without a function, have no such answer, and nothing tells of them
no_answer_without_grid : (s : Settings) (layout : Arrangement) (status : Status) (text : List ℕ) → s.gate.grid ≡ None → IsRegionAnswer s layout status text → ⊥
no_answer_without_grid s layout status text none is = let some = is.points in absurd (cc)

no_answer_without_function : (s : Settings) (layout : Arrangement) (status : Status) (text : List ℕ) → s.gate.function ≡ None → IsRegionAnswer s layout status text → ⊥
no_answer_without_function s layout status text none is = let some = is.given.given in absurd (cc)

nothing_told_without_grid : (s : Settings) (layout : Arrangement) (text : List ℕ) → s.gate.grid ≡ None → TellsRegion s layout text → ⊥
nothing_told_without_grid s layout text none told = let some = told.points in absurd (cc)
