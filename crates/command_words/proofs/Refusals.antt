-- each definition refuses a wrong value
use Rattle.std.proofs.Common.{◌≡◌, refl, sym, subst, inl, inr, ℕ, pos, [], ◌∷◌, Option, Some, None, codes, arith}
use Rattle.std.proofs.lemmas.Int.{ints}
use Rattle.command_words.specs.declared.settings.Settings.{Settings}
use Rattle.command_words.specs.declared.settings.Task.{Task}
use Rattle.command_words.specs.declared.settings.Task.TheVariants.{Ground, Range, Truth, Domain, Region}
use Rattle.command_words.specs.declared.settings.InputForm.{InputForm}
use Rattle.command_words.specs.declared.settings.InputForm.TheVariants.{Sites, Table}
use Rattle.model_params.specs.Quantities.{IsInRangeOf, level_depth, level_gap, permittivity, screening_length}
use Rattle.gate_model.specs.declared.function.Function.{Function}
use Rattle.gate_model.specs.Grids.{Axes, HasFarEnds}
use Rattle.gate_model.proofs.StandardFacts.{pair}
use Rattle.command_words.specs.declared.settings.DepthRange.{DepthRange}
use Rattle.command_words.specs.Depths.{AreDepths}
use Rattle.command_words.specs.Gates.{AreToldPairs, HasGate, IsToldFunction}
use Rattle.command_words.specs.Limits.{AreEndsOfDepths, generated_sites, generator_number, node_limit, refine_depth, thermal_energy, worker_count}
use Rattle.command_words.specs.Options.{IsBase, IsChoice, IsOptionNumber, IsReadWhereGiven}
use Rattle.command_words.specs.Settings.{HasNeeds, HasRegionNeeds, IsSettingsOf, form_name, task_name}
use Rattle.clap.proofs.OnLiterals.{clap_on_literals}
use Rattle.command_words.specs.Command.{sidb_command, matches_in}
use Rattle.command_words.proofs.Choices.{begins_a_form, begins_a_task, form_by, key, task_by}
use Rattle.command_words.proofs.StandardFacts.{domain_settings, preset, region_settings, rows, wire_gate}

no_base_four : IsBase (Some (codes "4")) 4 → ⊥
no_base_four (inl h) = let e = h.1 in omega (arith, e)
no_base_four (inr h) = let e = h.1 in omega (arith, e)

no_base_with_a_zero : (base : ℕ) → IsBase (Some (codes "03")) base → ⊥
no_base_with_a_zero base (inl h) = let e = h.0 in absurd (cc)
no_base_with_a_zero base (inr h) = let e = h.0 in absurd (cc)

no_preset_base_two : IsBase None 2 → ⊥
no_preset_base_two e = omega (arith, e)

no_unknown_task : (task : Task) → IsChoice task_name Ground (Some (codes "solve")) task → ⊥
unfolding key task_by
no_unknown_task task is = let none : ◌≡◌ {A = Option Task} None (Some task) = begins_a_task (codes "solve") task is in absurd (cc)

no_unknown_form : (form : InputForm) → IsChoice form_name Sites (Some (codes "gds")) form → ⊥
unfolding key form_by
no_unknown_form form is = let none : ◌≡◌ {A = Option InputForm} None (Some form) = begins_a_form (codes "gds") form is in absurd (cc)

no_preset_form_table : IsChoice form_name Sites None Table → ⊥
no_preset_form_table e = absurd (cc)

no_half_permittivity : IsOptionNumber permittivity (Some (codes "0.5")) (pos 5000) → ⊥
no_half_permittivity read = omega (arith, ints, read.from)

no_preset_of_the_gap : IsOptionNumber level_depth None (pos 590000000000) → ⊥
no_preset_of_the_gap e = omega (arith, ints, e)

no_preset_of_the_depth : IsOptionNumber level_gap None (pos 320000000000) → ⊥
no_preset_of_the_depth e = omega (arith, ints, e)

no_tenth_of_a_length : IsOptionNumber screening_length None (pos 5000) → ⊥
no_tenth_of_a_length e = omega (arith, ints, e)

no_limit_of_zero : IsInRangeOf node_limit (pos 0) → ⊥
no_limit_of_zero within = omega (arith, ints, within.from)

no_seventeen_workers : IsInRangeOf worker_count (pos 17) → ⊥
no_seventeen_workers within = omega (arith, ints, within.to)

no_tenth_of_a_millivolt : IsInRangeOf thermal_energy (pos 100000000) → ⊥
no_tenth_of_a_millivolt within = omega (arith, ints, within.from)

no_sixty_five_sites : IsInRangeOf generated_sites (pos 65) → ⊥
no_sixty_five_sites within = omega (arith, ints, within.to)

no_number_of_64_bits : IsInRangeOf generator_number (pos 9223372036854775808) → ⊥
no_number_of_64_bits within = omega (arith, ints, within.to)

no_range_turned : AreEndsOfDepths (pos 2) (pos 1) → ⊥
no_range_turned are = omega (arith, ints, are.in_order)

no_range_above_two_volts : AreEndsOfDepths (pos 0) (pos 2000000000001) → ⊥
no_range_above_two_volts are = omega (arith, ints, are.to_within.to)

no_range_of_one_word : (r : DepthRange) → AreDepths (codes "1") r → ⊥
no_range_of_one_word r are = cc (are.words)

no_range_that_is_not_told : (r : DepthRange) → IsReadWhereGiven AreDepths None (Some r) → ⊥
no_range_that_is_not_told r is = is

no_pairs_that_are_not_told : AreToldPairs 2 None (pair 0 3 ∷ []) → ⊥
no_pairs_that_are_not_told are = cc

no_function_without_inputs : (f : Function) → IsToldFunction 0 (Some (codes "one")) (Some f) → ⊥
no_function_without_inputs f is = cc (is.named)

no_told_function_left_out : IsToldFunction 1 (Some (codes "buf")) None → ⊥
no_told_function_left_out is = is

no_gate_without_function : HasGate (record wire_gate { function = None }) → ⊥
no_gate_without_function has = let some = has.given in absurd (cc)

no_gate_without_output : HasGate (record wire_gate { outputs = [] }) → ⊥
no_gate_without_output has = omega (arith, has.is_gate.some_output)

no_levels_without_range : HasNeeds Range preset → ⊥
no_levels_without_range needs = needs refl

no_truth_without_gate : HasNeeds Truth preset → ⊥
no_truth_without_gate needs = let some = needs.gate.given in absurd (cc)

no_truth_of_a_table : HasNeeds Truth (record domain_settings { form = Table }) → ⊥
no_truth_of_a_table needs = needs.no_table refl

no_domain_without_grid : HasNeeds Domain (record domain_settings { gate = record wire_gate { grid = None } }) → ⊥
no_domain_without_grid needs = needs.points refl

no_refinement_of_seven : IsInRangeOf refine_depth (pos 7) → ⊥
no_refinement_of_seven within = omega (arith, ints, within.to)

no_region_without_grid : HasNeeds Region (record region_settings { gate = record wire_gate { grid = None } }) → ⊥
no_region_without_grid needs = let some = needs.points in absurd (cc)

no_region_of_a_table : HasNeeds Region (record region_settings { form = Table }) → ⊥
no_region_of_a_table needs = needs.truth.no_table refl

-- nor where the far end of a direction is out of its range
no_region_beyond : (a : Axes) → a.eps ≡ record { start = pos 990000; step = pos 5000; count = 3 } → HasRegionNeeds (record region_settings { gate = record wire_gate { grid = Some a } }) → ⊥
no_region_beyond a is needs =
    let same : a ≡ needs.axes = cc (needs.points) in
    let far = subst HasFarEnds (sym same) needs.far_ends in
    let to = rw is at far.eps.to in
    omega (arith, ints, to)

-- what is not told is not there
not_told : (r : Option DepthRange) → IsReadWhereGiven AreDepths None r → r ≡ None
not_told None is = refl
not_told (Some r) is = absurd is

-- the task of a name that begins with its letters
same_task : (t u : Task) → Some t ≡ Some u → t ≡ u
same_task t u e = cc

no_range_task_without_range : (s : Settings) → IsSettingsOf (codes "--task" ∷ codes "range" ∷ []) s → ⊥
unfolding clap_on_literals sidb_command matches_in key task_by
no_range_task_without_range s means =
    let is : Range ≡ s.task = same_task Range s.task (begins_a_task (codes "range") s.task means.values.groups.task) in
    let needs : HasNeeds Range s = subst (λ (t : Task). HasNeeds t s) (sym is) means.values.needs in
    needs (not_told s.levels.range means.values.groups.levels.range)

no_repeated_option : (s : Settings) → IsSettingsOf (codes "--eps" ∷ codes "5" ∷ codes "--eps" ∷ codes "5" ∷ []) s → ⊥
no_repeated_option s means = let none = means.taken in let some = rows.repeated in absurd (cc (none, some))

no_other_preset : IsSettingsOf [] (record preset { form = Table }) → ⊥
unfolding clap_on_literals sidb_command matches_in
no_other_preset means = absurd (cc (means.values.groups.form))
