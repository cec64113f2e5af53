-- each list of words means settings, or means none
use Rattle.std.proofs.Common.{◌≡◌, ◌≢◌, refl, subst, ℕ, List, [], ◌⊎◌, inl, inr, Option, None, Some, codes}
use Rattle.clap.specs.Walk.{Text}
use Rattle.model_params.specs.declared.params.Params.{Params}
use Rattle.command_words.specs.declared.settings.Settings.{Settings}
use Rattle.command_words.specs.declared.gate_settings.GateSettings.{GateSettings}
use Rattle.command_words.specs.declared.settings.GeneratedSettings.{GeneratedSettings}
use Rattle.command_words.specs.declared.settings.LevelSettings.{LevelSettings}
use Rattle.command_words.specs.declared.settings.SearchSettings.{SearchSettings}
use Rattle.command_words.specs.declared.settings.RegionSettings.{RegionSettings}
use Rattle.command_words.specs.declared.settings.ReportSettings.{ReportSettings}
use Rattle.command_words.specs.declared.settings.Task.{Task}
use Rattle.command_words.specs.declared.settings.Task.TheVariants.{Ground, Potentials, Certify, Check, Window, Occupation, Range, Gen, Truth, Domain, Region}
use Rattle.command_words.specs.declared.settings.InputForm.{InputForm}
use Rattle.command_words.specs.declared.settings.InputForm.TheVariants.{Sites, Sqd, Table}
use Rattle.command_words.specs.Command.{refusals_of, option_text}
use Rattle.gate_model.specs.Grids.{Axes, HasFarEnds}
use Rattle.command_words.specs.Options.{IsChoice}
use Rattle.command_words.specs.Gates.{AreGateSettings, HasGate}
use Rattle.command_words.specs.Settings.{AreGeneratedSettings, AreGroups, AreLevelSettings, AreParams, AreRegionSettings, AreReportSettings, AreSearchSettings, AreSettings, HasDomainNeeds, HasNeeds, HasRegionNeeds, HasTruthNeeds, IsSettingsOf, form_name, task_name}
use Rattle.command_words.proofs.Decided.{Both, HasSomeOrNone, both, empty_decided, far_ends_decided, moved}
use Rattle.command_words.proofs.Choices.{some_form, some_task}
use Rattle.command_words.proofs.Readings.{AreReadings, IsReadOnce}
use Rattle.command_words.proofs.SomeGate.{AreGateLaws, gate_decided, some_gate}
use Rattle.command_words.proofs.SomeGroup.{some_generated, some_levels, some_params, some_region, some_report, some_search}

-- something is there, or is not
some_decided : {A : Type 0} (o : Option A) → (o ≢ None) ⊎ ((o ≢ None) → ⊥)
some_decided None = inr (λ never. never refl)
some_decided (Some a) = inl (λ e. cc)

-- the form is a layout, or is a table
layout_decided : (form : InputForm) → (form ≢ Table) ⊎ ((form ≢ Table) → ⊥)
layout_decided Sites = inl (λ e. cc)
layout_decided Sqd = inl (λ e. cc)
layout_decided Table = inr (λ never. never refl)

-- values of options give one list of settings
abbrev pub AreGroupsOnce : Type 0
AreGroupsOnce = (value : Text → Option Text) (a b : Settings) → AreGroups value a → AreGroups value b → a ≡ b

module _ (gates : AreGateLaws) (s : Settings) where
  -- there is what truth tables need, or it is lacking
  truth_decided : HasTruthNeeds s ⊎ (HasTruthNeeds s → ⊥)
  truth_decided = by (gate_decided gates s.gate) (layout_decided s.form)
    where
      by : HasGate s.gate ⊎ (HasGate s.gate → ⊥) → (s.form ≢ Table) ⊎ ((s.form ≢ Table) → ⊥) → HasTruthNeeds s ⊎ (HasTruthNeeds s → ⊥)
      by (inl gate) (inl no_table) = inl (record { gate = gate; no_table = no_table })
      by (inr never) form = inr (λ has. never has.gate)
      by (inl gate) (inr never) = inr (λ has. never has.no_table)

  -- the same for domains
  domain_decided : HasDomainNeeds s ⊎ (HasDomainNeeds s → ⊥)
  domain_decided = by truth_decided (some_decided s.gate.grid)
    where
      by : HasTruthNeeds s ⊎ (HasTruthNeeds s → ⊥) → (s.gate.grid ≢ None) ⊎ ((s.gate.grid ≢ None) → ⊥) → HasDomainNeeds s ⊎ (HasDomainNeeds s → ⊥)
      by (inl truth) (inl points) = inl (record { truth = truth; points = points })
      by (inr never) grid = inr (λ has. never has.truth)
      by (inl truth) (inr never) = inr (λ has. never has.points)

  -- the same for regions
  region_decided : HasRegionNeeds s ⊎ (HasRegionNeeds s → ⊥)
  region_decided = by truth_decided s.gate.grid refl
    where
      with_grid : HasTruthNeeds s → (axes : Axes) → s.gate.grid ≡ Some axes → HasFarEnds axes ⊎ (HasFarEnds axes → ⊥) → HasRegionNeeds s ⊎ (HasRegionNeeds s → ⊥)
      with_grid truth axes given (inl far) = inl (record { truth = truth; axes = axes; points = given; far_ends = far })
      with_grid truth axes given (inr never) = inr (λ has. let same : has.axes ≡ axes = cc (given, has.points) in never (subst HasFarEnds same has.far_ends))

      by : HasTruthNeeds s ⊎ (HasTruthNeeds s → ⊥) → (grid : Option Axes) → s.gate.grid ≡ grid → HasRegionNeeds s ⊎ (HasRegionNeeds s → ⊥)
      by (inr never) grid given = inr (λ has. never has.truth)
      by (inl truth) None none = inr (λ has. cc (none, has.points))
      by (inl truth) (Some axes) given = with_grid truth axes given (far_ends_decided axes)

  -- a task has what it needs, or lacks it
  needs_decided : (task : Task) → HasNeeds task s ⊎ (HasNeeds task s → ⊥)
  needs_decided Range = some_decided s.levels.range
  needs_decided Truth = truth_decided
  needs_decided Domain = domain_decided
  needs_decided Region = region_decided
  needs_decided Ground = inl tt
  needs_decided Potentials = inl tt
  needs_decided Certify = inl tt
  needs_decided Check = inl tt
  needs_decided Window = inl tt
  needs_decided Occupation = inl tt
  needs_decided Gen = inl tt

module _ (readings : AreReadings) (once : IsReadOnce) (gates : AreGateLaws) (value : List ℕ → Option (List ℕ)) where
  -- the task and the form
  abbrev Choices : Task × InputForm → Type 0
  Choices = Both (IsChoice task_name Ground (value (codes "task"))) (IsChoice form_name Sites (value (codes "form")))

  -- the groups of what is searched
  abbrev Searched : Params × (SearchSettings × LevelSettings) → Type 0
  Searched = Both (AreParams value) (Both (AreSearchSettings value) (AreLevelSettings value))

  -- the groups beside that
  abbrev Beside : GateSettings × (GeneratedSettings × (RegionSettings × ReportSettings)) → Type 0
  Beside = Both (AreGateSettings value) (Both (AreGeneratedSettings value) (Both (AreRegionSettings value) (AreReportSettings value)))

  -- all groups
  abbrev Groups : (Task × InputForm) × ((Params × (SearchSettings × LevelSettings)) × (GateSettings × (GeneratedSettings × (RegionSettings × ReportSettings)))) → Type 0
  Groups = Both Choices (Both Searched Beside)

  -- the options have such values, or have none
  some_groups : HasSomeOrNone Groups
  some_groups =
      both Choices (Both Searched Beside)
      (both (IsChoice task_name Ground (value (codes "task"))) (IsChoice form_name Sites (value (codes "form"))) (some_task (value (codes "task"))) (some_form (value (codes "form"))))
      (both Searched Beside
      (both (AreParams value) (Both (AreSearchSettings value) (AreLevelSettings value)) (some_params readings value)
      (both (AreSearchSettings value) (AreLevelSettings value) (some_search readings value) (some_levels readings value once)))
      (both (AreGateSettings value) (Both (AreGeneratedSettings value) (Both (AreRegionSettings value) (AreReportSettings value)))
      (some_gate gates (value (codes "input")) (value (codes "output")) (value (codes "function")) (value (codes "grid")))
      (both (AreGeneratedSettings value) (Both (AreRegionSettings value) (AreReportSettings value)) (some_generated readings value)
      (both (AreRegionSettings value) (AreReportSettings value) (some_region readings value) (some_report readings value)))))

  -- so they give all groups, or don't
  some_all : HasSomeOrNone (AreGroups value)
  some_all = moved Groups (AreGroups value) to back some_groups
    where
      to : (x : (Task × InputForm) × ((Params × (SearchSettings × LevelSettings)) × (GateSettings × (GeneratedSettings × (RegionSettings × ReportSettings))))) → Groups x → (s : Settings) × AreGroups value s
      to ((task, form), ((params, (search, levels)), (gate, (generated, (region, report))))) ((is_task, is_form), ((are_params, (are_search, are_levels)), (is_gate, (are_generated, (are_region, are_report))))) = (
        record { task = task; form = form; params = params; search = search; report = report; levels = levels; gate = gate; generated = generated; region = region },
        record { task = is_task; form = is_form; params = are_params; search = are_search; report = are_report; levels = are_levels; gate = is_gate; generated = are_generated; region = are_region },
      )

      back : (s : Settings) → AreGroups value s → (x : (Task × InputForm) × ((Params × (SearchSettings × LevelSettings)) × (GateSettings × (GeneratedSettings × (RegionSettings × ReportSettings))))) × Groups x
      back s are = (
        ((s.task, s.form), ((s.params, (s.search, s.levels)), (s.gate, (s.generated, (s.region, s.report))))),
        ((are.task, are.form), ((are.params, (are.search, are.levels)), (are.gate, (are.generated, (are.region, are.report))))),
      )

  -- so they give settings, or give none
  some_settings : AreGroupsOnce → HasSomeOrNone (AreSettings value)
  some_settings one = by some_all
    where
      by_needs : (s : Settings) → AreGroups value s → HasNeeds s.task s ⊎ (HasNeeds s.task s → ⊥) → HasSomeOrNone (AreSettings value)
      by_needs s groups (inl needs) = inl (s, record { groups = groups; needs = needs })
      by_needs s groups (inr lacks) = inr (λ t are. lacks (subst (λ (u : Settings). HasNeeds u.task u) (one value t s are.groups groups) are.needs))

      by : HasSomeOrNone (AreGroups value) → HasSomeOrNone (AreSettings value)
      by (inl (s, groups)) = by_needs s groups (needs_decided gates s s.task)
      by (inr never) = inr (λ s are. never s are.groups)

-- words mean settings, or mean none
pub settings_or_none : AreReadings → IsReadOnce → AreGateLaws → AreGroupsOnce → (words : List (List ℕ)) → HasSomeOrNone (IsSettingsOf words)
settings_or_none readings once gates one words = by (empty_decided (refusals_of words)) (some_settings readings once gates (option_text words) one)
  where
    by : (refusals_of words ≡ []) ⊎ (refusals_of words ≡ [] → ⊥) → HasSomeOrNone (AreSettings (option_text words)) → HasSomeOrNone (IsSettingsOf words)
    by (inl taken) (inl (s, values)) = inl (s, record { taken = taken; values = values })
    by (inl taken) (inr never) = inr (λ s is. never s is.values)
    by (inr refused) values = inr (λ s is. refused is.taken)
