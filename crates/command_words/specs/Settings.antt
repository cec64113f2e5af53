-- what a list of words asks for, group by group
use Rattle.std.specs.Prelude.{◌≡◌, ◌≢◌, pos, [], List, Option, None, Some, codes, ⊤}
use Rattle.clap.specs.Walk.{Text}
use Rattle.model_params.specs.declared.params.Params.{Params}
use Rattle.model_params.specs.Quantities.{coulomb_number, level_depth, level_gap, permittivity, screening_length}
use Rattle.gate_model.specs.Grids.{Axes, HasFarEnds}
use Rattle.command_words.specs.declared.settings.Task.{Task}
use Rattle.command_words.specs.declared.settings.Task.TheVariants.{Ground, Potentials, Certify, Check, Window, Occupation, Range, Gen, Truth, Domain, Region}
use Rattle.command_words.specs.declared.settings.InputForm.{InputForm}
use Rattle.command_words.specs.declared.settings.InputForm.TheVariants.{Sites, Sqd, Table}
use Rattle.command_words.specs.declared.settings.SearchSettings.{SearchSettings}
use Rattle.command_words.specs.declared.settings.GeneratedSettings.{GeneratedSettings}
use Rattle.command_words.specs.declared.settings.LevelSettings.{LevelSettings}
use Rattle.command_words.specs.declared.settings.RegionSettings.{RegionSettings}
use Rattle.command_words.specs.declared.settings.ReportSettings.{ReportSettings}
use Rattle.command_words.specs.declared.settings.Settings.{Settings}
use Rattle.command_words.specs.Command.{refusals_of, option_text}
use Rattle.command_words.specs.Options.{IsBase, IsChoice, IsGiven, IsOptionNumber, IsReadWhereGiven}
use Rattle.command_words.specs.Depths.{AreDepths}
use Rattle.command_words.specs.Gates.{AreGateSettings, HasGate}
use Rattle.command_words.specs.Limits.{generated_sites, generator_number, node_limit, refine_depth, thermal_energy, window_width, worker_count}

-- the names of the tasks
abbrev pub task_name : Task → Text
task_name Ground = codes "ground"
task_name Potentials = codes "potentials"
task_name Certify = codes "certify"
task_name Check = codes "check"
task_name Window = codes "window"
task_name Occupation = codes "occupation"
task_name Range = codes "range"
task_name Gen = codes "gen"
task_name Truth = codes "truth"
task_name Domain = codes "domain"
task_name Region = codes "region"

-- the names of the forms
abbrev pub form_name : InputForm → Text
form_name Sites = codes "sites"
form_name Sqd = codes "sqd"
form_name Table = codes "table"

-- the parameters of potentials and levels are these values of their options
pub record AreParams (value : Text → Option Text) (p : Params) : Type 0 where
  pub coulomb : IsOptionNumber coulomb_number (value (codes "coulomb")) p.coulomb
  pub eps : IsOptionNumber permittivity (value (codes "eps")) p.eps
  pub lam : IsOptionNumber screening_length (value (codes "lambda")) p.lam
  pub depth : IsOptionNumber level_depth (value (codes "depth")) p.depth
  pub gap : IsOptionNumber level_gap (value (codes "gap")) p.gap
  pub base : IsBase (value (codes "base")) p.base

-- the limits of the search are these values of their options
pub record AreSearchSettings (value : Text → Option Text) (s : SearchSettings) : Type 0 where
  pub limit : IsOptionNumber node_limit (value (codes "limit")) (pos s.limit)
  pub workers : IsOptionNumber worker_count (value (codes "workers")) (pos s.workers)

-- the window, the range, and what lists are weighed by are these values of their options
pub record AreLevelSettings (value : Text → Option Text) (l : LevelSettings) : Type 0 where
  pub window : IsOptionNumber window_width (value (codes "window")) l.window.width
  pub range : IsReadWhereGiven AreDepths (value (codes "range")) l.range
  pub kt : IsOptionNumber thermal_energy (value (codes "kt")) l.kt

-- the numbers of a generated layout are these values of their options
pub record AreGeneratedSettings (value : Text → Option Text) (g : GeneratedSettings) : Type 0 where
  pub number : IsOptionNumber generator_number (value (codes "number")) (pos g.number)
  pub sites : IsOptionNumber generated_sites (value (codes "sites")) (pos g.sites)

-- how finely tiles are cut is this value of its option
pub record AreRegionSettings (value : Text → Option Text) (r : RegionSettings) : Type 0 where
  pub refine : IsOptionNumber refine_depth (value (codes "refine")) (pos r.refine)

-- the settings of the report are these values of its flags
pub record AreReportSettings (value : Text → Option Text) (r : ReportSettings) : Type 0 where
  pub json : IsGiven (value (codes "json")) r.json
  pub energies : IsGiven (value (codes "energies")) r.energies

-- each group of settings is what these values of its options give
pub record AreGroups (value : Text → Option Text) (s : Settings) : Type 0 where
  pub task : IsChoice task_name Ground (value (codes "task")) s.task
  pub form : IsChoice form_name Sites (value (codes "form")) s.form
  pub params : AreParams value s.params
  pub search : AreSearchSettings value s.search
  pub report : AreReportSettings value s.report
  pub levels : AreLevelSettings value s.levels
  pub gate : AreGateSettings value s.gate
  pub generated : AreGeneratedSettings value s.generated
  pub region : AreRegionSettings value s.region

-- the pairs and the function make a gate, and the input is a layout
pub record HasTruthNeeds (s : Settings) : Type 0 where
  pub gate : HasGate s.gate
  pub no_table : s.form ≢ Table

-- the same, and there are points at which the gate is asked for
pub record HasDomainNeeds (s : Settings) : Type 0 where
  pub truth : HasTruthNeeds s
  pub points : s.gate.grid ≢ None

-- there is what truth tables need, and a grid whose far ends are in range as its points are
pub record HasRegionNeeds (s : Settings) : Type 0 where
  pub truth : HasTruthNeeds s
  pub axes : Axes
  pub points : s.gate.grid ≡ Some axes
  pub far_ends : HasFarEnds axes

-- what a task needs beside its input
abbrev pub HasNeeds : Task → Settings → Type 0
HasNeeds Range s = s.levels.range ≢ None
HasNeeds Truth s = HasTruthNeeds s
HasNeeds Domain s = HasDomainNeeds s
HasNeeds Region s = HasRegionNeeds s
HasNeeds _ s = ⊤

-- these values of the options give the settings, and the task has what it needs
pub record AreSettings (value : Text → Option Text) (s : Settings) : Type 0 where
  pub groups : AreGroups value s
  pub needs : HasNeeds s.task s

-- the words mean these settings: clap gives matches, and these are their values
pub record IsSettingsOf (words : List Text) (s : Settings) : Type 0 where
  pub taken : refusals_of words ≡ []
  pub values : AreSettings (option_text words) s
