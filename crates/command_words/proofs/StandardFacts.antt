-- what the definition of the command says of some lists of words
use Rattle.std.proofs.Common.{◌≡◌, refl, List, [], ◌∷◌, Some, None, false, true, codes, pos, arith}
use Rattle.std.proofs.lemmas.Int.{ints}
use Rattle.clap.specs.declared.error.kind.ErrorKind.TheVariants as kind
use Rattle.clap.proofs.OnLiterals.{clap_on_literals}
use Rattle.window_model.specs.declared.window.Window.{Window}
use Rattle.gate_model.specs.Logic.{AllDiffer, HaveDistinctPlaces}
use Rattle.command_words.specs.declared.gate_settings.GateSettings.{GateSettings}
use Rattle.command_words.specs.declared.settings.Settings.{Settings}
use Rattle.clap.specs.Walk.{Text}
use Rattle.command_words.specs.declared.settings.DepthRange.{DepthRange}
use Rattle.command_words.specs.declared.settings.GeneratedSettings.{GeneratedSettings}
use Rattle.command_words.specs.declared.settings.LevelSettings.{LevelSettings}
use Rattle.command_words.specs.declared.settings.RegionSettings.{RegionSettings}
use Rattle.command_words.specs.declared.settings.SearchSettings.{SearchSettings}
use Rattle.command_words.specs.declared.settings.Task.TheVariants.{Ground, Potentials, Certify, Check, Window as WindowTask, Occupation, Range, Gen, Truth, Domain, Region}
use Rattle.command_words.specs.declared.settings.InputForm.TheVariants.{Sites}
use Rattle.command_words.specs.Command.{sidb_command, refusals_of, matches_in, option_text}
use Rattle.command_words.specs.Depths.{AreDepths, IsDepth}
use Rattle.command_words.specs.Gates.{HasGate}
use Rattle.command_words.specs.Limits.{refine_depth}
use Rattle.command_words.specs.Options.{IsChoice, IsOptionNumber}
use Rattle.command_words.specs.Settings.{AreGroups, HasRegionNeeds, HasTruthNeeds, IsSettingsOf, task_name}
use Rattle.gate_model.proofs.StandardFacts.{far_ends, grid_text, named, of_one, one_digit, one_pair, other_pair, pair, two_by_two, wire_differs, wire_is_gate}
use Rattle.model_params.proofs.StandardFacts.{preset as preset_params}

-- each row is one fact about the definition
pub record Rows : Type 0 where
  pub no_words : refusals_of [] ≡ []
  pub left_out : option_text [] (codes "eps") ≡ None
  pub two_words : option_text (codes "--eps" ∷ codes "5" ∷ []) (codes "eps") ≡ Some (codes "5")
  pub equals_sign : option_text (codes "--limit=2" ∷ []) (codes "limit") ≡ Some (codes "2")
  pub equals_taken : refusals_of (codes "--limit=2" ∷ []) ≡ []
  pub empty_value : option_text (codes "--limit=" ∷ []) (codes "limit") ≡ Some []
  pub empty_word : option_text (codes "--limit" ∷ [] ∷ []) (codes "limit") ≡ Some []
  pub empty_word_alone : refusals_of ([] ∷ []) ≡ kind.UnknownArgument ∷ []
  pub repeated : refusals_of (codes "--eps" ∷ codes "5" ∷ codes "--eps" ∷ codes "5" ∷ []) ≡ kind.ArgumentConflict ∷ []
  pub repeated_equals : refusals_of (codes "--eps=5" ∷ codes "--eps" ∷ codes "5" ∷ []) ≡ kind.ArgumentConflict ∷ []
  pub dash_value : refusals_of (codes "--depth" ∷ codes "-1" ∷ []) ≡ kind.UnknownArgument ∷ []
  pub dash_equals : option_text (codes "--depth=-1" ∷ []) (codes "depth") ≡ Some (codes "-1")
  pub dash_alone : option_text (codes "--task" ∷ codes "-" ∷ []) (codes "task") ≡ Some (codes "-")
  pub no_value : refusals_of (codes "--eps" ∷ []) ≡ kind.InvalidValue ∷ []
  pub option_for_value : refusals_of (codes "--eps" ∷ codes "--gap" ∷ []) ≡ kind.InvalidValue ∷ []
  pub two_dashes : refusals_of (codes "--" ∷ []) ≡ []
  pub after_two_dashes : refusals_of (codes "--" ∷ codes "--eps=5" ∷ []) ≡ kind.UnknownArgument ∷ []
  pub stray : refusals_of (codes "hello" ∷ []) ≡ kind.UnknownArgument ∷ []
  pub abbreviated : refusals_of (codes "--ep" ∷ codes "5" ∷ []) ≡ kind.UnknownArgument ∷ []
  pub longer_name : refusals_of (codes "--grids" ∷ codes "1" ∷ []) ≡ kind.UnknownArgument ∷ []
  pub no_grid_value : refusals_of (codes "--grid" ∷ []) ≡ kind.InvalidValue ∷ []
  pub pairs_given : option_text (codes "--input=0:3,2:1" ∷ []) (codes "input") ≡ Some (codes "0:3,2:1")
  pub flag_given : option_text (codes "--json" ∷ []) (codes "json") ≡ Some (codes "true")
  pub flag_left_out : option_text [] (codes "energies") ≡ Some (codes "false")
  pub repeated_flag : refusals_of (codes "--json" ∷ codes "--json" ∷ []) ≡ kind.ArgumentConflict ∷ []
  pub flag_with_value : refusals_of (codes "--json=true" ∷ []) ≡ kind.TooManyValues ∷ []
  pub help : refusals_of (codes "--help" ∷ []) ≡ kind.DisplayHelp ∷ []
  pub help_short : refusals_of (codes "-h" ∷ []) ≡ kind.DisplayHelp ∷ []
  pub help_word : refusals_of (codes "help" ∷ []) ≡ kind.UnknownArgument ∷ []
  pub help_for_value : option_text (codes "--task" ∷ codes "help" ∷ []) (codes "task") ≡ Some (codes "help")
  pub version : refusals_of (codes "--version" ∷ []) ≡ kind.UnknownArgument ∷ []
  pub version_short : refusals_of (codes "-V" ∷ []) ≡ kind.UnknownArgument ∷ []

pub rows : Rows
unfolding clap_on_literals sidb_command refusals_of matches_in
rows = record {
  no_words = refl;
  left_out = refl;
  two_words = refl;
  equals_sign = refl;
  equals_taken = refl;
  empty_value = refl;
  empty_word = refl;
  empty_word_alone = refl;
  repeated = refl;
  repeated_equals = refl;
  dash_value = refl;
  dash_equals = refl;
  dash_alone = refl;
  no_value = refl;
  option_for_value = refl;
  two_dashes = refl;
  after_two_dashes = refl;
  stray = refl;
  abbreviated = refl;
  longer_name = refl;
  no_grid_value = refl;
  pairs_given = refl;
  flag_given = refl;
  flag_left_out = refl;
  repeated_flag = refl;
  flag_with_value = refl;
  help = refl;
  help_short = refl;
  help_word = refl;
  help_for_value = refl;
  version = refl;
  version_short = refl;
}

-- the limits of a search where none are given
abbrev pub preset_search : SearchSettings
preset_search = record {
  limit = 1000000;
  workers = 4;
  in_range = record {
    limit_within = record { from = omega (arith, ints); to = omega (arith, ints) };
    workers_within = record { from = omega (arith, ints); to = omega (arith, ints) };
  };
}

-- a window of 0 V
abbrev pub no_window : Window
no_window = record { width = pos 0; is_window = record { least = omega (arith, ints); greatest = omega (arith, ints) } }

-- a window of 0 V, and lists weighed by 25 mV
abbrev pub preset_levels : LevelSettings
preset_levels = record { window = no_window; range = None; kt = pos 25000000000; kt_in_range = record { from = omega (arith, ints); to = omega (arith, ints) } }

-- 40 sites by the number 0
abbrev pub preset_generated : GeneratedSettings
preset_generated = record {
  number = 0;
  sites = 40;
  in_range = record {
    number_within = record { from = omega (arith, ints); to = omega (arith, ints) };
    sites_within = record { from = omega (arith, ints); to = omega (arith, ints) };
  };
}

-- undecided rectangles are quartered twice
abbrev pub preset_region : RegionSettings
preset_region = record { refine = 2; in_range = record { from = omega (arith, ints); to = omega (arith, ints) } }

-- no gate and no points
abbrev pub no_gate : GateSettings
no_gate = record { inputs = []; outputs = []; function = None; grid = None }

-- no words mean the preset settings
abbrev pub preset : Settings
preset = record {
  task = Ground;
  form = Sites;
  params = preset_params;
  search = preset_search;
  report = record { json = false; energies = false };
  levels = preset_levels;
  gate = no_gate;
  generated = preset_generated;
  region = preset_region;
}

-- no places are all distinct
none_differ : HaveDistinctPlaces [] []
unfolding AllDiffer
none_differ i j d before within same = omega (arith, within)

pub preset_groups : AreGroups (option_text []) preset
unfolding clap_on_literals sidb_command matches_in
preset_groups = record {
  task = refl;
  form = refl;
  params = record { coulomb = refl; eps = refl; lam = refl; depth = refl; gap = refl; base = refl };
  search = record { limit = refl; workers = refl };
  report = record { json = (λ given. absurd (cc), λ e. absurd (cc)); energies = (λ given. absurd (cc), λ e. absurd (cc)) };
  levels = record { window = refl; range = tt; kt = refl };
  gate = record { inputs = refl; outputs = refl; function = tt; grid = tt; distinct = none_differ };
  generated = record { number = refl; sites = refl };
  region = record { refine = refl };
}

pub no_words_mean_preset : IsSettingsOf [] preset
no_words_mean_preset = record { taken = rows.no_words; values = record { groups = preset_groups; needs = tt } }

-- the names of the tasks
pub record Tasks : Type 0 where
  pub ground : IsChoice task_name Ground (Some (codes "ground")) Ground
  pub potentials : IsChoice task_name Ground (Some (codes "potentials")) Potentials
  pub certify : IsChoice task_name Ground (Some (codes "certify")) Certify
  pub check : IsChoice task_name Ground (Some (codes "check")) Check
  pub window : IsChoice task_name Ground (Some (codes "window")) WindowTask
  pub occupation : IsChoice task_name Ground (Some (codes "occupation")) Occupation
  pub range : IsChoice task_name Ground (Some (codes "range")) Range
  pub gen : IsChoice task_name Ground (Some (codes "gen")) Gen
  pub truth : IsChoice task_name Ground (Some (codes "truth")) Truth
  pub domain : IsChoice task_name Ground (Some (codes "domain")) Domain
  pub region : IsChoice task_name Ground (Some (codes "region")) Region

pub tasks : Tasks
tasks = record {
  ground = refl;
  potentials = refl;
  certify = refl;
  check = refl;
  window = refl;
  occupation = refl;
  range = refl;
  gen = refl;
  truth = refl;
  domain = refl;
  region = refl;
}

-- the depths of 0 V and 2 V
zero_volts : IsDepth (codes "0") (pos 0)
zero_volts = record { digits = 1; numeral = one_digit 48 (omega arith) (omega arith); few = omega arith; value = refl; from = omega (arith, ints); to = omega (arith, ints) }

two_volts : IsDepth (codes "2") (pos 2000000000000)
two_volts = record { digits = 1; numeral = one_digit 50 (omega arith) (omega arith); few = omega arith; value = refl; from = omega (arith, ints); to = omega (arith, ints) }

-- depths from 0 V to 2 V
abbrev pub zero_to_two : DepthRange
zero_to_two = record {
  from = pos 0;
  to = pos 2000000000000;
  in_range = record {
    from_within = record { from = omega (arith, ints); to = omega (arith, ints) };
    to_within = record { from = omega (arith, ints); to = omega (arith, ints) };
    in_order = omega (arith, ints);
  };
}

pub range_text : AreDepths (codes "0:2") zero_to_two
range_text = record { first = codes "0"; second = codes "2"; words = refl; from = zero_volts; to = two_volts }

-- the words of a level range, and what they mean
abbrev pub range_words : List Text
range_words = codes "--task" ∷ codes "range" ∷ codes "--range" ∷ codes "0:2" ∷ []

abbrev pub range_settings : Settings
range_settings = record preset { task = Range; levels = record preset_levels { range = Some zero_to_two } }

pub range_groups : AreGroups (option_text range_words) range_settings
unfolding clap_on_literals sidb_command matches_in
range_groups = record {
  task = refl;
  form = refl;
  params = record { coulomb = refl; eps = refl; lam = refl; depth = refl; gap = refl; base = refl };
  search = record { limit = refl; workers = refl };
  report = record { json = (λ given. absurd (cc), λ e. absurd (cc)); energies = (λ given. absurd (cc), λ e. absurd (cc)) };
  levels = record { window = refl; range = range_text; kt = refl };
  gate = record { inputs = refl; outputs = refl; function = tt; grid = tt; distinct = none_differ };
  generated = record { number = refl; sites = refl };
  region = record { refine = refl };
}

range_taken : refusals_of range_words ≡ []
unfolding clap_on_literals sidb_command refusals_of
range_taken = refl

pub range_words_mean : IsSettingsOf range_words range_settings
range_words_mean = record { taken = range_taken; values = record { groups = range_groups; needs = λ e. cc } }

-- a gate of one input and one output, which hands its input on, at four points
abbrev pub wire_gate : GateSettings
wire_gate = record {
  inputs = pair 0 3 ∷ [];
  outputs = pair 2 1 ∷ [];
  function = Some (of_one false true);
  grid = Some two_by_two;
}

-- the words of a domain, and what they mean
abbrev pub domain_words : List Text
domain_words =
    codes "--task" ∷ codes "domain" ∷ codes "--input" ∷ codes "0:3" ∷ codes "--output" ∷ codes "2:1"
    ∷ codes "--function" ∷ codes "buf" ∷ codes "--grid" ∷ codes "5:1:2,5:1:2" ∷ []

abbrev pub domain_settings : Settings
domain_settings = record preset { task = Domain; gate = wire_gate }

pub domain_groups : AreGroups (option_text domain_words) domain_settings
unfolding clap_on_literals sidb_command matches_in
domain_groups = record {
  task = refl;
  form = refl;
  params = record { coulomb = refl; eps = refl; lam = refl; depth = refl; gap = refl; base = refl };
  search = record { limit = refl; workers = refl };
  report = record { json = (λ given. absurd (cc), λ e. absurd (cc)); energies = (λ given. absurd (cc), λ e. absurd (cc)) };
  levels = record { window = refl; range = tt; kt = refl };
  gate = record { inputs = one_pair; outputs = other_pair; function = named.buf; grid = grid_text; distinct = wire_differs };
  generated = record { number = refl; sites = refl };
  region = record { refine = refl };
}

domain_taken : refusals_of domain_words ≡ []
unfolding clap_on_literals sidb_command refusals_of
domain_taken = refl

-- the pairs and the function make a gate
pub wire_has_gate : HasGate wire_gate
wire_has_gate = record { computed = of_one false true; given = refl; is_gate = wire_is_gate }

pub truth_needs : HasTruthNeeds domain_settings
truth_needs = record { gate = wire_has_gate; no_table = λ e. cc }

pub domain_words_mean : IsSettingsOf domain_words domain_settings
domain_words_mean = record {
  taken = domain_taken;
  values = record { groups = domain_groups; needs = record { truth = truth_needs; points = λ e. cc } };
}

-- four times
four_times : IsOptionNumber refine_depth (Some (codes "4")) (pos 4)
four_times = record { digits = 1; numeral = one_digit 52 (omega arith) (omega arith); few = omega arith; value = refl; from = omega (arith, ints); to = omega (arith, ints) }

-- the words of a region over that grid, and what they mean
abbrev pub region_words : List Text
region_words =
    codes "--task" ∷ codes "region" ∷ codes "--input" ∷ codes "0:3" ∷ codes "--output" ∷ codes "2:1"
    ∷ codes "--function" ∷ codes "buf" ∷ codes "--grid" ∷ codes "5:1:2,5:1:2" ∷ codes "--refine" ∷ codes "4" ∷ []

abbrev pub region_settings : Settings
region_settings = record preset {
  task = Region;
  gate = wire_gate;
  region = record { refine = 4; in_range = record { from = omega (arith, ints); to = omega (arith, ints) } };
}

pub region_groups : AreGroups (option_text region_words) region_settings
unfolding clap_on_literals sidb_command matches_in
region_groups = record {
  task = refl;
  form = refl;
  params = record { coulomb = refl; eps = refl; lam = refl; depth = refl; gap = refl; base = refl };
  search = record { limit = refl; workers = refl };
  report = record { json = (λ given. absurd (cc), λ e. absurd (cc)); energies = (λ given. absurd (cc), λ e. absurd (cc)) };
  levels = record { window = refl; range = tt; kt = refl };
  gate = record { inputs = one_pair; outputs = other_pair; function = named.buf; grid = grid_text; distinct = wire_differs };
  generated = record { number = refl; sites = refl };
  region = record { refine = four_times };
}

region_taken : refusals_of region_words ≡ []
unfolding clap_on_literals sidb_command refusals_of
region_taken = refl

pub region_needs : HasRegionNeeds region_settings
region_needs = record { truth = record { gate = wire_has_gate; no_table = λ e. cc }; axes = two_by_two; points = refl; far_ends = far_ends }

pub region_words_mean : IsSettingsOf region_words region_settings
region_words_mean = record { taken = region_taken; values = record { groups = region_groups; needs = region_needs } }
