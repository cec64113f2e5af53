-- a group of options has a meaning, or has none
use Rattle.std.proofs.Common.{refl, ℕ, ℤ, pos, List, Option, Bool, codes, arith}
use Rattle.std.proofs.lemmas.Int.{ints}
use Rattle.model_params.specs.declared.params.Params.{Params}
use Rattle.model_params.specs.Quantities.{coulomb_number, level_depth, level_gap, permittivity, screening_length}
use Rattle.model_params.specs.Params.{AreParamsInRange}
use Rattle.window_model.specs.Windows.{IsWindow}
use Rattle.command_words.specs.declared.settings.GeneratedSettings.{GeneratedSettings}
use Rattle.command_words.specs.declared.settings.LevelSettings.{LevelSettings}
use Rattle.command_words.specs.declared.settings.SearchSettings.{SearchSettings}
use Rattle.command_words.specs.declared.settings.ReportSettings.{ReportSettings}
use Rattle.command_words.specs.declared.settings.DepthRange.{DepthRange}
use Rattle.command_words.specs.Depths.{AreDepths}
use Rattle.command_words.specs.Limits.{AreGeneratedNumbers, AreSearchLimits, generated_sites, generator_number, node_limit, refine_depth, thermal_energy, window_width, worker_count}
use Rattle.command_words.specs.Options.{IsBase, IsGiven, IsOptionNumber, IsReadWhereGiven}
use Rattle.command_words.specs.Settings.{AreGeneratedSettings, AreLevelSettings, AreParams, AreRegionSettings, AreReportSettings, AreSearchSettings}
use Rattle.command_words.proofs.Decided.{Both, HasSomeOrNone, both, moved}
use Rattle.command_words.proofs.Readings.{AreReadings, IsReadOnce, some_read}
use Rattle.command_words.proofs.DepthLemmas.{some_depths}
use Rattle.command_words.proofs.SomeOption.{base_within, number_within, some_base, some_count, some_flag, some_number}

-- the parameters that these values of options give are in range
params_in_range : (value : List ℕ → Option (List ℕ)) (coulomb eps lam depth gap : ℤ) (base : ℕ)
    → IsOptionNumber coulomb_number (value (codes "coulomb")) coulomb → IsOptionNumber permittivity (value (codes "eps")) eps → IsOptionNumber screening_length (value (codes "lambda")) lam
    → IsOptionNumber level_depth (value (codes "depth")) depth → IsOptionNumber level_gap (value (codes "gap")) gap → IsBase (value (codes "base")) base
    → AreParamsInRange coulomb eps lam depth gap base
params_in_range value coulomb eps lam depth gap base is_coulomb is_eps is_lam is_depth is_gap is_base =
    let bounds = base_within (value (codes "base")) base is_base in
    record {
      coulomb_within = number_within coulomb_number (value (codes "coulomb")) coulomb (omega (arith, ints)) (omega (arith, ints)) is_coulomb;
      eps_within = number_within permittivity (value (codes "eps")) eps (omega (arith, ints)) (omega (arith, ints)) is_eps;
      lam_within = number_within screening_length (value (codes "lambda")) lam (omega (arith, ints)) (omega (arith, ints)) is_lam;
      depth_within = number_within level_depth (value (codes "depth")) depth (omega (arith, ints)) (omega (arith, ints)) is_depth;
      gap_within = number_within level_gap (value (codes "gap")) gap (omega (arith, ints)) (omega (arith, ints)) is_gap;
      base_from = bounds.0;
      base_to = bounds.1;
    }

-- the same for the limits of a search
limits_in_range : (value : List ℕ → Option (List ℕ)) (limit workers : ℕ) → IsOptionNumber node_limit (value (codes "limit")) (pos limit) → IsOptionNumber worker_count (value (codes "workers")) (pos workers)
    → AreSearchLimits limit workers
limits_in_range value limit workers is_limit is_workers = record {
  limit_within = number_within node_limit (value (codes "limit")) (pos limit) (omega (arith, ints)) (omega (arith, ints)) is_limit;
  workers_within = number_within worker_count (value (codes "workers")) (pos workers) (omega (arith, ints)) (omega (arith, ints)) is_workers;
}

-- the same for a generated layout
generated_in_range : (value : List ℕ → Option (List ℕ)) (number sites : ℕ) → IsOptionNumber generator_number (value (codes "number")) (pos number) → IsOptionNumber generated_sites (value (codes "sites")) (pos sites)
    → AreGeneratedNumbers number sites
generated_in_range value number sites is_number is_sites = record {
  number_within = number_within generator_number (value (codes "number")) (pos number) (omega (arith, ints)) (omega (arith, ints)) is_number;
  sites_within = number_within generated_sites (value (codes "sites")) (pos sites) (omega (arith, ints)) (omega (arith, ints)) is_sites;
}

-- the width of a window is in range
window_in_range : (told : Option (List ℕ)) (width : ℤ) → IsOptionNumber window_width told width → IsWindow width
window_in_range told width is =
    let within = number_within window_width told width (omega (arith, ints)) (omega (arith, ints)) is in
    record { least = within.from; greatest = within.to }

module _ (readings : AreReadings) (value : List ℕ → Option (List ℕ)) where
  -- the numbers of the options of the depth and the gap of the levels
  abbrev Levels : ℤ × ℤ → Type 0
  Levels = Both (IsOptionNumber level_depth (value (codes "depth"))) (IsOptionNumber level_gap (value (codes "gap")))

  -- those of the Coulomb number, and the base
  abbrev Charges : ℤ × ℕ → Type 0
  Charges = Both (IsOptionNumber coulomb_number (value (codes "coulomb"))) (IsBase (value (codes "base")))

  -- those of the permittivity and the screening length
  abbrev Lengths : ℤ × ℤ → Type 0
  Lengths = Both (IsOptionNumber permittivity (value (codes "eps"))) (IsOptionNumber screening_length (value (codes "lambda")))

  -- the options give parameters, or give none
  pub some_params : HasSomeOrNone (AreParams value)
  some_params =
      moved (Both Lengths (Both Levels Charges)) (AreParams value) to back
      (both Lengths (Both Levels Charges)
      (both (IsOptionNumber permittivity (value (codes "eps"))) (IsOptionNumber screening_length (value (codes "lambda")))
      (some_number readings permittivity (value (codes "eps"))) (some_number readings screening_length (value (codes "lambda"))))
      (both Levels Charges
      (both (IsOptionNumber level_depth (value (codes "depth"))) (IsOptionNumber level_gap (value (codes "gap")))
      (some_number readings level_depth (value (codes "depth"))) (some_number readings level_gap (value (codes "gap"))))
      (both (IsOptionNumber coulomb_number (value (codes "coulomb"))) (IsBase (value (codes "base")))
      (some_number readings coulomb_number (value (codes "coulomb"))) (some_base (value (codes "base"))))))
    where
      to : (x : (ℤ × ℤ) × ((ℤ × ℤ) × (ℤ × ℕ))) → Both Lengths (Both Levels Charges) x → (p : Params) × AreParams value p
      to ((eps, lam), ((depth, gap), (coulomb, base))) ((is_eps, is_lam), ((is_depth, is_gap), (is_coulomb, is_base))) = (
        record {
          coulomb = coulomb;
          eps = eps;
          lam = lam;
          depth = depth;
          gap = gap;
          base = base;
          in_range = params_in_range value coulomb eps lam depth gap base is_coulomb is_eps is_lam is_depth is_gap is_base;
        },
        record { coulomb = is_coulomb; eps = is_eps; lam = is_lam; depth = is_depth; gap = is_gap; base = is_base },
      )

      back : (p : Params) → AreParams value p → (x : (ℤ × ℤ) × ((ℤ × ℤ) × (ℤ × ℕ))) × Both Lengths (Both Levels Charges) x
      back p are = (
        ((p.eps, p.lam), ((p.depth, p.gap), (p.coulomb, p.base))),
        ((are.eps, are.lam), ((are.depth, are.gap), (are.coulomb, are.base))),
      )

  -- the numbers of the options of a search
  abbrev Counts : ℕ × ℕ → Type 0
  Counts = Both (λ n. IsOptionNumber node_limit (value (codes "limit")) (pos n)) (λ n. IsOptionNumber worker_count (value (codes "workers")) (pos n))

  -- the options give limits of a search, or give none
  pub some_search : HasSomeOrNone (AreSearchSettings value)
  some_search =
      moved Counts (AreSearchSettings value) to back
      (both (λ n. IsOptionNumber node_limit (value (codes "limit")) (pos n)) (λ n. IsOptionNumber worker_count (value (codes "workers")) (pos n))
      (some_count readings node_limit 1000000 refl (value (codes "limit"))) (some_count readings worker_count 4 refl (value (codes "workers"))))
    where
      to : (x : ℕ × ℕ) → Counts x → (s : SearchSettings) × AreSearchSettings value s
      to (limit, workers) (is_limit, is_workers) = (
        record { limit = limit; workers = workers; in_range = limits_in_range value limit workers is_limit is_workers },
        record { limit = is_limit; workers = is_workers },
      )

      back : (s : SearchSettings) → AreSearchSettings value s → (x : ℕ × ℕ) × Counts x
      back s are = ((s.limit, s.workers), (are.limit, are.workers))

  -- the flags of the report
  abbrev Flags : Bool × Bool → Type 0
  Flags = Both (IsGiven (value (codes "json"))) (IsGiven (value (codes "energies")))

  -- the flags give settings of a report, or give none
  pub some_report : HasSomeOrNone (AreReportSettings value)
  some_report =
      moved Flags (AreReportSettings value) to back
      (both (IsGiven (value (codes "json"))) (IsGiven (value (codes "energies"))) (some_flag (value (codes "json"))) (some_flag (value (codes "energies"))))
    where
      to : (x : Bool × Bool) → Flags x → (r : ReportSettings) × AreReportSettings value r
      to (json, energies) (is_json, is_energies) = (record { json = json; energies = energies }, record { json = is_json; energies = is_energies })

      back : (r : ReportSettings) → AreReportSettings value r → (x : Bool × Bool) × Flags x
      back r are = ((r.json, r.energies), (are.json, are.energies))

  -- the window, and what lists are weighed by
  abbrev Around : ℤ × ℤ → Type 0
  Around = Both (IsOptionNumber window_width (value (codes "window"))) (IsOptionNumber thermal_energy (value (codes "kt")))

  -- the range
  abbrev Ranged : Option DepthRange → Type 0
  Ranged = IsReadWhereGiven AreDepths (value (codes "range"))

  -- the options give these, or give none
  pub some_levels : IsReadOnce → HasSomeOrNone (AreLevelSettings value)
  some_levels once =
      moved (Both Around Ranged) (AreLevelSettings value) to back
      (both Around Ranged
      (both (IsOptionNumber window_width (value (codes "window"))) (IsOptionNumber thermal_energy (value (codes "kt")))
      (some_number readings window_width (value (codes "window"))) (some_number readings thermal_energy (value (codes "kt"))))
      (some_read AreDepths (some_depths readings once) (value (codes "range"))))
    where
      to : (x : (ℤ × ℤ) × Option DepthRange) → Both Around Ranged x → (l : LevelSettings) × AreLevelSettings value l
      to ((width, kt), range) ((is_width, is_kt), is_range) = (
        record {
          window = record { width = width; is_window = window_in_range (value (codes "window")) width is_width };
          range = range;
          kt = kt;
          kt_in_range = number_within thermal_energy (value (codes "kt")) kt (omega (arith, ints)) (omega (arith, ints)) is_kt;
        },
        record { window = is_width; range = is_range; kt = is_kt },
      )

      back : (l : LevelSettings) → AreLevelSettings value l → (x : (ℤ × ℤ) × Option DepthRange) × Both Around Ranged x
      back l are = (((l.window.width, l.kt), l.range), ((are.window, are.kt), are.range))

  -- the numbers of the options of a generated layout
  abbrev Generated : ℕ × ℕ → Type 0
  Generated = Both (λ n. IsOptionNumber generator_number (value (codes "number")) (pos n)) (λ n. IsOptionNumber generated_sites (value (codes "sites")) (pos n))

  -- the options give a generated layout, or give none
  pub some_generated : HasSomeOrNone (AreGeneratedSettings value)
  some_generated =
      moved Generated (AreGeneratedSettings value) to back
      (both (λ n. IsOptionNumber generator_number (value (codes "number")) (pos n)) (λ n. IsOptionNumber generated_sites (value (codes "sites")) (pos n))
      (some_count readings generator_number 0 refl (value (codes "number"))) (some_count readings generated_sites 40 refl (value (codes "sites"))))
    where
      to : (x : ℕ × ℕ) → Generated x → (g : GeneratedSettings) × AreGeneratedSettings value g
      to (number, sites) (is_number, is_sites) = (
        record { number = number; sites = sites; in_range = generated_in_range value number sites is_number is_sites },
        record { number = is_number; sites = is_sites },
      )

      back : (g : GeneratedSettings) → AreGeneratedSettings value g → (x : ℕ × ℕ) × Generated x
      back g are = ((g.number, g.sites), (are.number, are.sites))

  -- the number of the option of tiles
  abbrev Refined : ℕ → Type 0
  Refined n = IsOptionNumber refine_depth (value (codes "refine")) (pos n)

  -- the option gives how finely tiles are cut, or gives none
  pub some_region : HasSomeOrNone (AreRegionSettings value)
  some_region =
      moved Refined (AreRegionSettings value)
      (λ n is. (record { refine = n; in_range = number_within refine_depth (value (codes "refine")) (pos n) (omega (arith, ints)) (omega (arith, ints)) is }, record { refine = is }))
      (λ r are. (r.refine, are.refine)) (some_count readings refine_depth 2 refl (value (codes "refine")))
