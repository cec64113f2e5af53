-- an option has one meaning, and so have the words
use Rattle.std.proofs.Common.{◌≡◌, ◌∙◌, sym, ap, subst, refl, inl, inr, ℕ, ℤ, pos, Option, None, Some, Bool, true, false, codes, arith, slice_index_or}
use Rattle.clap.specs.Walk.{Text}
use Rattle.std.proofs.Props.{props}
use Rattle.window_model.specs.declared.window.Window.{Window}
use Rattle.window_model.specs.Windows.{IsWindow}
use Rattle.model_params.specs.declared.params.Params.{Params}
use Rattle.model_params.specs.declared.quantity.Quantity.{Quantity}
use Rattle.model_params.specs.Quantities.{IsInRangeOf, coulomb_number, level_depth, level_gap, permittivity, screening_length}
use Rattle.command_words.specs.declared.settings.DepthRange.{DepthRange}
use Rattle.command_words.specs.Depths.{AreDepths}
use Rattle.command_words.specs.declared.gate_settings.GateSettings.{GateSettings}
use Rattle.command_words.specs.declared.settings.Settings.{Settings}
use Rattle.command_words.specs.declared.settings.SearchSettings.{SearchSettings}
use Rattle.command_words.specs.declared.settings.GeneratedSettings.{GeneratedSettings}
use Rattle.command_words.specs.declared.settings.LevelSettings.{LevelSettings}
use Rattle.command_words.specs.declared.settings.RegionSettings.{RegionSettings}
use Rattle.command_words.specs.declared.settings.ReportSettings.{ReportSettings}
use Rattle.command_words.specs.declared.settings.Task.{Task}
use Rattle.command_words.specs.declared.settings.InputForm.{InputForm}
use Rattle.command_words.specs.Limits.{AreGeneratedNumbers, AreSearchLimits, generated_sites, generator_number, node_limit, refine_depth, thermal_energy, window_width, worker_count}
use Rattle.command_words.specs.Options.{IsBase, IsGiven, IsOptionNumber}
use Rattle.command_words.specs.Settings.{AreGeneratedSettings, AreGroups, AreLevelSettings, AreParams, AreRegionSettings, AreReportSettings, AreSearchSettings}
use Rattle.command_words.proofs.Readings.{IsReadOnce, one_read}
use Rattle.command_words.proofs.DepthLemmas.{one_depths}
use Rattle.command_words.proofs.GateLemmas.{AreGatesOnce, one_gate}
use Rattle.command_words.proofs.Choices.{one_form, one_task}

-- parameters are given by their numbers
abbrev pub AreGivenByNumbers : Type 0
AreGivenByNumbers = (p q : Params) → p.coulomb ≡ q.coulomb → p.eps ≡ q.eps → p.lam ≡ q.lam → p.depth ≡ q.depth → p.gap ≡ q.gap → p.base ≡ q.base → p ≡ q

one_number : IsReadOnce → (q : Quantity) (given : Option Text) (v w : ℤ) → IsOptionNumber q given v → IsOptionNumber q given w → v ≡ w
one_number once q None v w e f = e ∙ sym f
one_number once q (Some text) v w e f = once text q.places q.least q.greatest v w e f

-- `2` is not `3`
two_is_not_three : (text : Text) → text ≡ codes "2" → text ≡ codes "3" → ⊥
two_is_not_three text e f = let first : ◌≡◌ {A = ℕ} 50 51 = ap (λ t. slice_index_or t 0 0) (sym e ∙ f) in absurd (omega (arith, first))

one_base : (given : Option Text) (a b : ℕ) → IsBase given a → IsBase given b → a ≡ b
one_base None a b e f = e ∙ sym f
one_base (Some text) a b (inl e) (inl f) = e.1 ∙ sym f.1
one_base (Some text) a b (inl e) (inr f) = absurd (two_is_not_three text e.0 f.0)
one_base (Some text) a b (inr e) (inl f) = absurd (two_is_not_three text f.0 e.0)
one_base (Some text) a b (inr e) (inr f) = e.1 ∙ sym f.1

-- a flag is given, or is not
one_flag : (told : Option Text) (a b : Bool) → IsGiven told a → IsGiven told b → a ≡ b
one_flag told true true e f = refl
one_flag told false false e f = refl
one_flag told true false e f = let both : ◌≡◌ {A = Bool} false true = f.1 (e.0 refl) in absurd (cc)
one_flag told false true e f = let both : ◌≡◌ {A = Bool} false true = e.1 (f.0 refl) in absurd (cc)

-- the parameters have one meaning
one_params : IsReadOnce → AreGivenByNumbers → (value : Text → Option Text) (p q : Params) → AreParams value p → AreParams value q → p ≡ q
one_params once given value p q a b =
    given p q
    (one_number once coulomb_number (value (codes "coulomb")) p.coulomb q.coulomb a.coulomb b.coulomb)
    (one_number once permittivity (value (codes "eps")) p.eps q.eps a.eps b.eps)
    (one_number once screening_length (value (codes "lambda")) p.lam q.lam a.lam b.lam)
    (one_number once level_depth (value (codes "depth")) p.depth q.depth a.depth b.depth)
    (one_number once level_gap (value (codes "gap")) p.gap q.gap a.gap b.gap)
    (one_base (value (codes "base")) p.base q.base a.base b.base)

-- there is one proof that the limits of a search are in range
one_range : (limit workers : ℕ) (a b : AreSearchLimits limit workers) → a ≡ b
one_range limit workers = hlevel props

-- limits of a search are given by their numbers
same_limits : (n m : ℕ) (s t : SearchSettings) → n ≡ s.limit → m ≡ s.workers → n ≡ t.limit → m ≡ t.workers → s ≡ t
same_limits n m s t limit workers also too =
    let one : s.limit ≡ t.limit = sym limit ∙ also in
    let other : s.workers ≡ t.workers = sym workers ∙ too in
    made_same s.limit t.limit s.workers t.workers one other s.in_range t.in_range
  where
    made : (limit workers : ℕ) → AreSearchLimits limit workers → SearchSettings
    made limit workers within = record { limit = limit; workers = workers; in_range = within }

    made_same : (a b c d : ℕ) → a ≡ b → c ≡ d → (x : AreSearchLimits a c) (y : AreSearchLimits b d) → made a c x ≡ made b d y
    made_same a b c d first second =
        subst (λ (e : ℕ). (x : AreSearchLimits a c) (y : AreSearchLimits e d) → made a c x ≡ made e d y) first
        (subst (λ (e : ℕ). (x : AreSearchLimits a c) (y : AreSearchLimits a e) → made a c x ≡ made a e y) second
        (λ x y. ap (made a c) (one_range a c x y)))

-- the limits of a search have one meaning
one_search : IsReadOnce → (value : Text → Option Text) (s t : SearchSettings) → AreSearchSettings value s → AreSearchSettings value t → s ≡ t
one_search once value s t a b =
    let limits : pos s.limit ≡ pos t.limit = one_number once node_limit (value (codes "limit")) (pos s.limit) (pos t.limit) a.limit b.limit in
    let counts : pos s.workers ≡ pos t.workers = one_number once worker_count (value (codes "workers")) (pos s.workers) (pos t.workers) a.workers b.workers in
    let limit : s.limit ≡ t.limit = cc in
    let workers : s.workers ≡ t.workers = cc in
    same_limits s.limit s.workers s t refl refl limit workers

-- settings of a report are given by their flags
same_report : (a b c d : Bool) → a ≡ b → c ≡ d → ◌≡◌ {A = ReportSettings} (record { json = a; energies = c }) (record { json = b; energies = d })
same_report a b c d json energies = cc

-- there is one proof that a width is in range
one_width : (width : ℤ) (a b : IsWindow width) → a ≡ b
one_width width = hlevel props

-- a window is given by its width
one_window : (v w : Window) → v.width ≡ w.width → v ≡ w
one_window v w same = by v.width w.width same v.is_window w.is_window
  where
    made : (width : ℤ) → IsWindow width → Window
    made width is = record { width = width; is_window = is }

    by : (a b : ℤ) → a ≡ b → (x : IsWindow a) (y : IsWindow b) → made a x ≡ made b y
    by a b same = subst (λ (e : ℤ). (x : IsWindow a) (y : IsWindow e) → made a x ≡ made e y) same (λ x y. ap (made a) (one_width a x y))

-- there is one proof that a thermal energy is in range
one_kt_range : (kt : ℤ) (a b : IsInRangeOf thermal_energy kt) → a ≡ b
one_kt_range kt = hlevel props

-- the levels of a search have one meaning
one_level : IsReadOnce → (value : Text → Option Text) (l m : LevelSettings) → AreLevelSettings value l → AreLevelSettings value m → l ≡ m
one_level once value l m a b =
    same l.window m.window l.range m.range l.kt m.kt
    (one_window l.window m.window (one_number once window_width (value (codes "window")) l.window.width m.window.width a.window b.window))
    (one_read AreDepths (one_depths once) (value (codes "range")) l.range m.range a.range b.range)
    (one_number once thermal_energy (value (codes "kt")) l.kt m.kt a.kt b.kt) l.kt_in_range m.kt_in_range
  where
    made : (window : Window) (range : Option DepthRange) (kt : ℤ) → IsInRangeOf thermal_energy kt → LevelSettings
    made window range kt within = record { window = window; range = range; kt = kt; kt_in_range = within }

    same : (v w : Window) (r s : Option DepthRange) (a b : ℤ) → v ≡ w → r ≡ s → a ≡ b → (x : IsInRangeOf thermal_energy a) (y : IsInRangeOf thermal_energy b) → made v r a x ≡ made w s b y
    same v w r s a b first second third =
        subst (λ (u : Window). (x : IsInRangeOf thermal_energy a) (y : IsInRangeOf thermal_energy b) → made v r a x ≡ made u s b y) first
        (subst (λ (u : Option DepthRange). (x : IsInRangeOf thermal_energy a) (y : IsInRangeOf thermal_energy b) → made v r a x ≡ made v u b y) second
        (subst (λ (e : ℤ). (x : IsInRangeOf thermal_energy a) (y : IsInRangeOf thermal_energy e) → made v r a x ≡ made v r e y) third
        (λ x y. ap (made v r a) (one_kt_range a x y))))

-- there is one proof that the numbers of a generated layout are in range
one_generated_range : (number sites : ℕ) (a b : AreGeneratedNumbers number sites) → a ≡ b
one_generated_range number sites = hlevel props

-- a generated layout has one meaning
one_generated : IsReadOnce → (value : Text → Option Text) (g h : GeneratedSettings) → AreGeneratedSettings value g → AreGeneratedSettings value h → g ≡ h
one_generated once value g h a b =
    let numbers : pos g.number ≡ pos h.number = one_number once generator_number (value (codes "number")) (pos g.number) (pos h.number) a.number b.number in
    let counts : pos g.sites ≡ pos h.sites = one_number once generated_sites (value (codes "sites")) (pos g.sites) (pos h.sites) a.sites b.sites in
    let number : g.number ≡ h.number = cc in
    let sites : g.sites ≡ h.sites = cc in
    same g.number h.number g.sites h.sites number sites g.in_range h.in_range
  where
    made : (number sites : ℕ) → AreGeneratedNumbers number sites → GeneratedSettings
    made number sites within = record { number = number; sites = sites; in_range = within }

    same : (a b c d : ℕ) → a ≡ b → c ≡ d → (x : AreGeneratedNumbers a c) (y : AreGeneratedNumbers b d) → made a c x ≡ made b d y
    same a b c d first second =
        subst (λ (e : ℕ). (x : AreGeneratedNumbers a c) (y : AreGeneratedNumbers e d) → made a c x ≡ made e d y) first
        (subst (λ (e : ℕ). (x : AreGeneratedNumbers a c) (y : AreGeneratedNumbers a e) → made a c x ≡ made a e y) second
        (λ x y. ap (made a c) (one_generated_range a c x y)))

-- there is one proof that a depth of refinement is in range
one_refine_range : (refine : ℕ) (a b : IsInRangeOf refine_depth (pos refine)) → a ≡ b
one_refine_range refine = hlevel props

-- how finely tiles are cut has one meaning
one_region : IsReadOnce → (value : Text → Option Text) (r t : RegionSettings) → AreRegionSettings value r → AreRegionSettings value t → r ≡ t
one_region once value r t a b =
    let depths : pos r.refine ≡ pos t.refine = one_number once refine_depth (value (codes "refine")) (pos r.refine) (pos t.refine) a.refine b.refine in
    let refine : r.refine ≡ t.refine = cc in
    same r.refine t.refine refine r.in_range t.in_range
  where
    made : (refine : ℕ) → IsInRangeOf refine_depth (pos refine) → RegionSettings
    made refine within = record { refine = refine; in_range = within }

    same : (a b : ℕ) → a ≡ b → (x : IsInRangeOf refine_depth (pos a)) (y : IsInRangeOf refine_depth (pos b)) → made a x ≡ made b y
    same a b first = subst (λ (e : ℕ). (x : IsInRangeOf refine_depth (pos a)) (y : IsInRangeOf refine_depth (pos e)) → made a x ≡ made e y) first (λ x y. ap (made a) (one_refine_range a x y))

-- the settings of a report have one meaning
one_report : (value : Text → Option Text) (r t : ReportSettings) → AreReportSettings value r → AreReportSettings value t → r ≡ t
one_report value r t a b =
    same_report r.json t.json r.energies t.energies
    (one_flag (value (codes "json")) r.json t.json a.json b.json)
    (one_flag (value (codes "energies")) r.energies t.energies a.energies b.energies)

-- settings are given by their groups
same_settings : (t u : Task) (f h : InputForm) (p q : Params) (s r : SearchSettings) (m n : ReportSettings) (l k : LevelSettings) (x y : GateSettings) (g i : GeneratedSettings) (c d : RegionSettings)
    → t ≡ u → f ≡ h → p ≡ q → s ≡ r → m ≡ n → l ≡ k → x ≡ y → g ≡ i → c ≡ d
    → ◌≡◌ {A = Settings} (record { task = t; form = f; params = p; search = s; report = m; levels = l; gate = x; generated = g; region = c }) (record { task = u; form = h; params = q; search = r; report = n; levels = k; gate = y; generated = i; region = d })
same_settings t u f h p q s r m n l k x y g i c d task form params search report levels gate generated region = cc

pub one_settings : IsReadOnce → AreGivenByNumbers → AreGatesOnce → (value : Text → Option Text) (a b : Settings) → AreGroups value a → AreGroups value b → a ≡ b
one_settings once given gates value a b e f =
    same_settings a.task b.task a.form b.form a.params b.params a.search b.search a.report b.report a.levels b.levels a.gate b.gate a.generated b.generated a.region b.region
    (one_task (value (codes "task")) a.task b.task e.task f.task)
    (one_form (value (codes "form")) a.form b.form e.form f.form)
    (one_params once given value a.params b.params e.params f.params)
    (one_search once value a.search b.search e.search f.search)
    (one_report value a.report b.report e.report f.report)
    (one_level once value a.levels b.levels e.levels f.levels)
    (one_gate gates (value (codes "input")) (value (codes "output")) (value (codes "function")) (value (codes "grid")) a.gate b.gate e.gate f.gate)
    (one_generated once value a.generated b.generated e.generated f.generated)
    (one_region once value a.region b.region e.region f.region)
