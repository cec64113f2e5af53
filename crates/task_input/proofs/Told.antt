-- what is told of an input
use Rattle.std.proofs.Common.{◌≡◌, ◌≢◌, ◌∙◌, sym, ap, refl, subst, ℕ, List, Some, None}
use Rattle.charge_model.specs.Problem.{Problem}
use Rattle.sidb_layout.specs.Layout.{Arrangement, IsLayout}
use Rattle.model_params.specs.declared.params.Params.{Params}
use Rattle.screened_coulomb.specs.Layouts.{HoldsDistances}
use Rattle.command_words.specs.declared.settings.Settings.{Settings}
use Rattle.command_words.specs.declared.settings.InputForm.{InputForm}
use Rattle.command_words.specs.declared.settings.InputForm.TheVariants.{Sites as SitesForm, Sqd as SqdForm, Table as TableForm}
use Rattle.ground_report.specs.declared.about.About.{About}
use Rattle.task_input.specs.Input.{HoldsDistancesBy, IsInput, Means}

same_layout : (a b : Arrangement) → Some a ≡ Some b → a ≡ b
same_layout a b e = cc e

no_layout : (b : Arrangement) → None ≡ Some b → ⊥
no_layout b e = cc e

held_in : (form : InputForm) (params : Params) (bytes : List ℕ) (p : Problem) (a : About) (layout : Arrangement) → Means form params bytes p a → a.layout ≡ Some layout → HoldsDistances layout params p
held_in SitesForm params bytes p a layout means told =
    let same = same_layout means.layout layout (sym (ap (λ b. b.layout) means.told) ∙ told) in
    subst (λ (l : Arrangement). HoldsDistances l params p) same means.gives.holds
held_in SqdForm params bytes p a layout means told =
    let same = same_layout means.layout layout (sym (ap (λ b. b.layout) means.told) ∙ told) in
    subst (λ (l : Arrangement). HoldsDistances l params p) same means.gives.holds
held_in TableForm params bytes p a layout means told = absurd (no_layout layout (sym (ap (λ b. b.layout) means.told) ∙ told))

pub distances_held : (s : Settings) (bytes : List ℕ) (p : Problem) (a : About) (layout : Arrangement) → IsInput s bytes p a → a.layout ≡ Some layout → HoldsDistancesBy s layout p
distances_held s bytes p a layout is told = held_in s.form s.params bytes p a layout is.means told

layout_in : (form : InputForm) (params : Params) (bytes : List ℕ) (p : Problem) (a : About) → Means form params bytes p a → form ≢ TableForm → (layout : Arrangement) × (a.layout ≡ Some layout)
layout_in SitesForm params bytes p a means drawn = (means.layout, ap (λ (b : About). b.layout) means.told)
layout_in SqdForm params bytes p a means drawn = (means.layout, ap (λ (b : About). b.layout) means.told)
layout_in TableForm params bytes p a means drawn = absurd (drawn refl)

pub layout_there : (s : Settings) (bytes : List ℕ) (p : Problem) (a : About) → IsInput s bytes p a → s.form ≢ TableForm → (layout : Arrangement) × (a.layout ≡ Some layout)
layout_there s bytes p a is drawn = layout_in s.form s.params bytes p a is.means drawn

one_in : (form : InputForm) (params : Params) (bytes : List ℕ) (p : Problem) (a : About) (layout : Arrangement) → Means form params bytes p a → a.layout ≡ Some layout → IsLayout layout
one_in SitesForm params bytes p a layout means told =
    subst IsLayout (same_layout means.layout layout (sym (ap (λ b. b.layout) means.told) ∙ told)) means.text.layout.made.layout
one_in SqdForm params bytes p a layout means told =
    subst IsLayout (same_layout means.layout layout (sym (ap (λ b. b.layout) means.told) ∙ told)) means.text.made.layout
one_in TableForm params bytes p a layout means told = absurd (no_layout layout (sym (ap (λ b. b.layout) means.told) ∙ told))

pub layout_is_one : (s : Settings) (bytes : List ℕ) (p : Problem) (a : About) (layout : Arrangement) → IsInput s bytes p a → a.layout ≡ Some layout → IsLayout layout
layout_is_one s bytes p a layout is told = one_in s.form s.params bytes p a layout is.means told
