-- the window text: the ground text under a title of its own, which names the window
use Rattle.std.specs.Prelude.{ℕ, ℤ, Bool, List, [], ◌∷◌, codes, decimal}
use Rattle.std.specs.Fmt.{signed_decimal}
use Rattle.charge_model.specs.Problem.{Problem}
use Rattle.charge_model.specs.GroundList.{Entry}
use Rattle.ground_report.specs.declared.about.About.{About}
use Rattle.sim_report.specs.GroundText.{IsTitledText}

-- the first three lines: the kind, the window in 10^-12 V, and how many sites there are
abbrev pub window_title_rows : ℤ → ℕ → List (List (List ℕ))
window_title_rows window sites = (codes "sidb-window" ∷ codes "1" ∷ [])
    ∷ (codes "window" ∷ signed_decimal window ∷ [])
    ∷ (codes "sites" ∷ decimal sites ∷ []) ∷ []

-- the window text, without energies or with them
abbrev pub IsWindowText : About → Problem → ℤ → List Entry → Bool → List ℕ → Type 0
IsWindowText a p window es energies text =
    IsTitledText (window_title_rows window p.sites) a p es energies text
