-- rows of words that are no line
use Rattle.std.proofs.Common.{◌≡◌, ℕ, List, [], ◌∷◌, map, length, None, refl, arith}
use Rattle.sites_layout.specs.SitesLines.{content_from}

-- behind the first word stand two, four or six words
pub no_line : {X : Type 0} (word_of : X → List ℕ) (first : List ℕ) (rest : List X)
    → (length rest ≡ 2 → ⊥) → (length rest ≡ 4 → ⊥) → (length rest ≡ 6 → ⊥)
    → None ≡ content_from first (map word_of rest)
no_line f w [] two four six = refl
no_line f w (a ∷ []) two four six = refl
no_line f w (a ∷ b ∷ []) two four six = absurd (two (omega arith))
no_line f w (a ∷ b ∷ c ∷ []) two four six = refl
no_line f w (a ∷ b ∷ c ∷ d ∷ []) two four six = absurd (four (omega arith))
no_line f w (a ∷ b ∷ c ∷ d ∷ e ∷ []) two four six = refl
no_line f w (a ∷ b ∷ c ∷ d ∷ e ∷ g ∷ []) two four six = absurd (six (omega arith))
no_line f w (a ∷ b ∷ c ∷ d ∷ e ∷ g ∷ h ∷ more) two four six = refl
