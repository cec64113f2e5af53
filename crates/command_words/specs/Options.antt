-- what the text of one option means
use Rattle.std.specs.Prelude.{◌≡◌, ◌⊎◌, ℕ, ℤ, ◌↔◌, Option, Some, None, Bool, IsTrue, codes, option_map, ⊤}
use Rattle.std.specs.Borrow.{Bor}
use Rattle.clap.specs.Walk.{Text}
use Rattle.sidb_units.specs.Decimal.{IsReadAs}
use Rattle.model_params.specs.declared.quantity.Quantity.{Quantity}

-- the text that a borrowed text is
abbrev pub borrowed_text : Option (Bor Text) → Option Text
borrowed_text = option_map (λ text. text.now)

-- the choice that a name makes; without a name it is the preset one
abbrev pub IsChoice : {A : Type 0} → (A → Text) → A → Option Text → A → Type 0
IsChoice name_of preset None choice = choice ≡ preset
IsChoice name_of preset (Some text) choice = text ≡ name_of choice

-- the base is 2 or 3, as the text says literally; without a text it is 3
abbrev pub IsBase : Option Text → ℕ → Type 0
IsBase None base = base ≡ 3
IsBase (Some text) base = ((text ≡ codes "2") × (base ≡ 2)) ⊎ ((text ≡ codes "3") × (base ≡ 3))

-- a flag is given where its text is `true`
abbrev pub IsGiven : Option Text → Bool → Type 0
IsGiven told given = IsTrue given ↔ (told ≡ Some (codes "true"))

-- a text is read, and without a text there is nothing
abbrev pub IsReadWhereGiven : {A : Type 0} → (Text → A → Type 0) → Option Text → Option A → Type 0
IsReadWhereGiven IsIt None None = ⊤
IsReadWhereGiven IsIt (Some text) (Some a) = IsIt text a
IsReadWhereGiven IsIt _ _ = ⊥

-- the number that a decimal gives, times 10 ^ places; without a text it is the preset one
abbrev pub IsOptionNumber : Quantity → Option Text → ℤ → Type 0
IsOptionNumber q None v = v ≡ q.preset
IsOptionNumber q (Some text) v = IsReadAs text q.places q.least q.greatest v
