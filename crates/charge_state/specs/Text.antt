-- the text of a charge list, and where a text breaks its form
use Rattle.std.specs.Prelude.{◌≡◌, ℕ, suc, ◌<◌, ◌≤◌, List, [], ◌∷◌, ◌++◌, length, map, take, Result, Ok, Err}
use Rattle.charge_model.specs.declared.charge.Charge.{Charge}
use Rattle.charge_model.specs.declared.charge.Charge.TheVariants.{Neg, Neutral, Pos}
use Rattle.charge_model.specs.declared.TheConstants.{MAX_SITES}
use Rattle.charge_state.specs.declared.text.ChargeFault.{ChargeFault}
use Rattle.charge_state.specs.declared.text.ChargeFault.TheVariants.{BadByte, TooLong}
use Rattle.charge_state.specs.declared.TheConstants.{MINUS, ZERO, PLUS, POINT}

-- the byte of a charge
abbrev pub byte_of : Charge → ℕ
byte_of Neg = MINUS
byte_of Neutral = ZERO
byte_of Pos = PLUS

-- the text of a list: one byte a charge, site 0 first, and a point alone for the empty list
abbrev pub charges_text : List Charge → List ℕ
charges_text [] = POINT ∷ []
charges_text (c ∷ cs) = byte_of c ∷ map byte_of cs

-- the bytes are the first of the text of some list
abbrev pub BeginsText : List ℕ → Type 0
BeginsText front = (c : List Charge) × (rest : List ℕ) × (charges_text c ≡ front ++ rest)

-- the place of the first byte with which no text of a list goes on,
-- or the length where the text ends too early
pub record BreaksTextAt (text : List ℕ) (at : ℕ) : Type 0 where
  pub within : at ≤ length text
  pub before : BeginsText (take at text)
  pub breaks : at < length text → BeginsText (take (suc at) text) → ⊥
  pub ends : at ≡ length text → (c : List Charge) → text ≡ charges_text c → ⊥

-- the text of a list of too many charges
pub record IsTooLongText (text : List ℕ) : Type 0 where
  pub charges : List Charge
  pub reads : text ≡ charges_text charges
  pub long : MAX_SITES < length charges

-- the text of a list that fits
pub record ReadsCharges (text : List ℕ) (c : List Charge) : Type 0 where
  pub reads : text ≡ charges_text c
  pub fits : length c ≤ MAX_SITES

-- what a text says: a list, or the one fault that it has
abbrev pub IsReading : List ℕ → Result (List Charge) ChargeFault → Type 0
IsReading text (Ok c) = ReadsCharges text c
IsReading text (Err (BadByte at)) = BreaksTextAt text at
IsReading text (Err TooLong) = IsTooLongText text
