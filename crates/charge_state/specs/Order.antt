-- the next charge, and going through all charge lists
use Rattle.std.specs.Prelude.{◌≡◌, ℕ, Option, Some, None, ◌==◌, if◌then◌else◌, List, [], ◌∷◌, length, replicate, All, AllPairs, Contains}
use Rattle.charge_model.specs.declared.charge.Charge.{Charge}
use Rattle.charge_model.specs.declared.charge.Charge.TheVariants.{Neg, Neutral, Pos}
use Rattle.charge_model.specs.Charges.{IsOfBase, IsBefore, IsNext, IsLast}

-- the charge one higher, where the base has one
abbrev pub successor_of : ℕ → Charge → Option Charge
successor_of base Neg = Some Neutral
successor_of base Neutral = if base == 2 then None else Some Pos
successor_of base Pos = None

-- each list is the next of the one before it, from this one on, and the last has none
abbrev pub GoesOnFrom : ℕ → List Charge → List (List Charge) → Type 0
GoesOnFrom base c [] = IsLast base c
GoesOnFrom base c (d ∷ rest) = IsNext base c d × GoesOnFrom base d rest

-- from n times Neg on by next lists, until there is none
abbrev pub IsRun : ℕ → ℕ → List (List Charge) → Type 0
IsRun base n [] = ⊥
IsRun base n (c ∷ rest) = (c ≡ replicate n Neg) × GoesOnFrom base c rest

-- a list of n charges of the base
pub record IsListOf (base n : ℕ) (c : List Charge) : Type 0 where
  pub whole : length c ≡ n
  pub of_base : IsOfBase base c

-- all lists of n charges of the base, in order, so that each stands once
pub record HoldsEach (base n : ℕ) (lists : List (List Charge)) : Type 0 where
  pub in_order : AllPairs IsBefore lists
  pub only : All (IsListOf base n) lists
  pub each : (c : List Charge) → IsListOf base n c → Contains lists c
