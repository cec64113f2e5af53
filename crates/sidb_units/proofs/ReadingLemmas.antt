-- The readings of a text exclude each other.
use Rattle.std.proofs.Common.{ℤ, pos, ◌≤ℤ◌, ◌<ℤ◌, Result, Ok, Err, IfOk, IfErr, ◌≡◌, ◌∙◌, ℕ, ◌+◌, ◌<◌, ◌≤◌, ◌⊎◌, List, [], length, inl, inr, refl, sym, ap, arith}
use Rattle.std.proofs.lemmas.Bool.{cases_lt}
use Rattle.std.proofs.lemmas.Int.{ints}
use Rattle.sidb_units.specs.Numeral.{CanGoOn, IsFirstBad, IsNumeral}
use Rattle.sidb_units.specs.Decimal.{HasDecimalFault, HasTooMany, IsOutside, IsReadAs, places_after_point, decimal_value}
use Rattle.sidb_units.specs.declared.decimal_fault.DecFault.{DecFault}
use Rattle.sidb_units.specs.declared.decimal_fault.DecFault.TheVariants.{Empty, BadByte, TooManyPlaces, OutOfRange}
use Rattle.sidb_units.proofs.NumeralLemmas.{not_point}

not_below : (text : List ℕ) (d w : ℕ) → IsNumeral text d → IsNumeral text w → d < w → ⊥
not_below text d w a b lt = elim a.rest [ inl all ↦ omega (arith, b.within) | inr f ↦ not_point _ (b.whole d lt) f.point ]

one_numeral : (text : List ℕ) (d w : ℕ) → IsNumeral text d → IsNumeral text w → d ≡ w
one_numeral text d w a b = elim (cases_lt d w) [
  | inl lt ↦ absurd (not_below text d w a b lt)
  | inr le ↦ elim (cases_lt w d) [ inl lt ↦ absurd (not_below text w d b a lt) | inr ge ↦ omega arith ]
]

-- a numeral can go on everywhere
goes_on : (text : List ℕ) (w n : ℕ) → IsNumeral text w → n ≤ length text → CanGoOn text n
goes_on text w n numeral le = record { full = text; digits = w; numeral = numeral; long = le; same = λ i h. refl }

shorter : (text : List ℕ) (m n : ℕ) → m ≤ n → CanGoOn text n → CanGoOn text m
shorter text m n le c = record { full = c.full; digits = c.digits; numeral = c.numeral; long = omega (arith, c.long); same = λ i h. c.same i (omega arith) }

not_bad : (text : List ℕ) (w at : ℕ) → IsNumeral text w → IsFirstBad text at → ⊥
not_bad text w at numeral bad = elim bad.here [
  | inl h ↦ h.1 (goes_on text w (at + 1) numeral (omega (arith, h.0)))
  | inr h ↦ h.1 w numeral
]

at_most : (text : List ℕ) (at : ℕ) → IsFirstBad text at → at ≤ length text
at_most text at bad = elim bad.here [ inl h ↦ omega (arith, h.0) | inr h ↦ omega (arith, h.0) ]

not_before : (text : List ℕ) (at to : ℕ) → IsFirstBad text at → IsFirstBad text to → at < to → ⊥
not_before text at to a b lt = elim a.here [
  | inl h ↦ h.1 (shorter text (at + 1) to (omega arith) b.before)
  | inr h ↦ omega (arith, h.0, at_most text to b)
]

one_bad : (text : List ℕ) (at to : ℕ) → IsFirstBad text at → IsFirstBad text to → at ≡ to
one_bad text at to a b = elim (cases_lt at to) [
  | inl lt ↦ absurd (not_before text at to a b lt)
  | inr le ↦ elim (cases_lt to at) [ inl lt ↦ absurd (not_before text to at b a lt) | inr ge ↦ omega arith ]
]

not_empty : (text : List ℕ) (w : ℕ) → IsNumeral text w → text ≡ [] → ⊥
not_empty text w numeral e = let l : length text ≡ 0 = ap length e in omega (arith, numeral.some, numeral.within)

-- the number of a numeral is one
one_value : (text : List ℕ) (d w places : ℕ) → IsNumeral text d → IsNumeral text w → decimal_value text d places ≡ decimal_value text w places
one_value text d w places a b = ap (λ (n : ℕ). decimal_value text n places) (one_numeral text d w a b)

no_many : (text : List ℕ) (d places : ℕ) → IsNumeral text d → places_after_point text d ≤ places → HasTooMany text places → ⊥
no_many text d places numeral few h = let same = one_numeral text d h.digits numeral h.numeral in omega (arith, few, h.many, ap (places_after_point text) same)

not_within : (v w least greatest : ℤ) → v ≡ w → least ≤ℤ v → v ≤ℤ greatest → (w <ℤ least) ⊎ (greatest <ℤ w) → ⊥
not_within v w least greatest e from to (inl low) = omega (arith, ints)
not_within v w least greatest e from to (inr high) = omega (arith, ints)

empty_long : (text : List ℕ) → text ≡ [] → 0 < length text → ⊥
empty_long text e h = let l : length text ≡ 0 = ap length e in omega arith

module _ (text : List ℕ) (places : ℕ) (least greatest : ℤ) where
  pub values : (v w : ℤ) → IsReadAs text places least greatest v → IsReadAs text places least greatest w → v ≡ w
  values v w a b = a.value ∙ ap pos (one_value text a.digits b.digits places a.numeral b.numeral) ∙ sym b.value

  no_outside : (v : ℤ) → IsReadAs text places least greatest v → IsOutside text places least greatest → ⊥
  no_outside v a h = not_within v _ least greatest (a.value ∙ ap pos (one_value text a.digits h.digits places a.numeral h.numeral)) a.from a.to h.outside

  pub faults : (v : ℤ) (e : DecFault) → IsReadAs text places least greatest v → HasDecimalFault text places least greatest e → ⊥
  faults v Empty a h = not_empty text a.digits a.numeral h
  faults v (BadByte at) a h = not_bad text a.digits at a.numeral h.1
  faults v TooManyPlaces a h = no_many text a.digits places a.numeral a.few h
  faults v OutOfRange a h = no_outside v a h

  pub one : (e f : DecFault) → HasDecimalFault text places least greatest e → HasDecimalFault text places least greatest f → e ≡ f
  one Empty Empty a b = refl
  one Empty (BadByte at) a b = absurd (empty_long text a b.0)
  one Empty TooManyPlaces a b = absurd (not_empty text b.digits b.numeral a)
  one Empty OutOfRange a b = absurd (not_empty text b.digits b.numeral a)
  one (BadByte at) Empty a b = absurd (empty_long text b a.0)
  one (BadByte at) (BadByte to) a b = ap BadByte (one_bad text at to a.1 b.1)
  one (BadByte at) TooManyPlaces a b = absurd (not_bad text b.digits at b.numeral a.1)
  one (BadByte at) OutOfRange a b = absurd (not_bad text b.digits at b.numeral a.1)
  one TooManyPlaces Empty a b = absurd (not_empty text a.digits a.numeral b)
  one TooManyPlaces (BadByte at) a b = absurd (not_bad text a.digits at a.numeral b.1)
  one TooManyPlaces TooManyPlaces a b = refl
  one TooManyPlaces OutOfRange a b = absurd (no_many text b.digits places b.numeral b.few a)
  one OutOfRange Empty a b = absurd (not_empty text a.digits a.numeral b)
  one OutOfRange (BadByte at) a b = absurd (not_bad text a.digits at a.numeral b.1)
  one OutOfRange TooManyPlaces a b = absurd (no_many text a.digits places a.numeral a.few b)
  one OutOfRange OutOfRange a b = refl

  -- an answer that is right is the answer
  pub only_value : (r : Result ℤ DecFault) → IfOk r (IsReadAs text places least greatest) → IfErr r (HasDecimalFault text places least greatest) → (v : ℤ) → IsReadAs text places least greatest v → r ≡ Ok v
  only_value (Ok w) ok err v a = ap Ok (values w v ok a)
  only_value (Err e) ok err v a = absurd (faults v e a err)

  pub only_fault : (r : Result ℤ DecFault) → IfOk r (IsReadAs text places least greatest) → IfErr r (HasDecimalFault text places least greatest) → (e : DecFault) → HasDecimalFault text places least greatest e → r ≡ Err e
  only_fault (Ok w) ok err e h = absurd (faults w e ok h)
  only_fault (Err f) ok err e h = ap Err (one f e err h)
