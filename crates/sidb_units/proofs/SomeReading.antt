-- Each text has a reading.
use Rattle.std.proofs.Common.{◌≡◌, ℕ, ℤ, pos, zero, suc, ◌+◌, ◌-◌, ◌<◌, ◌≤◌, ◌⊎◌, List, [], ◌∷◌, length, slice_index, refl, subst, arith, inl, inr}
use Rattle.std.proofs.lemmas.Bool.{cases_lt, cases_eq}
use Rattle.std.proofs.lemmas.Int.{by_lt_z}
use Rattle.sidb_units.specs.declared.decimal_fault.DecFault.{DecFault}
use Rattle.sidb_units.specs.declared.decimal_fault.DecFault.TheVariants.{Empty, BadByte, TooManyPlaces, OutOfRange}
use Rattle.sidb_units.specs.Numeral.{CanGoOn, IsDigit, IsFirstBad, IsNumeral}
use Rattle.sidb_units.specs.Decimal.{HasDecimalFault, IsBadForm, IsReadAs, places_after_point, decimal_value}
use Rattle.sidb_units.proofs.NumeralLemmas.{can_start, can_digits, can_point, can_fraction, no_start, no_digits, no_fraction, no_end}

decide_digit : (byte : ℕ) → IsDigit byte ⊎ ¬ IsDigit byte
decide_digit byte = elim (cases_lt byte 48) [
  | inl low ↦ inr (λ digit. omega (arith, digit.from))
  | inr from ↦ elim (cases_lt 57 byte) [
    | inl high ↦ inr (λ digit. omega (arith, digit.to))
    | inr to ↦ inl (record { from = from; to = to })
  ]
]

-- the digits that stand from a place on
record Run (text : List ℕ) (from : ℕ) : Type 0 where
  at : ℕ
  above : from ≤ at
  within : at ≤ length text
  digits : (i : ℕ) → from ≤ i → i < at → IsDigit (slice_index text i)
  stops : at < length text → ¬ IsDigit (slice_index text at)

no_more : (text : List ℕ) (from : ℕ) → from ≤ length text → (from < length text → ¬ IsDigit (slice_index text from)) → Run text from
no_more text from within stops = record { at = from; above = omega arith; within = within; digits = λ i above below. absurd (omega arith); stops = stops }

one_more : (text : List ℕ) (from : ℕ) → IsDigit (slice_index text from) → Run text (from + 1) → Run text from
one_more text from digit run = record {
  at = run.at;
  above = omega (arith, run.above);
  within = run.within;
  digits = λ i above below. elim (cases_lt from i) [
    | inl later ↦ run.digits i (omega arith) below
    | inr first ↦ let here : from ≡ i = omega arith in subst (λ (n : ℕ). IsDigit (slice_index text n)) here digit
  ];
  stops = run.stops;
}

run_from : (text : List ℕ) (from left : ℕ) → from + left ≡ length text → Run text from
run_from text from zero end = no_more text from (omega arith) (λ below. absurd (omega arith))
run_from text from (suc left) end = elim (decide_digit (slice_index text from)) [
  | inl digit ↦ one_more text from digit (run_from text (from + 1) left (omega arith))
  | inr none ↦ no_more text from (omega arith) (λ below. none)
]

-- a text is a numeral, or has a fault of its form
abbrev Form : List ℕ → Type 0
Form text = ((w : ℕ) × IsNumeral text w) ⊎ ((e : DecFault) × IsBadForm text e)

bad_byte : (text : List ℕ) (at : ℕ) → 0 < length text → IsFirstBad text at → Form text
bad_byte text at some bad = inr (BadByte at, (some, bad))

-- a text with a whole part of w digits and a point
after_point : (text : List ℕ) (w : ℕ) → 0 < w → w < length text → ((i : ℕ) → i < w → IsDigit (slice_index text i)) → slice_index text w ≡ 46 → Run text (w + 1) → Form text
after_point text w some more whole point run =
    let above : w + 1 ≤ run.at = run.above in
    let within : run.at ≤ length text = run.within in
    elim (cases_lt run.at (length text)) [
      | inl stopped ↦ bad_byte text run.at (omega arith) (record {
        before = before;
        here = inl (stopped, no_fraction text w run.at (omega arith) whole point (run.stops stopped));
      })
      | inr end ↦ elim (cases_lt (w + 1) (length text)) [
        | inl longer ↦ inl (
          w,
          record {
            some = some;
            within = omega arith;
            whole = whole;
            rest = inr (record { point = point; some = longer; digits = λ i later below. run.digits i (omega arith) (omega arith) });
          },
        )
        | inr short ↦ bad_byte text run.at (omega arith) (record { before = before; here = inr (omega arith, no_end text w (omega arith) whole point) })
      ]
    ]
  where
    before : CanGoOn text run.at
    before = elim (cases_lt (w + 1) run.at) [
      | inl longer ↦ can_fraction text w run.at some longer run.within whole point (λ i above below. run.digits i (omega arith) below)
      | inr none ↦
          let above : w + 1 ≤ run.at = run.above in
          let same : w + 1 ≡ run.at = omega arith in
          subst (λ (n : ℕ). CanGoOn text n) same (can_point text w some more whole point)
    ]

-- a text that begins with w digits
after_whole : (text : List ℕ) (w : ℕ) → 0 < w → w < length text → ((i : ℕ) → i < w → IsDigit (slice_index text i)) → ¬ IsDigit (slice_index text w) → Form text
after_whole text w some more whole stops = elim (cases_eq (slice_index text w) 46) [
  | inl point ↦ after_point text w some more whole point (run_from text (w + 1) (length text - (w + 1)) (omega arith))
  | inr other ↦ bad_byte text w (omega arith) (record {
    before = can_digits text w some (omega arith) whole;
    here = inl (more, no_digits text w whole stops other);
  })
]

after_start : (text : List ℕ) → 0 < length text → Run text 0 → Form text
after_start text some run =
    let within : run.at ≤ length text = run.within in
    let whole : (i : ℕ) → i < run.at → IsDigit (slice_index text i) = λ i below. run.digits i (omega arith) below in
    elim (cases_lt 0 run.at) [
      | inl digits ↦ elim (cases_lt run.at (length text)) [
        | inl more ↦ after_whole text run.at digits more whole (run.stops more)
        | inr end ↦ inl (run.at, record { some = digits; within = within; whole = whole; rest = inl (omega arith) })
      ]
      | inr none ↦
          let at : run.at ≡ 0 = omega arith in
          let stops : ¬ IsDigit (slice_index text 0) = subst (λ (n : ℕ). ¬ IsDigit (slice_index text n)) at (run.stops (omega arith)) in
          bad_byte text 0 some (record { before = can_start text; here = inl (some, no_start text stops) })
    ]

form_of : (text : List ℕ) → Form text
form_of [] = inr (Empty, refl)
form_of (b ∷ text) = after_start (b ∷ text) (omega arith) (run_from (b ∷ text) 0 (length (b ∷ text)) (omega arith))

-- a text is read as a number, or has a fault
abbrev pub Reading : List ℕ → ℕ → ℤ → ℤ → Type 0
Reading text places least greatest = ((v : ℤ) × IsReadAs text places least greatest v) ⊎ ((e : DecFault) × HasDecimalFault text places least greatest e)

of_form : (text : List ℕ) (places : ℕ) (least greatest : ℤ) (e : DecFault) → IsBadForm text e → HasDecimalFault text places least greatest e
of_form text places least greatest Empty bad = bad
of_form text places least greatest (BadByte at) bad = bad
of_form text places least greatest TooManyPlaces bad = absurd bad
of_form text places least greatest OutOfRange bad = absurd bad

of_numeral : (text : List ℕ) (places : ℕ) (least greatest : ℤ) (w : ℕ) → IsNumeral text w → Reading text places least greatest
of_numeral text places least greatest w numeral = elim (cases_lt places (places_after_point text w)) [
  | inl many ↦ inr (TooManyPlaces, record { digits = w; numeral = numeral; many = many })
  | inr few ↦
      by_lt_z number least
      (λ low. inr (OutOfRange, record { digits = w; numeral = numeral; few = few; outside = inl low }))
      (λ from. by_lt_z greatest number
      (λ high. inr (OutOfRange, record { digits = w; numeral = numeral; few = few; outside = inr high }))
      (λ to. inl (number, record { digits = w; numeral = numeral; few = few; value = refl; from = from; to = to })))
] where
  number : ℤ
  number = pos (decimal_value text w places)

pub some_reading : (text : List ℕ) (places : ℕ) (least greatest : ℤ) → Reading text places least greatest
some_reading text places least greatest = elim (form_of text) [
  | inl numeral ↦ of_numeral text places least greatest numeral.0 numeral.1
  | inr bad ↦ inr (bad.0, of_form text places least greatest bad.0 bad.1)
]
