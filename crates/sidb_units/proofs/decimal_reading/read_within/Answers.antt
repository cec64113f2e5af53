use Rattle.std.proofs.Common.{◌≡◌, ◌∙◌, ℕ, ◌+◌, ◌-◌, ◌*◌, ◌^◌, ◌<◌, ◌≤◌, ◌⊎◌, length, take, drop, min, fold, sym, ap, IfSome, IfNone, List, pos, ◌<ℤ◌, length-drop, arith, rules, inl, inr}
use Rattle.std.proofs.lemmas.Int.{ints}
use Rattle.sidb_units.specs.Decimal.{HasDecimalFault, IsReadAs, digits_of, next_digit, places_after_point}
use Rattle.sidb_units.specs.Numeral.{IsNumeral}
use Rattle.sidb_units.specs.declared.decimal_fault.DecFault.TheVariants.{OutOfRange}
use Rattle.std.specs.Str.Parse.{digits_value}
use Rattle.sidb_units.proofs.DigitLemmas.{fold_is, only_digits}
use Rattle.sidb_units.proofs.ValueLemmas.{cap, joined, uncapped, outside, either_end, tail_is}
use Rattle.sidb_units.proofs.decimal_reading.read_within.Goals as goal

-- a number outside the range is outside with its sign
signed : (n least greatest : ℕ) → (n < least) ⊎ (greatest < n) → (pos n <ℤ pos least) ⊎ (pos greatest <ℤ pos n)
signed n least greatest (inl low) = inl (omega (arith, ints))
signed n least greatest (inr high) = inr (omega (arith, ints))

pub returns : goal.returns
returns c =
    let text : List ℕ = c.args.text.now in
    let whole : ℕ = c.in_ok-whole.whole in
    let numeral : IsNumeral text whole = c.in_ok-whole.ensures.ok in
    let least : ℕ = c.args.least in
    let greatest : ℕ = c.args.greatest in
    let from : ℕ = c.min.result in
    let fraction : List ℕ = drop (whole + 1) text in
    let value : ℕ = c.more_digits-value.result in
    let number : ℕ = digits_value 10 (digits_of text whole) in
    let tail : take (length text - from) (drop from text) ≡ fraction = tail_is text from whole (search rules) in
    let first : c.more_digits.result ≡ min (fold next_digit 0 (take whole text)) cap = search rules in
    let second : value ≡ min (fold next_digit c.more_digits.result fraction) cap = c.more_digits-value.ensures ∙ ap (λ (digits : List ℕ). min (fold next_digit c.more_digits.result digits) cap) tail in
    let is : value ≡ min number cap = joined (take whole text) fraction c.more_digits.result value first second ∙ ap (λ (n : ℕ). min n cap) (fold_is (digits_of text whole) 0 (only_digits text whole numeral)) in
    let places : length (take (length text - from) (drop from text)) ≡ places_after_point text whole = ap length tail ∙ simp length-drop (omega arith) in
    let shift : ℕ = c.args.places - places_after_point text whole in
    let few : places_after_point text whole ≤ c.args.places = omega arith in
    let IsRead : ℕ → Type 0 = λ v. IsReadAs text c.args.places (pos least) (pos greatest) (pos v) in
    let Inside : ℕ → Type 0 = λ v. (v ≡ value * 10 ^ shift) × (least ≤ v) × (v ≤ greatest) in
    let Outside : Type 0 = (value * 10 ^ shift < least) ⊎ (greatest < value * 10 ^ shift) in
    let some : IfSome c.in_range.result Inside = rw (← places) c.in_range.ensures.some in
    let none : IfNone c.in_range.result Outside = rw (← places) c.in_range.ensures.none in
    let read : (v : ℕ) → Inside v → IsRead v = λ v inside. record {
      digits = whole;
      numeral = numeral;
      few = few;
      value = ap pos (inside.0 ∙ sym (uncapped number value shift is (omega (arith, inside.0, inside.2))));
      from = omega (arith, ints, inside.1);
      to = omega (arith, ints, inside.2);
    } in
    let refused : Outside → HasDecimalFault text c.args.places (pos least) (pos greatest) OutOfRange = λ beyond. record {
      digits = whole;
      numeral = numeral;
      few = few;
      outside = signed _ _ _ (outside number value shift least greatest is (omega arith) (omega arith) beyond);
    } in
    let ends = either_end c.in_range.result c.ok_or.result OutOfRange Inside IsRead Outside (HasDecimalFault text c.args.places (pos least) (pos greatest)) c.ok_or.ensures.value some none read refused in
    record { ok = ends.0; err = ends.1 }
