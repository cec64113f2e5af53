use Rattle.std.proofs.Common.{◌≡◌, ◌∙◌, sym, ap, subst, ℕ, ◌<◌, ◌≤◌, arith, w64, Ok, Err, unsigned_abs}
use Rattle.std.proofs.lemmas.Slice.Eq.{bytes_eq-Decides}
use Rattle.std.specs.Fmt.{signed_decimal}
use Rattle.std.specs.declared.num.ParseIntError.{ParseIntError}
use Rattle.text_rows.proofs.Numbers.{is_text, is_parsed, short_fits}
use Rattle.std.proofs.lemmas.Int.{to_z-of_z}
use Rattle.std.specs.Int.RustNames.{FitsSigned}
use Rattle.text_rows.proofs.read.number_of.Goals as goal

too_long : (a n : ℕ) → a ≡ n → n < 100000000000000000 → 100000000000000000 ≤ a → ⊥
too_long a n e below above = omega arith

pub returns-in_default : goal.returns-in_default
returns-in_default c = λ z h e. c.in_default.ensures.cases.0 (is_text c.args.word.now z h e)

pub returns-in_default-parse : goal.returns-in_default-parse
returns-in_default-parse c = λ z h e.
    let same = is_parsed c.in-Ok.text.now z (Err c.in_default-parse.field-0) h (c.in-Ok.ensures.cases.0 ∙ e) c.in_default-parse.ensures.value.0 in
    absurd (cc same)

pub returns-then-unsigned_abs-ge-NUMBER_END : goal.returns-then-unsigned_abs-ge-NUMBER_END
returns-then-unsigned_abs-ge-NUMBER_END c = λ z h e.
    let same = is_parsed {E = ParseIntError} c.in-Ok.text.now z (Ok c.in-Ok-parse.number) h (c.in-Ok.ensures.cases.0 ∙ e) c.in-Ok-parse.ensures.value.0 in
    let number : c.in-Ok-parse.number ≡ z = cc same in
    let short : unsigned_abs c.in-Ok-parse.number < 100000000000000000 = subst (λ y. unsigned_abs y < 100000000000000000) (sym number) h in
    let fits = subst (FitsSigned w64) (sym number) (short_fits z h) in
    too_long _ _ (c.unsigned_abs.ensures.value ∙ ap unsigned_abs (to_z-of_z w64 c.in-Ok-parse.number fits)) short c.if-unsigned_abs-ge-NUMBER_END.true

pub returns : goal.returns
returns c = λ z h e.
    let same = is_parsed {E = ParseIntError} c.in-Ok.text.now z (Ok c.in-Ok-parse.number) h (c.in-Ok.ensures.cases.0 ∙ e) c.in-Ok-parse.ensures.value.0 in
    let number : c.in-Ok-parse.number ≡ z = cc same in
    let fits = subst (FitsSigned w64) (sym number) (short_fits z h) in
    let bytes : c.as_str.result.now ≡ c.in-Ok.text.now = c.as_str.ensures.value ∙ c.in_ok-again.ensures.ok ∙ ap signed_decimal (to_z-of_z w64 c.in-Ok-parse.number fits ∙ number) ∙ sym e ∙ sym c.in-Ok.ensures.cases.0 in
    let equal = (bytes_eq-Decides c.as_str.result.now c.in-Ok.text.now).1 bytes in
    absurd (cc (equal, c.eq.ensures, c.if-eq.false))
