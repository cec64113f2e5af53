-- a text says one thing
use Rattle.std.proofs.Common.{◌≡◌, ◌≢◌, ℕ, zero, suc, ◌<◌, ◌≤◌, List, [], ◌∷◌, ◌++◌, length, map, take, Ok, Err, ◌⊎◌, inl, inr, refl, sym, ap, subst, ◌∙◌, arith, get_or, ◌+◌, add-one}
use Rattle.std.specs.Prelude.{Result, ◌↔◌}
use Rattle.std.proofs.Math.Seq.{take-suc, take-length}
use Rattle.std.proofs.lemmas.List.{append_assoc, length-append, map-append}
use Rattle.std.proofs.lemmas.Bool.{cases_order}
use Rattle.charge_model.specs.declared.TheConstants.{MAX_SITES}
use Rattle.charge_model.specs.declared.charge.Charge.{Charge}
use Rattle.charge_model.specs.declared.charge.Charge.TheVariants.{Neg, Neutral, Pos}
use Rattle.charge_state.specs.declared.text.ChargeFault.{ChargeFault}
use Rattle.charge_state.specs.declared.text.ChargeFault.TheVariants.{BadByte, TooLong}
use Rattle.charge_state.specs.declared.TheConstants.{POINT}
use Rattle.charge_state.specs.Text.{byte_of, charges_text, BeginsText, BreaksTextAt, IsTooLongText, ReadsCharges, IsReading}

byte_one : (a b : Charge) → byte_of a ≡ byte_of b → a ≡ b
byte_one Neg Neg e = refl
byte_one Neg Neutral e = absurd (omega (arith, e))
byte_one Neg Pos e = absurd (omega (arith, e))
byte_one Neutral Neg e = absurd (omega (arith, e))
byte_one Neutral Neutral e = refl
byte_one Neutral Pos e = absurd (omega (arith, e))
byte_one Pos Neg e = absurd (omega (arith, e))
byte_one Pos Neutral e = absurd (omega (arith, e))
byte_one Pos Pos e = refl

no_point : (a : Charge) → byte_of a ≡ POINT → ⊥
no_point Neg e = omega (arith, e)
no_point Neutral e = omega (arith, e)
no_point Pos e = omega (arith, e)

same_signs : (c d : List Charge) → map byte_of c ≡ map byte_of d → c ≡ d
same_signs [] [] e = refl
same_signs [] (y ∷ ys) e = absurd (cc)
same_signs (x ∷ xs) [] e = absurd (cc)
same_signs (x ∷ xs) (y ∷ ys) e =
    let first : byte_of x ≡ byte_of y = cc in
    let others : map byte_of xs ≡ map byte_of ys = cc in
    let head = byte_one x y first in
    let tail = same_signs xs ys others in
    cc (head, tail)

text_one : (c d : List Charge) → charges_text c ≡ charges_text d → c ≡ d
text_one [] [] e = refl
text_one [] (y ∷ ys) e = let first : byte_of y ≡ POINT = cc in absurd (no_point y first)
text_one (x ∷ xs) [] e = let first : byte_of x ≡ POINT = cc in absurd (no_point x first)
text_one (x ∷ xs) (y ∷ ys) e = same_signs (x ∷ xs) (y ∷ ys) e

-- a front begins with each shorter front
longer_front : (m n : ℕ) (xs : List ℕ) → m ≤ n → (ys : List ℕ) × (take n xs ≡ take m xs ++ ys)
longer_front zero n xs le = (take n xs, refl)
longer_front (suc m) zero xs le = absurd (omega (arith, le))
longer_front (suc m) (suc n) [] le = ([], refl)
longer_front (suc m) (suc n) (x ∷ xs) le =
    let rest = longer_front m n xs (omega (arith, le)) in (rest.0, ap (λ z. x ∷ z) rest.1)

begins_before : (m n : ℕ) (xs : List ℕ) → m ≤ n → BeginsText (take n xs) → BeginsText (take m xs)
begins_before m n xs le (c, rest, e) =
    let more = longer_front m n xs le in
    (c, more.0 ++ rest, e ∙ ap (λ z. z ++ rest) more.1 ∙ append_assoc (take m xs) more.0 rest)

text_begins : (xs : List ℕ) (c : List Charge) → xs ≡ charges_text c → BeginsText (take (length xs) xs)
text_begins xs c e = (c, [], sym e ∙ sym (take-length xs) ∙ sym (no_more (take (length xs) xs)))
  where
    no_more : (ys : List ℕ) → ys ++ [] ≡ ys
    no_more [] = refl
    no_more (y ∷ ys) = ap (λ z. y ∷ z) (no_more ys)

-- a text that breaks the form is that of no list
broken_unread : (xs : List ℕ) (at : ℕ) (c : List Charge) → BreaksTextAt xs at → xs ≡ charges_text c → ⊥
broken_unread xs at c breaks e = by (cases_order at (length xs))
  where
    by : (at ≡ length xs) ⊎ ((at < length xs) ⊎ (length xs < at)) → ⊥
    by (inl end) = breaks.ends end c e
    by (inr (inl inside)) = breaks.breaks inside (begins_before (suc at) (length xs) xs (omega (arith, inside)) (text_begins xs c e))
    by (inr (inr past)) = omega (arith, past, breaks.within)

-- it breaks it at one place
broken_before : (xs : List ℕ) (a b : ℕ) → BreaksTextAt xs a → BreaksTextAt xs b → a < b → ⊥
broken_before xs a b one two lt =
    one.breaks (omega (arith, lt, two.within)) (begins_before (suc a) b xs (omega (arith, lt)) two.before)

broken_once : (xs : List ℕ) (a b : ℕ) → BreaksTextAt xs a → BreaksTextAt xs b → a ≡ b
broken_once xs a b one two = by (cases_order a b)
  where
    by : (a ≡ b) ⊎ ((a < b) ⊎ (b < a)) → a ≡ b
    by (inl e) = e
    by (inr (inl lt)) = absurd (broken_before xs a b one two lt)
    by (inr (inr gt)) = absurd (broken_before xs b a two one gt)

fits_or_not : (xs : List ℕ) (c d : List Charge) → ReadsCharges xs c → xs ≡ charges_text d → MAX_SITES < length d → ⊥
fits_or_not xs c d one two long =
    let same : length c ≡ length d = ap length (text_one c d (sym one.reads ∙ two)) in
    omega (arith, same, long, one.fits)

pub one_reading : (text : List ℕ) (r s : Result (List Charge) ChargeFault) → IsReading text r → IsReading text s → r ≡ s
one_reading text (Ok c) (Ok d) one two = ap Ok (text_one c d (sym one.reads ∙ two.reads))
one_reading text (Ok c) (Err (BadByte at)) one two = absurd (broken_unread text at c two one.reads)
one_reading text (Ok c) (Err TooLong) one two = absurd (fits_or_not text c two.charges one two.reads two.long)
one_reading text (Err (BadByte at)) (Ok d) one two = absurd (broken_unread text at d one two.reads)
one_reading text (Err (BadByte a)) (Err (BadByte b)) one two = ap (λ z. Err (BadByte z)) (broken_once text a b one two)
one_reading text (Err (BadByte at)) (Err TooLong) one two = absurd (broken_unread text at two.charges one two.reads)
one_reading text (Err TooLong) (Ok d) one two = absurd (fits_or_not text d one.charges two one.reads one.long)
one_reading text (Err TooLong) (Err (BadByte at)) one two = absurd (broken_unread text at one.charges two one.reads)
one_reading text (Err TooLong) (Err TooLong) one two = refl

-- a reading says exactly what a text says
pub record Says (text : List ℕ) (r : Result (List Charge) ChargeFault) : Type 0 where
  pub read : (c : List Charge) → (r ≡ Ok c) ↔ ReadsCharges text c
  pub bad_byte : (at : ℕ) → (r ≡ Err (BadByte at)) ↔ BreaksTextAt text at
  pub too_long : (r ≡ Err TooLong) ↔ IsTooLongText text

pub reading_says : (text : List ℕ) (r : Result (List Charge) ChargeFault) → IsReading text r → Says text r
reading_says text r is = record {
  read = λ c. (λ e. subst (IsReading text) e is, λ reads. one_reading text r (Ok c) is reads);
  bad_byte = λ at. (λ e. subst (IsReading text) e is, λ breaks. one_reading text r (Err (BadByte at)) is breaks);
  too_long = (λ e. subst (IsReading text) e is, λ long. one_reading text r (Err TooLong) is long);
}

-- the empty text ends too early
pub empty_breaks : (xs : List ℕ) → length xs ≡ 0 → BreaksTextAt xs 0
empty_breaks [] e = record {
  within = omega arith;
  before = ([], POINT ∷ [], refl);
  breaks = λ lt begins. omega (arith, lt);
  ends = λ end c same. no_text c same;
}
  where
    no_text : (c : List Charge) → [] ≡ charges_text c → ⊥
    no_text [] same = cc
    no_text (x ∷ xs) same = cc
empty_breaks (x ∷ xs) e = absurd (omega (arith, e))

-- a point stands alone
pub point_breaks : (xs : List ℕ) → 1 < length xs → get_or xs 0 0 ≡ POINT → BreaksTextAt xs 1
point_breaks [] more point = absurd (omega (arith, more))
point_breaks (x ∷ []) more point = absurd (omega (arith, more))
point_breaks (x ∷ y ∷ ys) more point = record {
  within = omega arith;
  before = ([], [], ap (λ z. z ∷ []) (sym point));
  breaks = λ lt begins. no_begin begins.0 begins.1 begins.2;
  ends = λ end. absurd (omega (arith, end));
}
  where
    no_begin : (c : List Charge) (rest : List ℕ) → charges_text c ≡ (x ∷ y ∷ []) ++ rest → ⊥
    no_begin [] rest e = cc
    no_begin (d ∷ ds) rest e = let first : byte_of d ≡ POINT = cc in no_point d first

pub point_reads : (xs : List ℕ) → length xs ≡ 1 → get_or xs 0 0 ≡ POINT → ReadsCharges xs []
point_reads [] one point = absurd (omega (arith, one))
point_reads (x ∷ []) one point = record { reads = ap (λ z. z ∷ []) point; fits = omega arith }
point_reads (x ∷ y ∷ ys) one point = absurd (omega (arith, one))

-- a byte that stands after signs in a text of signs is one
sign_in : (ds cs : List Charge) (b : ℕ) (rest : List ℕ) → map byte_of ds ≡ (map byte_of cs ++ b ∷ []) ++ rest → (charge : Charge) × (byte_of charge ≡ b)
sign_in [] [] b rest e = absurd (cc)
sign_in [] (c ∷ cs) b rest e = absurd (cc)
sign_in (d ∷ ds) [] b rest e = (d, cc)
sign_in (d ∷ ds) (c ∷ cs) b rest e =
    let others : map byte_of ds ≡ (map byte_of cs ++ b ∷ []) ++ rest = cc in sign_in ds cs b rest others

-- after signs a byte that is none breaks the form
pub other_breaks : (xs : List ℕ) (i b : ℕ) (cs : List Charge) → i < length xs → map byte_of cs ≡ take i xs
    → b ≡ get_or xs i 0 → get_or xs 0 0 ≢ POINT → ((charge : Charge) → byte_of charge ≡ b → ⊥) → BreaksTextAt xs i
other_breaks xs i b cs inside signs is no_first other = record {
  within = omega (arith, inside);
  before = before cs signs;
  breaks = λ lt begins. breaks begins.0 begins.1 (begins.2 ∙ ap (λ z. z ++ begins.1) (take-suc xs i 0 inside ∙ ap (λ z. z ++ get_or xs i 0 ∷ []) (sym signs) ∙ ap (λ z. map byte_of cs ++ z ∷ []) (sym is)));
  ends = λ end. absurd (omega (arith, end, inside));
}
  where
    no_more : (ys : List ℕ) → ys ++ [] ≡ ys
    no_more [] = refl
    no_more (y ∷ ys) = ap (λ z. y ∷ z) (no_more ys)

    before : (ds : List Charge) → map byte_of ds ≡ take i xs → BeginsText (take i xs)
    before [] e = ([], POINT ∷ [], ap (λ z. z ++ POINT ∷ []) e)
    before (d ∷ ds) e = (d ∷ ds, [], e ∙ sym (no_more (take i xs)))

    -- a text that begins with a point and goes on as this one does
    first : (ys : List ℕ) (ds : List Charge) (j : ℕ) → map byte_of ds ≡ take j ys → j < length ys → (rest : List ℕ)
        → POINT ∷ [] ≡ (map byte_of ds ++ get_or ys j 0 ∷ []) ++ rest → get_or ys 0 0 ≡ POINT
    first [] ds j e lt rest same = absurd (omega (arith, lt))
    first (y ∷ ys) [] zero e lt rest same = cc
    first (y ∷ ys) [] (suc j) e lt rest same = absurd (cc)
    first (y ∷ ys) (d ∷ ds) j e lt rest same = let sign : byte_of d ≡ POINT = cc in absurd (no_point d sign)

    breaks : (ds : List Charge) (rest : List ℕ) → charges_text ds ≡ (map byte_of cs ++ b ∷ []) ++ rest → ⊥
    breaks [] rest e = no_first (first xs cs i signs inside rest (e ∙ ap (λ z. (map byte_of cs ++ z ∷ []) ++ rest) is))
    breaks (d ∷ ds) rest e = let sign = sign_in (d ∷ ds) cs b rest e in other sign.0 sign.1

-- signs to the end are the text of their charges
pub signs_text : (xs : List ℕ) (cs : List Charge) → map byte_of cs ≡ xs → 0 < length xs → xs ≡ charges_text cs
signs_text xs [] e some = absurd (omega (arith, some, ap length e))
signs_text xs (c ∷ cs) e some = sym e

-- one more sign
pub sign_more : (xs : List ℕ) (i b : ℕ) (cs : List Charge) (charge : Charge) → i < length xs → map byte_of cs ≡ take i xs
    → b ≡ get_or xs i 0 → byte_of charge ≡ b → map byte_of (cs ++ charge ∷ []) ≡ take (i + 1) xs
sign_more xs i b cs charge inside signs is sign =
    map-append byte_of cs (charge ∷ []) ∙ ap (λ z. z ++ byte_of charge ∷ []) signs
    ∙ ap (λ z. take i xs ++ z ∷ []) (sign ∙ is) ∙ sym (take-suc xs i 0 inside)
    ∙ ap (λ k. take k xs) (sym (add-one i))

-- it is kept where there is room for all
pub sign_kept : (read charges new : List Charge) (charge : Charge) → (length read ≤ MAX_SITES → charges ≡ read)
    → length (read ++ charge ∷ []) ≤ MAX_SITES → new ≡ charges ++ charge ∷ [] → new ≡ read ++ charge ∷ []
sign_kept read charges new charge kept small pushed =
    pushed ∙ ap (λ z. z ++ charge ∷ []) (kept (omega (arith, small, length-append read (charge ∷ []))))

pub sign_lost : (read charges : List Charge) (charge : Charge) → (length read ≤ MAX_SITES → charges ≡ read)
    → length (read ++ charge ∷ []) ≤ MAX_SITES → MAX_SITES ≤ length charges → ⊥
sign_lost read charges charge kept small full =
    let shorter : length read < MAX_SITES = omega (arith, small, length-append read (charge ∷ [])) in
    let same : length charges ≡ length read = ap length (kept (omega (arith, shorter))) in
    omega (arith, shorter, same, full)
