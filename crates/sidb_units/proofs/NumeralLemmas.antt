-- What can go on, and what cannot.
use Rattle.std.proofs.Common.{◌≡◌, ◌∙◌, ◌≢◌, ℕ, ◌+◌, ◌<◌, ◌≤◌, List, [], ◌∷◌, ◌++◌, length, take, get_or, slice_index, inl, inr, refl, sym, ap, subst, arith, length-append}
use Rattle.std.proofs.lemmas.List.{get_or-take, get_or_append_left, length-take-le}
use Rattle.std.proofs.lemmas.Bool.{cases_lt}
use Rattle.std.proofs.Math.Seq.{get_or-append_seam}
use Rattle.sidb_units.specs.Numeral.{CanGoOn, IsDigit, IsNumeral}

zero_digit : IsDigit 48
zero_digit = record { from = omega arith; to = omega arith }

same_digit : (a b : ℕ) → a ≡ b → IsDigit b → IsDigit a
same_digit a b e h = subst IsDigit (sym e) h

pub not_point : (b : ℕ) → IsDigit b → b ≡ 46 → ⊥
not_point b h e = omega (arith, h.from)

pub can_start : (text : List ℕ) → CanGoOn text 0
can_start text = record {
  full = 48 ∷ [];
  digits = 1;
  numeral = record { some = omega arith; within = omega arith; whole = only; rest = inl refl };
  long = omega arith;
  same = λ i h. absurd (omega arith);
} where
  only : (i : ℕ) → i < 1 → IsDigit (slice_index (48 ∷ []) i)
  only i h = let e : i ≡ 0 = omega arith in rw e zero_digit

-- the digits so far are a numeral
pub can_digits : (text : List ℕ) (w : ℕ) → 0 < w → w ≤ length text → ((i : ℕ) → i < w → IsDigit (slice_index text i)) → CanGoOn text w
can_digits text w some within digits =
    let len : length (take w text) ≡ w = length-take-le w text within in
    record {
      full = take w text;
      digits = w;
      numeral = record { some = some; within = omega arith; whole = λ i h. same_digit _ _ (get_or-take w text i 0 h) (digits i h); rest = inl (sym len) };
      long = omega arith;
      same = λ i h. get_or-take w text i 0 h;
    }

-- after a point a digit may follow
pub can_point : (text : List ℕ) (w : ℕ) → 0 < w → w < length text → ((i : ℕ) → i < w → IsDigit (slice_index text i)) → slice_index text w ≡ 46 → CanGoOn text (w + 1)
can_point text w some within digits point =
    let front : ℕ = w + 1 in
    let len : length (take front text) ≡ front = length-take-le front text (omega arith) in
    let whole_len : length (take front text ++ 48 ∷ []) ≡ front + 1 = length-append (take front text) (48 ∷ []) ∙ ap (λ (n : ℕ). n + 1) len in
    let same : (i : ℕ) → i < front → get_or (take front text ++ 48 ∷ []) i 0 ≡ get_or text i 0 = λ i h. get_or_append_left (take front text) (48 ∷ []) 0 i (omega arith) ∙ get_or-take front text i 0 h in
    let last : get_or (take front text ++ 48 ∷ []) front 0 ≡ 48 = subst (λ (n : ℕ). get_or (take front text ++ 48 ∷ []) n 0 ≡ 48) len (get_or-append_seam (take front text) 48 [] 0) in
    record {
      full = take front text ++ 48 ∷ [];
      digits = w;
      numeral = record {
        some = some;
        within = omega arith;
        whole = λ i h. same_digit _ _ (same i (omega arith)) (digits i h);
        rest = inr (record {
          point = same w (omega arith) ∙ point;
          some = omega arith;
          digits = λ i above below. let e : i ≡ front = omega arith in rw e (same_digit _ _ last zero_digit);
        });
      };
      long = omega arith;
      same = same;
    }

-- a point and some digits are a numeral
pub can_fraction : (text : List ℕ) (w n : ℕ) → 0 < w → w + 1 < n → n ≤ length text → ((i : ℕ) → i < w → IsDigit (slice_index text i)) → slice_index text w ≡ 46
    → ((i : ℕ) → w < i → i < n → IsDigit (slice_index text i)) → CanGoOn text n
can_fraction text w n some more within digits point fraction =
    let len : length (take n text) ≡ n = length-take-le n text within in
    record {
      full = take n text;
      digits = w;
      numeral = record {
        some = some;
        within = omega arith;
        whole = λ i h. same_digit _ _ (get_or-take n text i 0 (omega arith)) (digits i h);
        rest = inr (record {
          point = get_or-take n text w 0 (omega arith) ∙ point;
          some = omega arith;
          digits = λ i above below. let lt : i < n = omega arith in same_digit _ _ (get_or-take n text i 0 lt) (fraction i above lt);
        });
      };
      long = omega arith;
      same = λ i h. get_or-take n text i 0 h;
    }

-- a first byte that is no digit
pub no_start : (text : List ℕ) → ¬ IsDigit (slice_index text 0) → ¬ CanGoOn text 1
no_start text bad c = bad (same_digit _ _ (sym (c.same 0 (omega arith))) (c.numeral.whole 0 c.numeral.some))

-- a numeral that begins with w digits and another byte has no shorter whole part
not_shorter : (full text : List ℕ) (w d : ℕ) → IsNumeral full d → w < length full → ((i : ℕ) → i < w → IsDigit (slice_index full i)) → w ≤ d
not_shorter full text w d numeral long digits = elim (cases_lt d w) [
  | inr h ↦ h
  | inl h ↦ elim numeral.rest [ inl e ↦ absurd (omega arith) | inr f ↦ absurd (not_point _ (digits d h) f.point) ]
]

moved : (full text : List ℕ) (w n : ℕ) → w ≤ n → ((i : ℕ) → i < n → slice_index full i ≡ slice_index text i) → ((i : ℕ) → i < w → IsDigit (slice_index text i)) → (i : ℕ) → i < w → IsDigit (slice_index full i)
moved full text w n le same digits i h = same_digit _ _ (same i (omega arith)) (digits i h)

-- after digits, a byte that is neither a digit nor a point
pub no_digits : (text : List ℕ) (w : ℕ) → ((i : ℕ) → i < w → IsDigit (slice_index text i)) → ¬ IsDigit (slice_index text w) → slice_index text w ≢ 46 → ¬ CanGoOn text (w + 1)
no_digits text w digits bad other c =
    let here = c.same w (omega arith) in
    let le = not_shorter c.full text w c.digits c.numeral (omega (arith, c.long)) (moved c.full text w (w + 1) (omega arith) c.same digits) in
    elim (cases_lt w c.digits) [
      | inl h ↦ bad (same_digit _ _ (sym here) (c.numeral.whole w h))
      | inr h ↦
          let e : c.digits ≡ w = omega arith in
          elim c.numeral.rest [
            | inl all ↦ absurd (omega (arith, c.long))
            | inr f ↦ other (sym here ∙ ap (λ (k : ℕ). slice_index c.full k) (sym e) ∙ f.point)
          ]
    ]

-- the whole part ends where the first point stands
whole_is : (full text : List ℕ) (w n d : ℕ) → w < n → n ≤ length full → IsNumeral full d → ((i : ℕ) → i < n → slice_index full i ≡ slice_index text i) → ((i : ℕ) → i < w → IsDigit (slice_index text i)) → slice_index text w ≡ 46 → d ≡ w
whole_is full text w n d lt long numeral same digits point =
    let le = not_shorter full text w d numeral (omega arith) (moved full text w n (omega arith) same digits) in
    elim (cases_lt w d) [ inl h ↦ absurd (not_point _ (numeral.whole w h) (same w lt ∙ point)) | inr h ↦ omega arith ]

-- after a point, a byte that is no digit
pub no_fraction : (text : List ℕ) (w at : ℕ) → w < at → ((i : ℕ) → i < w → IsDigit (slice_index text i)) → slice_index text w ≡ 46 → ¬ IsDigit (slice_index text at) → ¬ CanGoOn text (at + 1)
no_fraction text w at lt digits point bad c =
    let is = whole_is c.full text w (at + 1) c.digits (omega arith) c.long c.numeral c.same digits point in
    elim c.numeral.rest [
      | inl all ↦ absurd (omega (arith, c.long))
      | inr f ↦ bad (same_digit _ _ (sym (c.same at (omega arith))) (f.digits at (omega arith) (omega (arith, c.long))))
    ]

-- a text that ends at its point
pub no_end : (text : List ℕ) (w : ℕ) → w + 1 ≡ length text → ((i : ℕ) → i < w → IsDigit (slice_index text i)) → slice_index text w ≡ 46 → (d : ℕ) → ¬ IsNumeral text d
no_end text w end digits point d numeral =
    let is = whole_is text text w (length text) d (omega arith) (omega arith) numeral (λ i h. refl) digits point in
    elim numeral.rest [ inl all ↦ omega arith | inr f ↦ omega (arith, f.some) ]
