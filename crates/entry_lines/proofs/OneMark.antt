-- the words of a mark are those of no other mark
use Rattle.std.proofs.Common.{◌≡◌, ◌∙◌, ℕ, ◌<◌, ◌^◌, List, [], ℤ, pos, negsuc, ◌≤ℤ◌, refl, ap, subst, arith, length, get_or, drop}
use Rattle.std.specs.Prelude.{unsigned_abs}
use Rattle.std.specs.Fmt.{signed_decimal}
use Rattle.std.proofs.Math.Dec.{T_prop}
use lib.Signed.{mag}
use Rattle.std.proofs.lemmas.Fmt.{decimal_injective, signed_decimal_injective}
use Rattle.charge_model.specs.declared.charge.Test.{Test}
use Rattle.charge_model.specs.declared.charge.Test.TheVariants.{AboveMinus, AbovePlus, BelowMinus, BelowPlus}
use Rattle.charge_model.specs.declared.span.Span.{Span}
use Rattle.charge_model.specs.declared.mark.Deciding.{Deciding}
use Rattle.charge_model.specs.declared.mark.Deciding.TheVariants.{Population, Hop, Rival}
use Rattle.charge_model.specs.declared.mark.Mark.{Mark}
use Rattle.charge_model.specs.declared.mark.Mark.TheVariants.{Certain, Unresolved}
use Rattle.entry_lines.specs.EntryLines.{test_word, span_words, deciding_words, mark_words, FitsSpan, FitsDeciding, FitsMark}

same_order : (a b : ℤ) (x y : a ≤ℤ b) → x ≡ y
same_order a b x y = ap (λ z. record { le = z }) (T_prop _ x.le y.le)

same_span : (s t : Span) → s.lo ≡ t.lo → s.hi ≡ t.hi → s ≡ t
same_span s t e f = lows t.lo e t.hi f t.in_order
  where
    highs : (v : ℤ) → s.hi ≡ v → (y : s.lo ≤ℤ v) → s ≡ record { lo = s.lo; hi = v; in_order = y }
    highs v f = subst (λ v. (y : s.lo ≤ℤ v) → s ≡ record { lo = s.lo; hi = v; in_order = y }) f
        (λ y. ap (λ z. record { lo = s.lo; hi = s.hi; in_order = z }) (same_order s.lo s.hi s.in_order y))

    lows : (w : ℤ) → s.lo ≡ w → (v : ℤ) → s.hi ≡ v → (y : w ≤ℤ v) → s ≡ record { lo = w; hi = v; in_order = y }
    lows w e = subst (λ w. (v : ℤ) → s.hi ≡ v → (y : w ≤ℤ v) → s ≡ record { lo = w; hi = v; in_order = y }) e highs

small : (z : ℤ) → unsigned_abs z < 2 ^ 63 → mag z < 2 ^ 63
small (pos n) fits = fits
small (negsuc n) fits = omega (arith, fits)

one_span : (s t : Span) → FitsSpan s → FitsSpan t → span_words s ≡ span_words t → s ≡ t
one_span s t fits others is =
    let least : signed_decimal s.lo ≡ signed_decimal t.lo = ap (λ (words : List (List ℕ)). get_or words 0 []) is in
    let greatest : signed_decimal s.hi ≡ signed_decimal t.hi = ap (λ (words : List (List ℕ)). get_or words 1 []) is in
    same_span s t (signed_decimal_injective s.lo t.lo (small s.lo fits.least) (small t.lo others.least) least) (signed_decimal_injective s.hi t.hi (small s.hi fits.greatest) (small t.hi others.greatest) greatest)

-- words of different length, and words with different first bytes
longer : {X : Type 0} (a b : List ℕ) (m n : ℕ) → a ≡ b → length a ≡ m → length b ≡ n → (m ≡ n → ⊥) → X
longer a b m n is of_a of_b differ = absurd (differ (omega (arith, of_a, of_b, ap length is)))

first : {X : Type 0} (a b : List ℕ) (m n : ℕ) → a ≡ b → get_or a 0 0 ≡ m → get_or b 0 0 ≡ n → (m ≡ n → ⊥) → X
first a b m n is of_a of_b differ = absurd (differ (omega (arith, of_a, of_b, ap (λ (t : List ℕ). get_or t 0 0) is)))

one_test : (a b : Test) → test_word a ≡ test_word b → a ≡ b
one_test AboveMinus AboveMinus is = refl
one_test AbovePlus AbovePlus is = refl
one_test BelowMinus BelowMinus is = refl
one_test BelowPlus BelowPlus is = refl
one_test AboveMinus AbovePlus is = longer _ _ 11 10 is refl refl (λ e. omega (arith, e))
one_test AboveMinus BelowMinus is = first _ _ 97 98 is refl refl (λ e. omega (arith, e))
one_test AboveMinus BelowPlus is = first _ _ 97 98 is refl refl (λ e. omega (arith, e))
one_test AbovePlus AboveMinus is = longer _ _ 10 11 is refl refl (λ e. omega (arith, e))
one_test AbovePlus BelowMinus is = first _ _ 97 98 is refl refl (λ e. omega (arith, e))
one_test AbovePlus BelowPlus is = first _ _ 97 98 is refl refl (λ e. omega (arith, e))
one_test BelowMinus AboveMinus is = first _ _ 98 97 is refl refl (λ e. omega (arith, e))
one_test BelowMinus AbovePlus is = first _ _ 98 97 is refl refl (λ e. omega (arith, e))
one_test BelowMinus BelowPlus is = longer _ _ 11 10 is refl refl (λ e. omega (arith, e))
one_test BelowPlus AboveMinus is = first _ _ 98 97 is refl refl (λ e. omega (arith, e))
one_test BelowPlus AbovePlus is = first _ _ 98 97 is refl refl (λ e. omega (arith, e))
one_test BelowPlus BelowMinus is = longer _ _ 10 11 is refl refl (λ e. omega (arith, e))

-- the first words of two rows differ in length
kinds : {X : Type 0} (a b : List (List ℕ)) (m n : ℕ) → a ≡ b → length (get_or a 0 []) ≡ m → length (get_or b 0 []) ≡ n → (m ≡ n → ⊥) → X
kinds a b m n is of_a of_b differ = absurd (differ (omega (arith, of_a, of_b, ap (λ (words : List (List ℕ)). length (get_or words 0 [])) is)))

one_deciding : (a b : Deciding) → FitsDeciding a → FitsDeciding b → deciding_words a ≡ deciding_words b → a ≡ b
one_deciding (Population i k s) (Population j l t) fits others is =
    let site : i ≡ j = decimal_injective i j fits.0 others.0 (ap (λ (words : List (List ℕ)). get_or words 1 []) is) in
    let test : k ≡ l = one_test k l (ap (λ (words : List (List ℕ)). get_or words 2 []) is) in
    let span : s ≡ t = one_span s t fits.1 others.1 (ap (drop 3) is) in
    ap (λ n. Population n k s) site ∙ ap (λ n. Population j n s) test ∙ ap (λ n. Population j l n) span
one_deciding (Hop i j s) (Hop k l t) fits others is =
    let from : i ≡ k = decimal_injective i k fits.0 others.0 (ap (λ (words : List (List ℕ)). get_or words 1 []) is) in
    let to : j ≡ l = decimal_injective j l fits.1 others.1 (ap (λ (words : List (List ℕ)). get_or words 2 []) is) in
    let span : s ≡ t = one_span s t fits.2 others.2 (ap (drop 3) is) in
    ap (λ n. Hop n j s) from ∙ ap (λ n. Hop k n s) to ∙ ap (λ n. Hop k l n) span
one_deciding (Rival j s) (Rival k t) fits others is =
    let entry : j ≡ k = decimal_injective j k fits.0 others.0 (ap (λ (words : List (List ℕ)). get_or words 1 []) is) in
    let span : s ≡ t = one_span s t fits.1 others.1 (ap (drop 2) is) in
    ap (λ n. Rival n s) entry ∙ ap (λ n. Rival k n) span
one_deciding (Population i k s) (Hop j l t) fits others is = kinds _ _ 10 3 is refl refl (λ e. omega (arith, e))
one_deciding (Population i k s) (Rival j t) fits others is = kinds _ _ 10 5 is refl refl (λ e. omega (arith, e))
one_deciding (Hop i j s) (Population k l t) fits others is = kinds _ _ 3 10 is refl refl (λ e. omega (arith, e))
one_deciding (Hop i j s) (Rival k t) fits others is = kinds _ _ 3 5 is refl refl (λ e. omega (arith, e))
one_deciding (Rival j s) (Population k l t) fits others is = kinds _ _ 5 10 is refl refl (λ e. omega (arith, e))
one_deciding (Rival j s) (Hop k l t) fits others is = kinds _ _ 5 3 is refl refl (λ e. omega (arith, e))

pub one_mark : (a b : Mark) → FitsMark a → FitsMark b → mark_words a ≡ mark_words b → a ≡ b
one_mark Certain Certain fits others is = refl
one_mark Certain (Unresolved d) fits others is = kinds _ _ 7 10 is refl refl (λ e. omega (arith, e))
one_mark (Unresolved d) Certain fits others is = kinds _ _ 10 7 is refl refl (λ e. omega (arith, e))
one_mark (Unresolved d) (Unresolved e) fits others is = ap Unresolved (one_deciding d e fits others (ap (drop 1) is))
