-- texts of ranges of depths
use Rattle.std.proofs.Common.{◌≡◌, ◌∙◌, refl, sym, ap, subst, ℕ, ◌<◌, ◌≤◌, suc, ℤ, pos, ◌≤ℤ◌, ◌<ℤ◌, ◌^◌, FitsSigned, w64, ◌⊎◌, inl, inr, List, [], ◌∷◌, Bool, length, arith}
use Rattle.std.proofs.Props.{props}
use Rattle.std.proofs.lemmas.Bool.{cases_lt}
use Rattle.std.proofs.lemmas.Int.{fits_signed_from_abs, ints}
use mir.Val.{SFits}
use Rattle.std.specs.List.{slice_split}
use Rattle.std.proofs.lemmas.List.Splits.{length-slice_split}
use Rattle.gate_model.specs.Pairs.{between_colons}
use Rattle.clap.specs.Walk.{Text}
use Rattle.sidb_units.specs.declared.decimal_fault.DecFault.{DecFault}
use Rattle.sidb_units.specs.Decimal.{HasDecimalFault, decimal_value as value_read}
use Rattle.model_params.specs.Quantities.{level_depth}
use Rattle.command_words.specs.declared.settings.DepthRange.{DepthRange}
use Rattle.command_words.specs.Limits.{AreEndsOfDepths}
use Rattle.command_words.specs.Depths.{AreDepths, IsDepth}
use Rattle.command_words.proofs.Decided.{HasSomeOrNone}
use Rattle.command_words.proofs.Readings.{AreReadings, IsReadOnce}

-- where what is behind the first part is cut again, there are not two parts
pub more_than_two : (p : ℕ → Bool) (xs ys zs a b : Text) → slice_split p xs ≡ a ∷ slice_split p ys → slice_split p ys ≡ b ∷ slice_split p zs → (x y : Text) → slice_split p xs ≡ x ∷ y ∷ [] → ⊥
more_than_two p xs ys zs a b first second x y two =
    let long : length (slice_split p xs) ≡ suc (suc (length (slice_split p zs))) = ap length first ∙ ap (λ (l : List Text). suc (length l)) second in
    let short : length (slice_split p xs) ≡ 2 = ap length two in
    omega (arith, long, short, length-slice_split p zs)

-- the first end of a range is that of its text, and so is the second
module _ (text x y : Text) (words : between_colons text ≡ x ∷ y ∷ []) (r : DepthRange) (are : AreDepths text r) where
  first_end : IsDepth x r.from
  first_end = let same : are.first ≡ x = cc (words, are.words) in subst (λ w. IsDepth w r.from) same are.from

  second_end : IsDepth y r.to
  second_end = let same : are.second ≡ y = cc (words, are.words) in subst (λ w. IsDepth w r.to) same are.to

-- a text whose first end is no depth is no range
pub no_first : (text x y : Text) → between_colons text ≡ x ∷ y ∷ [] → ((v : ℤ) → IsDepth x v → ⊥) → (r : DepthRange) → AreDepths text r → ⊥
no_first text x y words none r are = none r.from (first_end text x y words r are)

-- nor is one whose second end is none
pub no_second : (text x y : Text) → between_colons text ≡ x ∷ y ∷ [] → ((v : ℤ) → IsDepth y v → ⊥) → (r : DepthRange) → AreDepths text r → ⊥
no_second text x y words none r are = none r.to (second_end text x y words r are)

-- a depth is small
pub depth_fits : (word : Text) (v : ℤ) → IsDepth word v → SFits w64 v
depth_fits word v read =
    let n = value_read word read.digits level_depth.places in
    subst (FitsSigned w64) (sym read.value) (fits_signed_from_abs w64 (pos n) (small n (subst (λ z. z ≤ℤ pos 2000000000000) read.value read.to)))
  where
    small : (n : ℕ) → pos n ≤ℤ pos 2000000000000 → n < 2 ^ 63
    small n most = omega (arith, ints, most)

-- nor is one with its greater end first
pub no_order : IsReadOnce → (text x y : Text) (v w : ℤ) → between_colons text ≡ x ∷ y ∷ [] → IsDepth x v → IsDepth y w → w <ℤ v → (r : DepthRange) → AreDepths text r → ⊥
no_order once text x y v w words from to less r are =
    let first : r.from ≡ v = once x level_depth.places level_depth.least level_depth.greatest r.from v (first_end text x y words r are) from in
    let second : r.to ≡ w = once y level_depth.places level_depth.least level_depth.greatest r.to w (second_end text x y words r are) to in
    omega (arith, ints, first, second, less, r.in_range.in_order)

-- there is one proof that two depths are in range and in order
one_ends : (from to : ℤ) (a b : AreEndsOfDepths from to) → a ≡ b
one_ends from to = hlevel props

-- a range is given by its ends
same_range : (r s : DepthRange) → r.from ≡ s.from → r.to ≡ s.to → r ≡ s
same_range r s from to = same r.from s.from r.to s.to from to r.in_range s.in_range
  where
    made : (from to : ℤ) → AreEndsOfDepths from to → DepthRange
    made from to within = record { from = from; to = to; in_range = within }

    same : (a b c d : ℤ) → a ≡ b → c ≡ d → (x : AreEndsOfDepths a c) (y : AreEndsOfDepths b d) → made a c x ≡ made b d y
    same a b c d first second =
        subst (λ (e : ℤ). (x : AreEndsOfDepths a c) (y : AreEndsOfDepths e d) → made a c x ≡ made e d y) first
        (subst (λ (e : ℤ). (x : AreEndsOfDepths a c) (y : AreEndsOfDepths a e) → made a c x ≡ made a e y) second
        (λ x y. ap (made a c) (one_ends a c x y)))

-- a text is one range
pub one_depths : IsReadOnce → (text : Text) (r s : DepthRange) → AreDepths text r → AreDepths text s → r ≡ s
one_depths once text r s are also =
    same_range r s
    (once are.first level_depth.places level_depth.least level_depth.greatest r.from s.from are.from (first_end text are.first are.second are.words s also))
    (once are.second level_depth.places level_depth.least level_depth.greatest r.to s.to are.to (second_end text are.first are.second are.words s also))

module _ (readings : AreReadings) where
  -- a word is a depth that is counted, or is none
  counted : (word : Text) → HasSomeOrNone (λ n. IsDepth word (pos n))
  counted word = by (readings.some word level_depth.places level_depth.least level_depth.greatest)
    where
      by : ((v : ℤ) × IsDepth word v) ⊎ ((e : DecFault) × HasDecimalFault word level_depth.places level_depth.least level_depth.greatest e) → HasSomeOrNone (λ n. IsDepth word (pos n))
      by (inl (v, read)) = inl (value_read word read.digits level_depth.places, subst (IsDepth word) read.value read)
      by (inr (e, fault)) = inr (λ n read. readings.no_fault word level_depth.places level_depth.least level_depth.greatest (pos n) e read fault)

  -- the number of a depth is counted
  as_count : (word : Text) (v : ℤ) → IsDepth word v → (n : ℕ) × IsDepth word (pos n)
  as_count word v read = (value_read word read.digits level_depth.places, subst (IsDepth word) read.value read)

  -- two depths are a range, or are none
  two_ends : IsReadOnce → (text x y : Text) → between_colons text ≡ x ∷ y ∷ [] → HasSomeOrNone (AreDepths text)
  two_ends once text x y words = by (counted x) (counted y)
    where
      of_order : (m n : ℕ) → IsDepth x (pos m) → IsDepth y (pos n) → (n < m) ⊎ (m ≤ n) → HasSomeOrNone (AreDepths text)
      of_order m n from to (inl less) = inr (no_order once text x y (pos m) (pos n) words from to (omega (arith, ints, less)))
      of_order m n from to (inr order) = inl (
        record {
          from = pos m;
          to = pos n;
          in_range = record {
            from_within = record { from = from.from; to = from.to };
            to_within = record { from = to.from; to = to.to };
            in_order = omega (arith, ints, order);
          };
        },
        record { first = x; second = y; words = words; from = from; to = to },
      )

      by : HasSomeOrNone (λ n. IsDepth x (pos n)) → HasSomeOrNone (λ n. IsDepth y (pos n)) → HasSomeOrNone (AreDepths text)
      by (inl (m, from)) (inl (n, to)) = of_order m n from to (cases_lt n m)
      by (inr never) second = inr (no_first text x y words (λ v read. let n = as_count x v read in never n.0 n.1))
      by (inl first) (inr never) = inr (no_second text x y words (λ v read. let n = as_count y v read in never n.0 n.1))

  -- a text is a range, or is none
  pub some_depths : IsReadOnce → (text : Text) → HasSomeOrNone (AreDepths text)
  some_depths once text = by (between_colons text) refl
    where
      by : (parts : List Text) → between_colons text ≡ parts → HasSomeOrNone (AreDepths text)
      by [] none = inr (λ r are. cc (none, are.words))
      by (x ∷ []) one = inr (λ r are. cc (one, are.words))
      by (x ∷ y ∷ []) two = two_ends once text x y two
      by (x ∷ y ∷ z ∷ rest) more = inr (λ r are. cc (more, are.words))
