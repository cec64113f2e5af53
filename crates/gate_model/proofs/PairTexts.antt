-- each text is some list of pairs, or is none
use Rattle.std.proofs.Common.{◌≡◌, refl, ℕ, pos, ◌<◌, ◌≤◌, List, [], ◌∷◌, ◌⊎◌, inl, inr, length, arith}
use Rattle.std.specs.List.{AllZip}
use Rattle.std.proofs.lemmas.Bool.{cases_lt}
use Rattle.std.proofs.lemmas.Slice.Zip.{AllZip-long}
use Rattle.gate_model.specs.declared.TheConstants.{MAX_PAIR_PLACE}
use Rattle.gate_model.specs.declared.pairs.PairOf.{PairOf}
use Rattle.gate_model.specs.Pairs.{ArePairs, IsPair, IsPlace, between_colons, parts}
use Rattle.gate_model.proofs.PairLemmas.{no_first, no_second}
use Rattle.gate_model.proofs.Decided.{AreReadings, HasSomeOrNone, some_count}

module _ (readings : AreReadings) where
  -- two words are some pair, or are none
  two_words : (part x y : List ℕ) → between_colons part ≡ x ∷ y ∷ [] → HasSomeOrNone (IsPair part)
  two_words part x y words = by (some_count readings x 0 (pos 0) MAX_PAIR_PLACE) (some_count readings y 0 (pos 0) MAX_PAIR_PLACE)
    where
      by : HasSomeOrNone (IsPlace x) → HasSomeOrNone (IsPlace y) → HasSomeOrNone (IsPair part)
      by (inl (a, is_a)) (inl (b, is_b)) = inl (
        record { a = a; b = b },
        record { a_word = x; b_word = y; words = words; a = is_a; b = is_b },
      )
      by (inr never) second = inr (no_first part x y words never)
      by (inl first) (inr never) = inr (no_second part x y words never)

  -- a part of a text is some pair, or is none
  some_pair : (part : List ℕ) → HasSomeOrNone (IsPair part)
  some_pair part = by (between_colons part) refl
    where
      by : (words : List (List ℕ)) → between_colons part ≡ words → HasSomeOrNone (IsPair part)
      by [] none = inr (λ pair is. cc (none, is.words))
      by (x ∷ []) one = inr (λ pair is. cc (one, is.words))
      by (x ∷ y ∷ []) two = two_words part x y two
      by (x ∷ y ∷ z ∷ rest) more = inr (λ pair is. cc (more, is.words))

  -- parts are some pairs, or are none
  some_pairs : (xs : List (List ℕ)) → HasSomeOrNone (AllZip IsPair xs)
  some_pairs [] = inl ([], tt)
  some_pairs (x ∷ xs) = by (some_pair x) (some_pairs xs)
    where
      by : HasSomeOrNone (IsPair x) → HasSomeOrNone (AllZip IsPair xs) → HasSomeOrNone (AllZip IsPair (x ∷ xs))
      by (inl (pair, is)) (inl (pairs, are)) = inl (pair ∷ pairs, (is, are))
      by (inr never) later = inr none
        where
          none : (pairs : List PairOf) → AllZip IsPair (x ∷ xs) pairs → ⊥
          none [] zip = zip
          none (pair ∷ pairs) zip = never pair zip.0
      by (inl first) (inr never) = inr none
        where
          none : (pairs : List PairOf) → AllZip IsPair (x ∷ xs) pairs → ⊥
          none [] zip = zip
          none (pair ∷ pairs) zip = never pairs zip.1

  -- a text is some list of pairs, or is none
  pub some_list : (most : ℕ) (text : List ℕ) → HasSomeOrNone (ArePairs most text)
  some_list most text = by (some_pairs (parts text)) (cases_lt most (length (parts text)))
    where
      by : HasSomeOrNone (AllZip IsPair (parts text)) → (most < length (parts text)) ⊎ (length (parts text) ≤ most) → HasSomeOrNone (ArePairs most text)
      by (inl (pairs, zip)) (inr few) = inl (
        pairs,
        record { each = zip; few = omega (arith, AllZip-long IsPair (parts text) pairs zip, few) },
      )
      by some (inl many) = inr (λ pairs are. omega (arith, AllZip-long IsPair (parts text) pairs are.each, are.few, many))
      by (inr never) (inr few) = inr (λ pairs are. never pairs are.each)
