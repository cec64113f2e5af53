-- raises in the making
use Rattle.std.proofs.Common.{◌≡◌, ◌≢◌, ℕ, ◌+◌, ◌<◌, List, ◌∷◌, [], ◌++◌, length, set, sym, subst, ◌∙◌, arith, ◌⊎◌, inl, inr, get_or, ℤ, pos}
use Rattle.std.proofs.lemmas.Bool.{cases_eq}
use Rattle.std.proofs.lemmas.List.{length-set, get_or-set_same, get_or-set_other, length-append, get_or_append_left, get_or_push}
use Rattle.charge_model.specs.Problem.{Problem}
use Rattle.prefix_extremes.specs.declared.amount.Amount.{Amount}
use Rattle.level_candidates.specs.declared.raises.RaiseRow.{RaiseRow}
use Rattle.level_candidates.specs.Plans.{IsRaise, raise_at, IsRaiseRow, AreRaiseRows}

-- a row of 64 places, those of the sites below k being written
pub record IsMade (p : Problem) (last : ℤ) (d k : ℕ) (row : RaiseRow) : Type 0 where
  pub full : length row.raises ≡ 64
  pub written : (i : ℕ) → i < k → IsRaise p last d i (raise_at row i)

pub made_more : (p : Problem) (last : ℤ) (d k : ℕ) (row : RaiseRow) (a : Amount) → k < 64 → IsMade p last d k row → IsRaise p last d k a → IsMade p last d (k + 1) (record { raises = set row.raises k a })
made_more p last d k row a l made is = record {
  full = length-set row.raises k a ∙ made.full;
  written = λ i h. by i h (cases_eq i k);
}
  where
    zero_amount : Amount
    zero_amount = record { value = pos 0 }

    by : (i : ℕ) → i < k + 1 → (i ≡ k) ⊎ (i ≢ k) → IsRaise p last d i (raise_at (record { raises = set row.raises k a }) i)
    by i h (inl same) = subst (λ j. IsRaise p last d j (raise_at (record { raises = set row.raises k a }) j)) (sym same)
        (subst (IsRaise p last d k) (sym (get_or-set_same row.raises k a (record { value = pos 0 }) (omega (arith, l, made.full)))) is)
    by i h (inr ne) = subst (IsRaise p last d i) (sym (get_or-set_other row.raises k i a (record { value = pos 0 }) ne)) (made.written i (omega (arith, h, ne)))

pub rows_more : (p : Problem) (last : ℤ) (n : ℕ) (rows : List RaiseRow) (row : RaiseRow) → AreRaiseRows p last n rows → IsRaiseRow p last n row → AreRaiseRows p last (n + 1) (rows ++ row ∷ [])
rows_more p last n rows row h is = record {
  whole = omega (arith, h.whole, length-append rows (row ∷ []));
  each = λ d x l. by d x l (cases_eq d n);
}
  where
    by : (d : ℕ) (x : RaiseRow) → d < n + 1 → (d ≡ n) ⊎ (d ≢ n) → IsRaiseRow p last d (get_or (rows ++ row ∷ []) d x)
    by d x l (inl same) = subst (λ j. IsRaiseRow p last j (get_or (rows ++ row ∷ []) j x)) (sym same) (subst (IsRaiseRow p last n) (sym (get_or_push rows row x n h.whole)) is)
    by d x l (inr ne) =
        let within : d < length rows = omega (arith, l, ne, h.whole) in
        subst (IsRaiseRow p last d) (sym (get_or_append_left rows (row ∷ []) x d within)) (h.each d x (omega (arith, l, ne)))
