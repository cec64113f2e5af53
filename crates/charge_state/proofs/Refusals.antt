-- each definition refuses a wrong value
use Rattle.std.proofs.Common.{◌≡◌, [], ◌∷◌, refl, arith, codes, ◌⊎◌, inl, inr}
use Rattle.charge_model.specs.declared.charge.Charge.TheVariants.{Neg, Neutral, Pos}
use Rattle.charge_model.specs.Charges.{IsBefore}
use Rattle.charge_state.specs.Order.{IsRun, IsListOf, HoldsEach}
use Rattle.charge_state.specs.Text.{BreaksTextAt, ReadsCharges}

-- a run that skips a list, that stops early, and that begins late
no_skip : IsRun 3 1 ((Neg ∷ []) ∷ (Pos ∷ []) ∷ []) → ⊥
no_skip run = by (run.1.0.none_between (Neutral ∷ []) refl ((λ two e. absurd (omega (arith, two))), tt) (inl (omega arith)))
  where
    by : ((Neutral ∷ []) ≡ (Pos ∷ [])) ⊎ IsBefore (Pos ∷ []) (Neutral ∷ []) → ⊥
    by (inl e) = cc
    by (inr (inl lt)) = omega (arith, lt)
    by (inr (inr both)) = both.1

no_early_end : IsRun 3 1 ((Neg ∷ []) ∷ []) → ⊥
no_early_end run = run.1 (Neutral ∷ []) refl ((λ two e. absurd (omega (arith, two))), tt) (inl (omega arith))

no_late_start : IsRun 3 1 ((Neutral ∷ []) ∷ (Pos ∷ []) ∷ []) → ⊥
no_late_start run = let e = run.0 in cc

no_other_length : IsListOf 3 2 (Neg ∷ []) → ⊥
no_other_length is = omega (arith, is.whole)

no_positive : IsListOf 2 1 (Pos ∷ []) → ⊥
no_positive is = is.of_base.0 refl refl

-- falling lists, a list of another length, and a list left out
no_falling : HoldsEach 2 1 ((Neutral ∷ []) ∷ (Neg ∷ []) ∷ []) → ⊥
no_falling holds = by (holds.in_order 0 1 [] (omega arith) (omega arith))
  where
    by : IsBefore (Neutral ∷ []) (Neg ∷ []) → ⊥
    by (inl lt) = omega (arith, lt)
    by (inr both) = both.1

no_missing : HoldsEach 3 1 [] → ⊥
no_missing holds = let found = holds.each (Neg ∷ []) (record { whole = refl; of_base = ((λ two e. absurd (omega (arith, two))), tt) }) in omega (arith, found.1)

-- another charge, an earlier byte, a later byte, and the end of a whole text
no_other_sign : ReadsCharges (codes "0") (Neg ∷ []) → ⊥
no_other_sign is = let e = is.reads in absurd (cc)

no_earlier_byte : BreaksTextAt (codes "-x") 0 → ⊥
no_earlier_byte is = is.breaks (omega arith) (Neg ∷ [], [], refl)

no_later_byte : BreaksTextAt (codes "-x") 3 → ⊥
no_later_byte is = omega (arith, is.within)

no_whole_text : BreaksTextAt (codes "-") 1 → ⊥
no_whole_text is = is.ends refl (Neg ∷ []) refl
