-- lists, runs and texts worked by hand
use Rattle.std.proofs.Common.{◌≡◌, [], ◌∷◌, replicate, refl, arith, codes}
use Rattle.charge_model.specs.declared.charge.Charge.{Charge}
use Rattle.charge_model.specs.declared.charge.Charge.TheVariants.{Neg, Neutral, Pos}
use Rattle.charge_model.specs.Charges.{IsNext, IsLast}
use Rattle.charge_state.specs.Order.{IsRun}
use Rattle.charge_state.specs.Text.{byte_of, charges_text, BreaksTextAt, IsTooLongText}
use Rattle.charge_state.proofs.Numerals.{next_is, none_after_last}
use Rattle.charge_state.proofs.Readings.{point_breaks, other_breaks, empty_breaks}

text_of_three : charges_text (Neg ∷ Neutral ∷ Pos ∷ []) ≡ codes "-0+"
text_of_three = refl

text_of_none : charges_text [] ≡ codes "."
text_of_none = refl

-- after 0+ comes +-
next_of_two : IsNext 3 (Neutral ∷ Pos ∷ []) (Pos ∷ Neg ∷ [])
next_of_two = next_is 3 [] Neutral Pos (Pos ∷ []) refl (refl, tt) ((λ two e. absurd (omega (arith, two))), ((λ two e. absurd (omega (arith, two))), tt))

last_of_two : IsLast 3 (Pos ∷ Pos ∷ [])
last_of_two = none_after_last 3 (Pos ∷ Pos ∷ []) (refl, (refl, tt))

-- one site, in base 2
run_of_one : IsRun 2 1 ((Neg ∷ []) ∷ (Neutral ∷ []) ∷ [])
run_of_one = (refl, (next_is 2 [] Neg Neutral [] refl tt ((λ two e. absurd (cc)), tt), none_after_last 2 (Neutral ∷ []) (refl, tt)))

-- x is no charge, a point stands alone, and an empty text ends too early
broken_by_x : BreaksTextAt (codes "-x") 1
broken_by_x = other_breaks (codes "-x") 1 120 (Neg ∷ []) (omega arith) refl refl (λ e. absurd (omega (arith, e))) no_x
  where
    no_x : (charge : Charge) → byte_of charge ≡ 120 → ⊥
    no_x Neg e = omega (arith, e)
    no_x Neutral e = omega (arith, e)
    no_x Pos e = omega (arith, e)

broken_after_point : BreaksTextAt (codes ".-") 1
broken_after_point = point_breaks (codes ".-") (omega arith) refl

broken_empty : BreaksTextAt [] 0
broken_empty = empty_breaks [] refl

-- 65 charges are one too many
too_long : IsTooLongText (replicate 65 45)
too_long = record { charges = replicate 65 Neg; reads = refl; long = omega arith }
