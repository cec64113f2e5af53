-- what is no part of a bound, no limit of a charge, no span, and not written
use Rattle.std.proofs.Common.{[], ◌∷◌, ap, pos, neg_ℤ}
use Rattle.charge_model.specs.declared.charge.Charge.TheVariants.{Neg}
use Rattle.charge_model.specs.Problem.{class_of, near_class_of}
use Rattle.charge_model.specs.Prefixes.{least_fixed, greatest_fixed}
use Rattle.prefix_rows.specs.Limits.{IsLimit}
use Rattle.prefix_rows.specs.Rows.{IsSpanOfPair, IsRowWritten}
use Rattle.prefix_rows.specs.Tables.{IsPrefixPart}
use Rattle.prefix_rows.proofs.StandardFacts.{neighbours, amount}

-- a pair is in the part of its sites
no_pair_left_out : IsPrefixPart neighbours (Neg ∷ Neg ∷ []) 2 (record { value = pos 0 }) → ⊥
unfolding least_fixed greatest_fixed class_of near_class_of
no_pair_left_out is = let e = is.value in cc

-- the limits of one charge are not those of another
no_other_limit : IsLimit neighbours Neg (record { least = record { value = neg_ℤ (pos 320000000000) }; greatest = record { value = neg_ℤ (pos 910000000000) } }) → ⊥
no_other_limit is = let e = is.greatest in cc

-- the greatest is written with the least
not_half_written : IsRowWritten (record { least = amount 0 ∷ []; greatest = amount 0 ∷ [] }) 0 (record { least = amount 3; greatest = amount 5 })
    (record { least = amount 3 ∷ []; greatest = amount 0 ∷ [] }) → ⊥
not_half_written is = let e = ap (λ x. x.greatest.value) is.here in cc

-- a site adds nothing to its own potential
no_own_span : IsSpanOfPair neighbours 1 1 (record { least = amount 620124254312; greatest = amount 620124254313 }) → ⊥
no_own_span is = let e = is.lo in cc
