-- a hop that changes no energy is not called one that lowers it, nor one that depends on the table
use Rattle.std.proofs.Common.{[], ◌∷◌, arith}
use Rattle.std.proofs.lemmas.Int.{ints}
use Rattle.charge_model.specs.declared.charge.Charge.TheVariants.{Neg, Neutral}
use Rattle.hop_rule.specs.declared.verdict.HopVerdict.TheVariants.{Never, Depends}
use Rattle.hop_rule.specs.Verdict.{IsHopVerdict}
use Rattle.hop_rule.proofs.StandardFacts.{neighbours, span, lowest, lowest_is, one_charge}

not_never : IsHopVerdict neighbours (Neg ∷ Neutral ∷ []) 0 1 Never → ⊥
not_never never = let low = never lowest lowest_is in let e = one_charge lowest in omega (arith, ints, low, e)

not_depends : IsHopVerdict neighbours (Neg ∷ Neutral ∷ []) 0 1 (Depends span) → ⊥
not_depends is = let fails = is.fails in let low = fails.2 in let e = one_charge fails.0 in omega (arith, ints, low, e)
