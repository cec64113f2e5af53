-- the verdicts that one site alone does not have
use Rattle.std.proofs.Common.{pos, [], ◌∷◌, inr, refl, arith}
use Rattle.std.proofs.lemmas.Int.{ints}
use Rattle.charge_model.specs.declared.charge.Charge.TheVariants.{Neg, Neutral}
use Rattle.charge_model.specs.declared.charge.Test.TheVariants.{AboveMinus, BelowMinus}
use Rattle.charge_model.specs.declared.span.Span.{Span}
use Rattle.population_rule.specs.declared.verdict.PopulationVerdict.TheVariants.{Always, Never, Depends}
use Rattle.population_rule.specs.Verdict.{IsPopulationVerdict}
use Rattle.population_rule.proofs.StandardFacts.{one_site, some_table, some_table_is, no_potential}

neutral_not_always : IsPopulationVerdict one_site (Neutral ∷ []) 0 Always → ⊥
neutral_not_always always =
    let high = always BelowMinus (inr refl) some_table some_table_is in
    let v = no_potential some_table (Neutral ∷ []) in omega (arith, ints, high, v)

negative_not_depends : (s : Span) → IsPopulationVerdict one_site (Neg ∷ []) 0 (Depends AboveMinus s) → ⊥
negative_not_depends s is =
    let fails = is.first.fails in
    let low = fails.2 in
    let v = no_potential fails.0 (Neg ∷ []) in omega (arith, ints, low, v)

neutral_not_depends : (s : Span) → IsPopulationVerdict one_site (Neutral ∷ []) 0 (Depends BelowMinus s) → ⊥
neutral_not_depends s is =
    let some = is.possible BelowMinus (inr refl) in
    let high = some.2 in
    let positive = some.1.positive in
    let v = no_potential some.0 (Neutral ∷ []) in omega (arith, ints, high, v, positive)
