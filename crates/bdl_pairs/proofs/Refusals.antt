-- what is no reading and no verdict
use Rattle.std.proofs.Common.{◌≡◌, ℕ, refl, List, [], ◌∷◌, Bool, true, false, arith}
use Rattle.charge_model.specs.declared.charge.Charge.TheVariants.{Neg, Neutral, Pos}
use Rattle.charge_model.specs.declared.mark.Mark.TheVariants.{Certain, Unresolved}
use Rattle.charge_model.specs.declared.mark.Deciding.TheVariants.{Hop, Population, Rival}
use Rattle.charge_model.specs.declared.span.Span.{Span}
use Rattle.charge_model.specs.declared.charge.Test.{Test}
use Rattle.charge_model.specs.GroundList.{Entry}
use Rattle.gate_model.specs.declared.pairs.PairOf.{PairOf}
use Rattle.bdl_pairs.specs.Readings.{Reads}
use Rattle.bdl_pairs.specs.Remaining.{emptied_by}
use Rattle.bdl_pairs.specs.Verdict.{IsFailing, IsMarkedValid, IsWorking}
use Rattle.bdl_pairs.proofs.StandardFacts.{pair, wire_end}

-- a pair of which both sites or neither are negative reads no bit
both : (bit : Bool) → Reads (Neg ∷ Neg ∷ []) (pair 0 1) bit → ⊥
unfolding Reads
both false is = is.1 refl
both true is = is.1 refl

neither : (bit : Bool) → Reads (Pos ∷ Neutral ∷ []) (pair 0 1) bit → ⊥
unfolding Reads
neither false is = let wrong = is.0 in absurd (cc)
neither true is = let wrong = is.0 in absurd (cc)

-- no gate works without entries, and none fails
nothing_works : (outputs : List PairOf) (wanted : Bool) → IsWorking outputs wanted [] → ⊥
nothing_works outputs wanted is = let place = is.valid.1 in let lt = place.1 in omega (arith, lt)

nothing_fails : (outputs : List PairOf) (wanted : Bool) → IsFailing outputs wanted [] → ⊥
nothing_fails outputs wanted is = let place = is.member in let lt = place.1 in omega (arith, lt)

-- an entry that is unresolved by a test or a hop is not known to be valid
by_a_test : (i : ℕ) (k : Test) (s : Span) → IsMarkedValid (Unresolved (Population i k s)) → ⊥
by_a_test i k s is = is

by_a_hop : (i j : ℕ) (s : Span) → IsMarkedValid (Unresolved (Hop i j s)) → ⊥
by_a_hop i j s is = is

-- bit 0 does not empty site a
other_site : emptied_by (pair 0 3 ∷ []) 0 ≡ 0 ∷ [] → ⊥
other_site is = absurd (cc is)
