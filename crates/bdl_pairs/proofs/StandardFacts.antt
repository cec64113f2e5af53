-- readings, verdicts and what patterns empty, worked by hand
use Rattle.std.proofs.Common.{◌≡◌, ℕ, refl, List, [], ◌∷◌, Bool, true, false, arith}
use Rattle.std.specs.Prelude.{All}
use Rattle.std.proofs.lemmas.List.Elements.{All-nil, All-cons}
use Rattle.charge_model.specs.declared.charge.Charge.{Charge}
use Rattle.charge_model.specs.declared.charge.Charge.TheVariants.{Neg, Neutral, Pos}
use Rattle.charge_model.specs.declared.mark.Mark.{Mark}
use Rattle.charge_model.specs.declared.mark.Mark.TheVariants.{Certain, Unresolved}
use Rattle.charge_model.specs.declared.mark.Deciding.{Deciding}
use Rattle.charge_model.specs.declared.mark.Deciding.TheVariants.{Rival}
use Rattle.charge_model.specs.declared.span.Span.{Span}
use Rattle.charge_model.specs.GroundList.{Entry}
use Rattle.gate_model.specs.declared.pairs.PairOf.{PairOf}
use Rattle.bdl_pairs.specs.Readings.{IsRight, Reads}
use Rattle.bdl_pairs.specs.Remaining.{emptied_by}
use Rattle.bdl_pairs.specs.Verdict.{IsFailing, IsMarkedValid, IsWorking}

abbrev pub pair : ℕ → ℕ → PairOf
pair a b = record { a = a; b = b }

-- site a alone is negative: 0; site b alone: 1
reads_0 : Reads (Neg ∷ Neutral ∷ []) (pair 0 1) false
unfolding Reads
reads_0 = (refl, λ e. absurd (cc e))

reads_1 : Reads (Pos ∷ Neg ∷ []) (pair 0 1) true
unfolding Reads
reads_1 = (refl, λ e. absurd (cc e))

-- one input: site b is emptied for bit 0, site a for bit 1
empties_b : emptied_by (pair 0 3 ∷ []) 0 ≡ 3 ∷ []
empties_b = refl

empties_a : emptied_by (pair 0 3 ∷ []) 1 ≡ 0 ∷ []
empties_a = refl

-- two inputs: the first is the most significant bit
empties_two : emptied_by (pair 0 1 ∷ pair 5 7 ∷ []) 1 ≡ 1 ∷ 5 ∷ []
empties_two = refl

empties_two_more : emptied_by (pair 0 1 ∷ pair 5 7 ∷ []) 2 ≡ 0 ∷ 7 ∷ []
empties_two_more = refl

-- a wire end: its last two sites read 1
abbrev pub wire_end : Mark → Entry
wire_end mark = record { charges = Neg ∷ Neutral ∷ Neg ∷ []; mark = mark }

right : IsRight (pair 1 2 ∷ []) true (Neg ∷ Neutral ∷ Neg ∷ [])
unfolding IsRight Reads
right = All-cons (λ p. Reads (Neg ∷ Neutral ∷ Neg ∷ []) p true) (pair 1 2) [] (refl, λ e. absurd (cc e)) (All-nil (λ p. Reads (Neg ∷ Neutral ∷ Neg ∷ []) p true))

-- where 1 is wanted it works, by a certain entry, and by one that is unresolved by a rival alone
works : IsWorking (pair 1 2 ∷ []) true (wire_end Certain ∷ [])
works = record {
  right = All-cons (λ (e : Entry). IsRight (pair 1 2 ∷ []) true e.charges) (wire_end Certain) [] right (All-nil (λ (e : Entry). IsRight (pair 1 2 ∷ []) true e.charges));
  valid = (wire_end Certain, (0, omega arith, refl), tt);
}

valid_by_a_rival : (j : ℕ) (s : Span) → IsMarkedValid (Unresolved (Rival j s))
valid_by_a_rival j s = tt

-- where 0 is wanted it fails
fails : IsFailing (pair 1 2 ∷ []) false (wire_end Certain ∷ [])
unfolding IsRight Reads
fails = record { entry = wire_end Certain; member = (0, omega arith, refl); certain = refl; wrong = λ all. let first = all 0 (pair 1 2) (omega arith) in absurd (cc (first.0)) }
