-- one more entry, and one more span of its energy
use Rattle.std.proofs.Common.{◌≡◌, ℕ, suc, ◌+◌, List, [], ◌∷◌, ◌++◌, length, take, Some, refl, subst, sym, ap, ◌∙◌}
use Rattle.std.specs.List.{slice_get}
use Rattle.std.proofs.lemmas.List.{take_more}
use Rattle.std.proofs.lemmas.Option.{slice_get_within, get_or_from_slice_get}
use Rattle.charge_model.specs.declared.span.Span.{Span}
use Rattle.charge_model.specs.Problem.{Problem}
use Rattle.charge_model.specs.GroundList.{Entry}
use Rattle.ground_report.specs.Energies.{IsEnergySpan, AreEnergies}

behind : (p : Problem) (es : List Entry) (e : Entry) (spans : List Span) (s : Span) → AreEnergies p es spans → IsEnergySpan p e.charges s → AreEnergies p (es ++ e ∷ []) (spans ++ s ∷ [])
behind p [] e [] s before is = (is, _)
behind p [] e (t ∷ spans) s before is = elim before [ ]
behind p (f ∷ es) e [] s before is = elim before [ ]
behind p (f ∷ es) e (t ∷ spans) s before is = (before.0, behind p es e spans s before.1 is)

pub one_each : (p : Problem) (es : List Entry) (spans : List Span) → AreEnergies p es spans → length spans ≡ length es
one_each p [] [] energies = refl
one_each p [] (s ∷ spans) energies = elim energies [ ]
one_each p (e ∷ es) [] energies = elim energies [ ]
one_each p (e ∷ es) (s ∷ spans) energies = ap suc (one_each p es spans energies.1)

pub one_more : (p : Problem) (es : List Entry) (j : ℕ) (e : Entry) (old new : List Span) (s : Span) → slice_get es j ≡ Some e → AreEnergies p (take j es) old → IsEnergySpan p e.charges s → new ≡ old ++ s ∷ [] → AreEnergies p (take (j + 1) es) new
one_more p es j e old new s here before is pushed =
    let taken : take (j + 1) es ≡ take j es ++ e ∷ [] = take_more es j e (slice_get_within es j e here) ∙ ap (λ x. take j es ++ x ∷ []) (get_or_from_slice_get es j e e here) in
    subst (λ spans. AreEnergies p (take (j + 1) es) spans) (sym pushed) (subst (λ xs. AreEnergies p xs (old ++ s ∷ [])) (sym taken) (behind p (take j es) e old s before is))
