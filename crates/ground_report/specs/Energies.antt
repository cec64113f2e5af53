-- the energies of entries
use Rattle.std.specs.Prelude.{List, [], ◌∷◌}
use Rattle.charge_model.specs.declared.charge.Charge.{Charge}
use Rattle.charge_model.specs.declared.span.Span.{Span}
use Rattle.charge_model.specs.Problem.{Problem, IsLeast, IsGreatest}
use Rattle.charge_model.specs.Rules.{energy}
use Rattle.charge_model.specs.GroundList.{Entry}

-- the least and the greatest energy of a charge list at scale 1, in 10^-12 V
pub record IsEnergySpan (p : Problem) (c : List Charge) (s : Span) : Type 0 where
  pub least : IsLeast p (λ t. energy p t c) s.lo
  pub greatest : IsGreatest p (λ t. energy p t c) s.hi

-- one such span for each entry, in order
abbrev pub AreEnergies : Problem → List Entry → List Span → Type 0
AreEnergies p [] [] = Unit {0}
AreEnergies p [] (s ∷ spans) = ⊥
AreEnergies p (e ∷ es) [] = ⊥
AreEnergies p (e ∷ es) (s ∷ spans) = IsEnergySpan p e.charges s × AreEnergies p es spans
