-- what a search for a good list has found
use Rattle.std.specs.Prelude.{◌≡◌, IfSome}
use Rattle.charge_model.specs.Problem.{Problem}
use Rattle.charge_model.specs.Tree.{IsAttained}
use Rattle.incumbent.specs.declared.hunt.Hunt.{Hunt}

-- its track is one of the problem, and the energy, if there is one, is attained
pub record IsHunt (p : Problem) (h : Hunt) : Type 0 where
  pub problem : h.track.problem ≡ p
  pub attained : IfSome h.energy (IsAttained p)
