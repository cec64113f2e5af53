-- parameters that differ in permittivity and screening length alone
use Rattle.std.specs.Prelude.{◌≡◌}
use Rattle.model_params.specs.declared.params.Params.{Params}

-- the Coulomb number, the levels and the base are the same
pub record AreAlike (p q : Params) : Type 0 where
  pub coulomb : q.coulomb ≡ p.coulomb
  pub depth : q.depth ≡ p.depth
  pub gap : q.gap ≡ p.gap
  pub base : q.base ≡ p.base
