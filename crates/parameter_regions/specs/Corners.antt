-- the two corners of a rectangle of parameters
use Rattle.std.specs.Prelude.{◌≡◌, ◌≤ℤ◌}
use Rattle.model_params.specs.declared.params.Params.{Params}

-- the weakest corner has no less permittivity and no more screening length than the strongest;
-- all else is the same
pub record AreCorners (weakest strongest : Params) : Type 0 where
  pub coulomb : weakest.coulomb ≡ strongest.coulomb
  pub eps : strongest.eps ≤ℤ weakest.eps
  pub lam : weakest.lam ≤ℤ strongest.lam
  pub depth : weakest.depth ≡ strongest.depth
  pub gap : weakest.gap ≡ strongest.gap
  pub base : weakest.base ≡ strongest.base
