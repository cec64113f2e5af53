-- what is attained bounds the least certain energy
use Rattle.std.proofs.Common.{◌≡◌, ℤ, ◌≤ℤ◌, refl}
use Rattle.std.specs.Prelude.{Option, Some, None}
use Rattle.charge_model.specs.Problem.{Problem}
use Rattle.charge_model.specs.Tree.{IsAttained, IsLeastCertain}

pub attained_bound : (p : Problem) (bound : Option ℤ) (e : ℤ) → IsLeastCertain p bound → IsAttained p e → (least : ℤ) × (bound ≡ Some least) × (least ≤ℤ e)
attained_bound p None e none (c, is) = absurd (none c is.is_list is.valid)
attained_bound p (Some least) e bound attained = (least, refl, bound.least e attained)
