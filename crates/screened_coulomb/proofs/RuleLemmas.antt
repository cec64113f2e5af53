-- the rounding rule gives one span
use Rattle.std.proofs.Common.{◌≡◌, ◌∙◌, ℕ, ◌+◌, ◌*◌, ◌^◌, ◌<◌, ℤ, pos, sym, ap, arith}
use Rattle.root_exp.specs.Root.{IsRoot}
use Rattle.model_params.specs.declared.params.Params.{Params}
use Rattle.screened_coulomb.specs.Rounding.{IsRoundedSpan, rounded_ends}
use Rattle.screened_coulomb.proofs.OrderLemmas.{square_lt}

one_root : (n a b : ℕ) → IsRoot n a → IsRoot n b → a ≡ b
one_root n a b of_a of_b =
    let below : a * a < (b + 1) * (b + 1) = omega (arith, of_a.root, of_b.greatest) in
    let above : b * b < (a + 1) * (a + 1) = omega (arith, of_b.root, of_a.greatest) in
    omega (arith, square_lt a (b + 1) below, square_lt b (a + 1) above)

pub one_span : (p : Params) (d : ℕ) (lo hi lo2 hi2 : ℤ) → IsRoundedSpan p d lo hi → IsRoundedSpan p d lo2 hi2 → (lo ≡ lo2) × (hi ≡ hi2)
one_span p d lo hi lo2 hi2 is other =
    let same = one_root (d * 4 ^ 40) is.root other.root is.root_is other.root_is in (
      is.lo_is ∙ ap (λ root. pos (rounded_ends p root).lo) same ∙ sym other.lo_is,
      is.hi_is ∙ ap (λ root. pos (rounded_ends p root).hi) same ∙ sym other.hi_is,
    )
