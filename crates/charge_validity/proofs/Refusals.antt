-- a certainly valid list has no other mark by its own inequalities
use Rattle.std.proofs.Common.{[], ◌∷◌}
use Rattle.charge_model.specs.declared.charge.Charge.TheVariants.{Neg}
use Rattle.charge_model.specs.declared.mark.Deciding.{Deciding}
use Rattle.charge_model.specs.declared.mark.Mark.TheVariants.{Unresolved}
use Rattle.charge_model.proofs.OneSite.{one_site}
use Rattle.charge_validity.specs.OwnMarks.{IsOwnMark}
use Rattle.charge_validity.proofs.OwnMarkLemmas.{own_not_certain}
use Rattle.charge_validity.proofs.StandardFacts.{negative_certain}

not_unresolved : (d : Deciding) → IsOwnMark one_site (Neg ∷ []) (Unresolved d) → ⊥
not_unresolved d is = own_not_certain one_site (Neg ∷ []) d is negative_certain
