-- one site alone, worked by hand: negative it is certainly valid, since its potential is 0 and above the level
use Rattle.std.proofs.Common.{[], ◌∷◌, arith}
use Rattle.charge_model.specs.declared.charge.Charge.TheVariants.{Neg}
use Rattle.charge_model.specs.declared.mark.Mark.TheVariants.{Certain}
use Rattle.charge_model.proofs.OneSite.{one_site, one_site_list}
use Rattle.charge_validity.specs.OwnMarks.{IsOwnMark}

pub negative_certain : IsOwnMark one_site (Neg ∷ []) Certain
negative_certain = (one_site_list.marks 0 (record { charges = Neg ∷ []; mark = Certain }) (omega arith)).valid
