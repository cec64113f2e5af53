use Rattle.prefix_laws.proofs.Refused.{refused_closes, refused_is_no_node, own_kept}
use Rattle.prefix_laws.proofs.laws.refused_charges_close.Goals as goal

pub returns : goal.returns
returns c = record { closed = refused_closes; no_node = refused_is_no_node; still = own_kept }
