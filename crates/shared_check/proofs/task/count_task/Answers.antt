use Rattle.std.proofs.Common.{[], length, sym, subst}
use Rattle.certificate_walk.specs.Walking.{IsWalkOf}
use Rattle.shared_check.proofs.Parting.{room_for}
use Rattle.shared_check.proofs.task.count_task.Goals as goal

pub walk_under-requires-clause-fits : goal.walk_under-requires-clause-fits
walk_under-requires-clause-fits c = record {
  taken = [];
  tokens = c.requires.tokens;
  known = tt;
  of_kind = subst (λ q. IsWalkOf c.guide.result.now q c.requires.tokens) (sym c.in_ok-track.ensures.prefix) (subst (λ g. IsWalkOf g c.args.task.now c.requires.tokens) (sym c.guide.ensures) c.requires.walk);
  fits = room_for (length c.requires.tokens) c.requires.fits;
}
