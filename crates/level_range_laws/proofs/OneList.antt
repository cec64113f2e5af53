-- there is one list of all candidates of an interval
use Rattle.std.proofs.Common.{◌≡◌, List}
use Rattle.std.proofs.lemmas.List.Elements.{All-contains}
use Rattle.charge_model.specs.declared.charge.Charge.{Charge}
use Rattle.charge_model.specs.Problem.{Problem}
use Rattle.level_range_laws.specs.declared.interval.Interval.{Interval}
use Rattle.level_range_laws.specs.Levels.{IsCandidateIn}
use Rattle.level_range_laws.specs.Candidates.{AreAllCandidates}
use Rattle.charge_model.proofs.Order.{same_ascending}

pub one_list : (p : Problem) (levels : Interval) (a b : List (List Charge)) → AreAllCandidates p levels a → AreAllCandidates p levels b → a ≡ b
one_list p levels a b g h = same_ascending a b g.in_order h.in_order
    (λ c held. h.each c (All-contains (IsCandidateIn p levels) a c g.only held))
    (λ c held. g.each c (All-contains (IsCandidateIn p levels) b c h.only held))
