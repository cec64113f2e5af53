use Rattle.prefix_laws.proofs.Extremes.{least_of_full, greatest_of_full, least_potential-le, le-greatest_potential}
use Rattle.prefix_laws.proofs.Openings.{takes}
use Rattle.std.proofs.Common.{take}
use Rattle.prefix_laws.proofs.laws.potentials_lie_between.Goals as goal

pub returns : goal.returns
returns c = record {
  least = λ p c k is list l t table. least_of_full p c t k is list table l;
  greatest = λ p c k is list l t table. greatest_of_full p c t k is list table l;
  least_of_prefix = λ p c m k is list possible l t table. least_potential-le p c (take m c) t k (takes p c m is list possible) table l;
  greatest_of_prefix = λ p c m k is list possible l t table. le-greatest_potential p c (take m c) t k (takes p c m is list possible) table l;
}
