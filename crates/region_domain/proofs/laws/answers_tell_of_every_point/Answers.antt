use Rattle.region_domain.proofs.Telling.{LawsTell, tells}
use Rattle.region_domain.proofs.laws.answers_tell_of_every_point.Goals as goal

pub returns : goal.returns
returns c =
    let laws : LawsTell = record {
      tables = c.tables_at_points_are_tables.ensures;
      there = c.working_patterns_have_ground_states.ensures;
      right = c.working_patterns_read_the_bit.ensures;
      wrong = c.failing_patterns_miss_the_bit.ensures;
    } in
    λ placed r answer is. tells laws placed r answer is
