-- solved problems as the definitions see them
use Rattle.narrower_lists.specs.Listed.{ListedProblem}
use Rattle.narrower_lists.specs.declared.solved.SolvedProblem.TheInside.{Inside}

-- what the fields stand for
abbrev pub seen : Inside → ListedProblem
seen s = record { problem = s.problem; limit = s.limit; list = s.list }
