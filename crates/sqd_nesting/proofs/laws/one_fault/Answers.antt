use Rattle.sqd_nesting.proofs.Endings.{one_first_fault}
use Rattle.sqd_nesting.proofs.laws.one_fault.Goals as goal

pub returns : goal.returns
returns c = one_first_fault (record { one_mark = c.one_mark.ensures; no_fault = c.no_mark_fault.ensures; one_fault = c.one_mark_fault.ensures })
