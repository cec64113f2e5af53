use Rattle.sqd_nesting.proofs.Endings.{whole_no_fault}
use Rattle.sqd_nesting.proofs.laws.no_fault.Goals as goal

pub returns : goal.returns
returns c = whole_no_fault (record { one_mark = c.one_mark.ensures; no_fault = c.no_mark_fault.ensures; one_fault = c.one_mark_fault.ensures })
