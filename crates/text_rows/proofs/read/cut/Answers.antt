use Rattle.std.proofs.lemmas.List.{take_rest}
use Rattle.text_rows.proofs.Cuts.{cut_at, cut_none, cut_bytes}
use Rattle.std.proofs.Common.{sym}
use Rattle.text_rows.proofs.read.cut.Goals as goal

pub returns-in-Some-clause-parts : goal.returns-in-Some-clause-parts
returns-in-Some-clause-parts c = rw take_rest (cut_at _ c.args.text.now c.in-Some.at (sym c.in-Some.ensures))

pub returns-in-None-clause-whole : goal.returns-in-None-clause-whole
returns-in-None-clause-whole c = cut_none _ c.args.text.now (sym c.in-None.ensures)

pub returns-in-Some-clause-bytes : goal.returns-in-Some-clause-bytes
returns-in-Some-clause-bytes c = rw take_rest (cut_bytes c.args.byte c.args.text.now c.in-Some.at (sym c.in-Some.ensures))
