use Rattle.std.proofs.Common.{refl}
use Rattle.std.proofs.lemmas.Result.{err_from_is_err_and}
use Rattle.sqd_nesting.specs.Views.{nest_of}
use Rattle.sqd_nesting.proofs.Reading.{passed, turn_fault}
use Rattle.sqd_nesting.proofs.read.pass.Goals as goal

pub returns-in_err-nesting-clause-err : goal.returns-in_err-nesting-clause-err
returns-in_err-nesting-clause-err c =
    let returned = err_from_is_err_and c.from_residual.result c.from_residual.ensures.1 in
    rw (returned.1, returned.2) (turn_fault c.args.reader.at c.args.reader.left.now (nest_of c.args.reader.nesting) c.args.ahead c.in_err-nesting.field-0.0 c.cut_at-cut.result.bytes.now c.requires.next c.cut_at-cut.ensures.bytes c.in_err-nesting.ensures.err)

pub returns-clause-ok : goal.returns-clause-ok
returns-clause-ok c =
    passed c.args.reader.at c.args.reader.left.now (nest_of c.args.reader.nesting) c.args.ahead _ c.requires.next (record { turns = c.in_ok-nesting.ensures.ok }) refl refl c.cut_at-cut.ensures.bytes refl c.cut_at-cut.ensures.behind
