use Rattle.std.proofs.Common.{refl}
use Rattle.table_lines.proofs.CountLemmas.{counted_push}
use Rattle.table_lines.proofs.note.push_line.Goals as goal

pub returns-clause-counted : goal.returns-clause-counted
returns-clause-counted c =
    counted_push c.args.seen.now c.note.new.seen _ c.args.line c.requires.counted c.in_ok-note.ensures (record { lines = c.in_ok-push.ensures.items; second = refl; sites = refl; fixed = refl; base = refl; minus = refl; plus = refl; charges = refl; spans = refl; pairs = refl; near = refl })
