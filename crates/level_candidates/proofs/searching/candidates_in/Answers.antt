use Rattle.std.proofs.Common.{◌≤◌, length, arith}
use Rattle.level_candidates.proofs.Searched.{few_candidates, many_candidates}
use Rattle.level_candidates.proofs.searching.candidates_in.Goals as goal

pub returns-then-len-gt-MAX_ENTRIES : goal.returns-then-len-gt-MAX_ENTRIES
returns-then-len-gt-MAX_ENTRIES c =
    let h = rw c.in-Ok-Some.field-0-is at c.in-Ok-Some.ensures in
    (h.within, many_candidates c.args.problem.now c.args.levels c.args.limit c.in-Ok-Some.candidates.items h (omega (arith, c.if-len-gt-MAX_ENTRIES.true, c.len.ensures)))

pub returns-else-len-gt-MAX_ENTRIES : goal.returns-else-len-gt-MAX_ENTRIES
returns-else-len-gt-MAX_ENTRIES c =
    let h = rw c.in-Ok-Some.field-0-is at c.in-Ok-Some.ensures in
    let few : length c.in-Ok-Some.candidates.items ≤ 4096 = omega (arith, c.if-len-gt-MAX_ENTRIES.false, c.len.ensures) in
    record { within = h.within; candidates = few_candidates c.args.problem.now c.args.levels c.args.limit c.in-Ok-Some.candidates.items h few; few = few }
