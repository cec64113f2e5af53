use Rattle.std.proofs.lemmas.Int.{to_z-of_z}
use Rattle.charge_model.specs.GroundList.{lists_of}
use Rattle.window_model.specs.Windows.{ListsEachNear}
use Rattle.candidate_marks.specs.Found.{CertainAreNear, UnresolvedFailWithin}
use Rattle.energy_window.proofs.OneAnswer.{where_listed}
use Rattle.energy_window.proofs.answer.solve_window.Goals as goal

pub returns-clause-answer : goal.returns-clause-answer
returns-clause-answer g c =
    let p = c.args.problem.now in
    let fits = c.ranges.window in
    let solved = simp to_z-of_z at c.solve_within.ensures.answer in
    c.told.ensures.answer p c.args.window c.args.limit solved

pub returns-clause-each_listed : goal.returns-clause-each_listed
returns-clause-each_listed g c =
    let p = c.args.problem.now in
    let window = c.args.window in
    where_listed p window c.args.limit (λ es. ListsEachNear p window (lists_of es)) (c.near_lists_are_listed.ensures p window) c.told.result (returns-clause-answer g c)

pub returns-clause-certain : goal.returns-clause-certain
returns-clause-certain g c =
    let p = c.args.problem.now in
    let window = c.args.window in
    where_listed p window c.args.limit (CertainAreNear p window)
    (λ es is e held marked. c.certain_entries_are_near_the_ground.ensures p window es e c.requires.window.least is held marked) c.told.result (returns-clause-answer g c)

pub returns-clause-unresolved : goal.returns-clause-unresolved
returns-clause-unresolved g c =
    let p = c.args.problem.now in
    let window = c.args.window in
    where_listed p window c.args.limit (UnresolvedFailWithin p window)
    (λ es is e d held marked. c.unresolved_entries_fail_within.ensures p window es e d is held marked) c.told.result (returns-clause-answer g c)
