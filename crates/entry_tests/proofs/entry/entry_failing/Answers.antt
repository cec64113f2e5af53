use Rattle.std.proofs.Common.{subst}
use Rattle.std.specs.Prelude.{MatchBool}
use Rattle.charge_model.specs.GroundList.{Entry}
use Rattle.ground_entries.specs.Seen.{seen}
use Rattle.entry_facts.specs.Facts.{lists_of_facts}
use Rattle.entry_tests.specs.Beaten.{BeatsSomeBy, BeatsNoneBy}
use Rattle.entry_tests.proofs.Meeting.{IsAt, order_met, possible_met, unbeaten_met, beaten_unmet, mark_met, all_met, possible_fails, beaten_fails, mark_fails}
use Rattle.entry_tests.proofs.entry.entry_failing.Goals as goal

pub returns-then-not-is_possible_entry : goal.returns-then-not-is_possible_entry
returns-then-not-is_possible_entry c =
    let p = c.args.problem.now in
    let w = c.args.window.width in
    let es = c.args.list.now in
    let fs = c.args.facts.now in
    let j = c.args.j in
    let e : Entry = seen c.entry-entry.result.now in
    let f = c.index-facts-j.result in
    let at : IsAt es fs j e f = record { lists = c.requires.facts.charges; entry = c.entry-entry.ensures; within = c.requires.within; facts = c.index-facts-j.is } in
    let order = (order_met p w es fs j e f at).0 (c.follows.ensures.0 c.if-not-follows.false) in
    possible_fails p w es j order (λ m. let yes = c.is_possible_entry.ensures.1 ((possible_met p w es fs j e f at).1 m) in let no = c.if-not-is_possible_entry.true in cc (yes, no))

pub returns-then-beaten : goal.returns-then-beaten
returns-then-beaten c =
    let p = c.args.problem.now in
    let w = c.args.window.width in
    let es = c.args.list.now in
    let fs = c.args.facts.now in
    let j = c.args.j in
    let e : Entry = seen c.entry-entry.result.now in
    let f = c.index-facts-j.result in
    let at : IsAt es fs j e f = record { lists = c.requires.facts.charges; entry = c.entry-entry.ensures; within = c.requires.within; facts = c.index-facts-j.is } in
    let order = (order_met p w es fs j e f at).0 (c.follows.ensures.0 c.if-not-follows.false) in
    let possible = (possible_met p w es fs j e f at).0 (c.is_possible_entry.ensures.0 c.if-not-is_possible_entry.false) in
    beaten_fails p w es j order possible
    (beaten_unmet p w es fs j e f at (subst (λ b. MatchBool b (BeatsSomeBy p w (lists_of_facts fs) f.list.charges) (BeatsNoneBy p w (lists_of_facts fs) f.list.charges)) c.if-beaten.true c.in_ok-beaten.ensures))

pub returns-then-not-marked : goal.returns-then-not-marked
returns-then-not-marked c =
    let p = c.args.problem.now in
    let w = c.args.window.width in
    let es = c.args.list.now in
    let fs = c.args.facts.now in
    let j = c.args.j in
    let e : Entry = seen c.entry-entry.result.now in
    let f = c.index-facts-j.result in
    let at : IsAt es fs j e f = record { lists = c.requires.facts.charges; entry = c.entry-entry.ensures; within = c.requires.within; facts = c.index-facts-j.is } in
    let order = (order_met p w es fs j e f at).0 (c.follows.ensures.0 c.if-not-follows.false) in
    let possible = (possible_met p w es fs j e f at).0 (c.is_possible_entry.ensures.0 c.if-not-is_possible_entry.false) in
    let unbeaten = unbeaten_met p w es fs j e f at (subst (λ b. MatchBool b (BeatsSomeBy p w (lists_of_facts fs) f.list.charges) (BeatsNoneBy p w (lists_of_facts fs) f.list.charges)) c.if-beaten.false c.in_ok-beaten.ensures) in
    mark_fails p w es j order possible unbeaten (λ m. let yes = c.in_ok-marked.ensures.1 ((mark_met p w es fs j e f at).1 m) in let no = c.if-not-marked.true in cc (yes, no))

pub returns : goal.returns
returns c =
    let p = c.args.problem.now in
    let w = c.args.window.width in
    let es = c.args.list.now in
    let fs = c.args.facts.now in
    let j = c.args.j in
    let e : Entry = seen c.entry-entry.result.now in
    let f = c.index-facts-j.result in
    let at : IsAt es fs j e f = record { lists = c.requires.facts.charges; entry = c.entry-entry.ensures; within = c.requires.within; facts = c.index-facts-j.is } in
    let order = (order_met p w es fs j e f at).0 (c.follows.ensures.0 c.if-not-follows.false) in
    let possible = (possible_met p w es fs j e f at).0 (c.is_possible_entry.ensures.0 c.if-not-is_possible_entry.false) in
    let unbeaten = unbeaten_met p w es fs j e f at (subst (λ b. MatchBool b (BeatsSomeBy p w (lists_of_facts fs) f.list.charges) (BeatsNoneBy p w (lists_of_facts fs) f.list.charges)) c.if-beaten.false c.in_ok-beaten.ensures) in
    all_met p w es j order possible unbeaten ((mark_met p w es fs j e f at).0 (c.in_ok-marked.ensures.0 c.if-not-marked.false))
