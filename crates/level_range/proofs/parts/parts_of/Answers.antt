use Rattle.std.proofs.Common.{◌≡◌, ◌∙◌, length, map, [], ◌∷◌, ◌++◌, ap, sym, arith, ◌+◌}
use Rattle.std.proofs.lemmas.Int.{ints}
use Rattle.std.proofs.lemmas.Bool.{false≢true}
use Rattle.std.proofs.lemmas.List.{map-append, length-map}
use Rattle.level_range_laws.proofs.Building.{built_begin, built_same, built_more, built_whole, built_split}
use Rattle.level_range.specs.Seen.{outcome_of, printed_of}
use Rattle.level_range.proofs.Listing.{IsSetting}
use Rattle.level_range.proofs.Runs.{answers_until, nearer, not_past}
use Rattle.level_range.proofs.parts.parts_of.Goals as goal
use Rattle.level_range.proofs.parts.parts_of.Goals.{then-not-same_entries+else-len-eq-MAX_PARTS+in_ok-push-2, else-not-same_entries}

pub runs-init : goal.runs-init
runs-init c =
    let p = c.args.problem.now in
    let levels = c.args.levels in
    let xs = c.args.all.now in
    let first = c.first_of-first.result.value in
    let answer = map outcome_of c.in_ok-entries.entries.items in
    let some = c.requires.some in
    let begins = c.first_of-first.ensures in
    let set : IsSetting p levels xs first = record {
      tables = c.problems_have_tables.ensures p c.sites-known.ensures.valid;
      all = c.requires.all;
      inside = record { from = omega (arith, ints, begins); to = omega (arith, ints, begins, some) };
    } in
    rw c.new-done.ensures.items (built_begin p levels first c.next_change-level.result.value answer begins c.next_change-level.ensures.later c.next_change-level.ensures.within
    (answers_until p levels xs first c.next_change-level.result.value answer set c.next_change-level.ensures.within c.next_change-level.ensures.same c.in_ok-entries.ensures))

pub returns-then-len-eq-MAX_PARTS : goal.returns-then-len-eq-MAX_PARTS
returns-then-len-eq-MAX_PARTS c =
    let p = c.args.problem.now in
    let levels = c.args.levels in
    let old = c.runs.done.items in
    let inside = not_past c.is_below.result c.last_of-last.result.value c.runs.level.value levels.last c.last_of-last.ensures c.is_below.ensures c.runs-test.true in
    let full : length (map printed_of old) + 1 ≡ 256 = omega (arith, c.if-len-eq-MAX_PARTS.true, c.len.ensures, length-map old printed_of) in
    built_split p levels (map printed_of old) (map printed_of c.push.new.self.items) c.runs.first.value c.runs.level.value c.last_of-last.result.value (map outcome_of c.runs.entries.items) (map outcome_of c.in_ok-more.more.items)
    c.runs.invariant c.last_of-last.ensures inside c.in_ok-more.ensures
    (λ e. false≢true (sym c.if-not-same_entries.true ∙ c.same_entries.ensures.1 (ap (map outcome_of) c.as_slice.ensures.value ∙ e ∙ sym (ap (map outcome_of) c.as_slice-in-runs.ensures.value))))
    full (ap (map printed_of) c.in_ok-push.ensures.items ∙ map-append printed_of old (c.split.result ∷ []) ∙ ap (λ z. map printed_of old ++ z ∷ []) c.split.ensures)

pub runs-preserved-then-if-drop : goal.runs-preserved-then-if-drop
runs-preserved-then-if-drop c =
    let p = c.args.problem.now in
    let levels = c.args.levels in
    let xs = c.args.all.now in
    let old = c.runs.done.items in
    let level = c.runs.level.value in
    let next = c.next_change-level-in-runs.result.value in
    let answer = map outcome_of c.runs.entries.items in
    let more = map outcome_of c.in_ok-more.more.items in
    let from = c.runs.invariant.from in
    let some = c.runs.invariant.some in
    let inside = not_past c.is_below.result c.last_of-last.result.value level levels.last c.last_of-last.ensures c.is_below.ensures c.runs-test.true in
    let set : IsSetting p levels xs level = record {
      tables = c.problems_have_tables.ensures p c.sites-known.ensures.valid;
      all = c.requires.all;
      inside = record { from = omega (arith, ints, from, some); to = inside };
    } in
    let later = c.next_change-level-in-runs.ensures.later in
    let within = c.next_change-level-in-runs.ensures.within in
    let same = answers_until p levels xs level next more set within c.next_change-level-in-runs.ensures.same c.in_ok-more.ensures in
    let read = ap (map outcome_of) c.as_slice.ensures.value in
    let read_more = ap (map outcome_of) c.as_slice-in-runs.ensures.value in
    elim c.if-not-same_entries.branch [
      | then-not-same_entries+else-len-eq-MAX_PARTS+in_ok-push-2 w ↦ rw (w.done-is, w.first-is, w.entries-is)
          (built_more p levels (map printed_of old) (map printed_of w.push-then-not-same_entries.new.self.items) c.runs.first.value level w.before-then-not-same_entries.result.value next answer more
          c.runs.invariant inside w.before-then-not-same_entries.ensures
          (λ e. false≢true (sym w.if-not-same_entries.true ∙ c.same_entries.ensures.1 (read ∙ e ∙ sym read_more)))
          (λ e. w.if-len-eq-MAX_PARTS.false (omega (arith, e, w.len.ensures, length-map old printed_of)))
          (ap (map printed_of) w.in_ok-push-2.ensures.items ∙ map-append printed_of old (w.whole.result ∷ []) ∙ ap (λ z. map printed_of old ++ z ∷ []) w.whole.ensures)
          later within same)
      | else-not-same_entries w ↦ rw (w.done-is, w.first-is, w.entries-is)
          (built_same p levels (map printed_of old) c.runs.first.value level next answer more c.runs.invariant
          (sym read ∙ c.same_entries.ensures.0 w.if-not-same_entries.false ∙ read_more) later within same)
    ]

pub runs-preserved : goal.runs-preserved
runs-preserved c =
    let p = c.args.problem.now in
    let levels = c.args.levels in
    let xs = c.args.all.now in
    let old = c.runs.done.items in
    let level = c.runs.level.value in
    let next = c.next_change-level-in-runs.result.value in
    let answer = map outcome_of c.runs.entries.items in
    let more = map outcome_of c.in_ok-more.more.items in
    let from = c.runs.invariant.from in
    let some = c.runs.invariant.some in
    let inside = not_past c.is_below.result c.last_of-last.result.value level levels.last c.last_of-last.ensures c.is_below.ensures c.runs-test.true in
    let set : IsSetting p levels xs level = record {
      tables = c.problems_have_tables.ensures p c.sites-known.ensures.valid;
      all = c.requires.all;
      inside = record { from = omega (arith, ints, from, some); to = inside };
    } in
    let later = c.next_change-level-in-runs.ensures.later in
    let within = c.next_change-level-in-runs.ensures.within in
    let same = answers_until p levels xs level next more set within c.next_change-level-in-runs.ensures.same c.in_ok-more.ensures in
    let read = ap (map outcome_of) c.as_slice.ensures.value in
    let read_more = ap (map outcome_of) c.as_slice-in-runs.ensures.value in
    elim c.if-not-same_entries.branch [
      | then-not-same_entries+else-len-eq-MAX_PARTS+in_ok-push-2 w ↦ rw (w.done-is, w.first-is, w.entries-is)
          (built_more p levels (map printed_of old) (map printed_of w.push-then-not-same_entries.new.self.items) c.runs.first.value level w.before-then-not-same_entries.result.value next answer more
          c.runs.invariant inside w.before-then-not-same_entries.ensures
          (λ e. false≢true (sym w.if-not-same_entries.true ∙ c.same_entries.ensures.1 (read ∙ e ∙ sym read_more)))
          (λ e. w.if-len-eq-MAX_PARTS.false (omega (arith, e, w.len.ensures, length-map old printed_of)))
          (ap (map printed_of) w.in_ok-push-2.ensures.items ∙ map-append printed_of old (w.whole.result ∷ []) ∙ ap (λ z. map printed_of old ++ z ∷ []) w.whole.ensures)
          later within same)
      | else-not-same_entries w ↦ rw (w.done-is, w.first-is, w.entries-is)
          (built_same p levels (map printed_of old) c.runs.first.value level next answer more c.runs.invariant
          (sym read ∙ c.same_entries.ensures.0 w.if-not-same_entries.false ∙ read_more) later within same)
    ]

pub runs-smaller : goal.runs-smaller
runs-smaller c =
    let levels = c.args.levels in
    let inside = not_past c.is_below.result c.last_of-last.result.value c.runs.level.value levels.last c.last_of-last.ensures c.is_below.ensures c.runs-test.true in
    nearer levels.last c.runs.level.value c.next_change-level-in-runs.result.value inside c.next_change-level-in-runs.ensures.later c.next_change-level-in-runs.ensures.within

pub returns : goal.returns
returns c =
    let old = c.runs.done.items in
    built_whole c.args.problem.now c.args.levels (map printed_of old) (map printed_of c.push-2.new.self.items) c.runs.first.value c.runs.level.value c.last_of-last.result.value (map outcome_of c.runs.entries.items)
    c.runs.invariant c.last_of-last.ensures (c.is_below.ensures.0 c.runs-test.false)
    (ap (map printed_of) c.in_ok-push-3.ensures.items ∙ map-append printed_of old (c.whole-2.result ∷ []) ∙ ap (λ z. map printed_of old ++ z ∷ []) c.whole-2.ensures)
