use Rattle.std.proofs.Common.{◌≡◌, pos, ◌+ℤ◌, ◌-ℤ◌, ◌*ℤ◌, arith}
use Rattle.std.proofs.lemmas.Int.{ints}
use Rattle.charge_model.specs.Problem.{Table}
use Rattle.charge_model.specs.Rules.{energy}
use Rattle.linear_form.specs.Forms.{value_of}
use Rattle.window_model.specs.Windows.{raised_energy}
use Rattle.entry_facts.proofs.Gaps.{raised_least, raised_greatest}
use Rattle.entry_facts.proofs.Sizes.{small_gap}
use Rattle.entry_facts.proofs.gap.raised_gap.Goals as goal

pub raised_span-requires-clause-least : goal.raised_span-requires-clause-least
raised_span-requires-clause-least c =
    small_gap c.form_span-span.ensures.least_within c.in_ok-gap.ensures.constant c.in_ok-gap.ensures.weight c.requires.list.form c.requires.other.form

pub raised_span-requires-clause-greatest : goal.raised_span-requires-clause-greatest
raised_span-requires-clause-greatest c =
    small_gap c.form_span-span.ensures.greatest_within c.in_ok-gap.ensures.constant c.in_ok-gap.ensures.weight c.requires.list.form c.requires.other.form

pub returns : goal.returns
returns c =
    let p = c.args.problem.now in
    let window = c.args.window.width in
    let gap = c.in_ok-gap.gap in
    let q = λ (t : Table). raised_energy p window t c.args.list.now.charges -ℤ energy p t c.args.other.now.charges in
    let same = λ (t : Table).
    let first = c.requires.list.value t in
    let second = c.requires.other.value t in
    let value = c.in_ok-gap.ensures.value t in
    let e : q t ≡ value_of gap t +ℤ pos t.scale *ℤ window = omega (arith, ints, first, second, value) in e in
    record {
      least = raised_least p (value_of gap) q window c.form_span-span.result.lo c.raised_span.result.lo same c.form_span-span.ensures.least c.raised_span.ensures.lo;
      greatest = raised_greatest p (value_of gap) q window c.form_span-span.result.hi c.raised_span.result.hi same c.form_span-span.ensures.greatest c.raised_span.ensures.hi;
    }
