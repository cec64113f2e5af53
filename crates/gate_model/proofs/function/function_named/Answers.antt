use Rattle.std.proofs.Common.{◌≡◌, arith, below_more}
use Rattle.std.proofs.lemmas.Option.{slice_get_within}
use Rattle.std.proofs.lemmas.Slice.Eq.{bytes_eq-Decides}
use Rattle.gate_model.specs.Functions.{function_names}
use Rattle.gate_model.proofs.function.function_named.Goals as goal

pub loop-number-preserved : goal.loop-number-preserved
loop-number-preserved c = below_more _ _ c.loop-number.invariant (λ named.
    let same : c.name_at.result.now ≡ c.args.name.now = cc (c.name_at.ensures, named) in
    let equal = (bytes_eq-Decides c.name_at.result.now c.args.name.now).1 same in
    absurd (cc (equal, c.eq.ensures, c.if-eq.false)))

pub returns-clause-none : goal.returns-clause-none
returns-clause-none c = λ f is.
    c.loop-number.invariant is.number (omega (arith, slice_get_within (function_names c.args.inputs) is.number c.args.name.now is.named, c.count_of-number-end.ensures)) is.named
