use Rattle.std.proofs.Common.{◌∙◌, sym, refl, subst, inr, Result, Ok, Err, IfOk, IfErr}
use Rattle.sqd_nesting.specs.Faults.{IsFaultAt}
use Rattle.sqd_nesting.specs.Views.{nest_of}
use Rattle.sqd_nesting.proofs.Turning.{start_turns, empty_turns, end_turns, end_wrong, doctype_bad, cdata_bad}
use Rattle.sqd_nesting.proofs.nest.turn.Goals as goal

if_ok : {X E : Type 0} {P Q : X → Type 0} (r : Result X E) → ((x : X) → P x → Q x) → IfOk r P → IfOk r Q
if_ok (Ok x) f h = f x h
if_ok (Err e) f h = tt

if_err : {X E : Type 0} {P Q : E → Type 0} (r : Result X E) → ((e : E) → P e → Q e) → IfErr r P → IfErr r Q
if_err (Ok x) f h = tt
if_err (Err e) f h = f e h

pub returns-in-Start-clause-ok : goal.returns-in-Start-clause-ok
returns-in-Start-clause-ok c =
    if_ok c.begin.result (λ new begun m more h k e calm. start_turns m c.args.at c.tag_name.result.now c.args.mark.now more (nest_of c.args.nesting) (nest_of new) h (k ∙ c.in-Start.is) e c.tag_name.ensures.name calm begun) c.begin.ensures.ok

pub returns-in-Empty-clause-ok : goal.returns-in-Empty-clause-ok
returns-in-Empty-clause-ok c = λ m more h k e calm.
    empty_turns m c.args.at c.args.mark.now more (nest_of c.args.nesting) _ h (k ∙ c.in-Empty.is) e calm (record { opened = refl; rooted = refl })

pub returns-in-End-clause-ok : goal.returns-in-End-clause-ok
returns-in-End-clause-ok c =
    if_ok c.end.result (λ new ended m more h k e calm. end_turns m c.args.at c.end_name.result.now c.args.mark.now (nest_of c.args.nesting) (nest_of new) h (k ∙ c.in-End.is) e c.end_name.ensures.name ended) c.end.ensures.ok

pub returns-in-End-clause-err : goal.returns-in-End-clause-err
returns-in-End-clause-err c =
    if_err c.end.result (λ fault wrong. inr (λ m more h k e calm. subst (IsFaultAt c.args.at (nest_of c.args.nesting) _) (sym wrong.0) (end_wrong m c.args.at c.end_name.result.now c.args.mark.now more (nest_of c.args.nesting) h (k ∙ c.in-End.is) e c.end_name.ensures.name calm wrong.1))) c.end.ensures.err

pub returns-in-Doctype-clause-err : goal.returns-in-Doctype-clause-err
returns-in-Doctype-clause-err c = inr (λ m more h k e calm. doctype_bad m c.args.at c.args.mark.now more (nest_of c.args.nesting) (k ∙ c.in-Doctype.is) e)

pub returns-clause-err : goal.returns-clause-err
returns-clause-err c = inr (λ m more h k e calm. cdata_bad m c.args.at c.args.mark.now more (nest_of c.args.nesting) (k ∙ c.in-Cdata.is) e)
