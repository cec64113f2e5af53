use Rattle.std.proofs.Common.{subst, pos, Ok, Err}
use Rattle.certificate_model.specs.Certificates.{IsSound}
use Rattle.token_sinks.specs.declared.sink.Stop.TheVariants.{Fault}
use Rattle.token_sinks.specs.Taking.{IsFed}
use Rattle.certificate_check.specs.Checking.{HasPassed, IsNoCertificate, refused_token}
use Rattle.certificate_reading.specs.Texts.{IsFrontOf}
use Rattle.task_certificate.proofs.Checked.{each_err, each_ok, front_fits, no_opening, opening_room}
use Rattle.task_certificate.proofs.check.checked.Goals as goal

pub new-requires : goal.new-requires
new-requires c = front_fits c.read_texts_fit.ensures.lists c.args.text.now c.args.front.now c.requires

pub returns-in-Err-clause-refused : goal.returns-in-Err-clause-refused
returns-in-Err-clause-refused c = λ tokens of. no_opening c.args.front.now.problem c.args.front.now.list c.in-Err.refusal c.in-Err.ensures.refused tokens

pub feed-requires-clause-room : goal.feed-requires-clause-room
feed-requires-clause-room c = opening_room c.args.front.now.problem c.args.front.now.list c.in-Ok.checker c.in-Ok.ensures.ok

pub returns-in-Err-Fault-clause-refused : goal.returns-in-Err-Fault-clause-refused
returns-in-Err-Fault-clause-refused c =
    let p = c.args.front.now.problem in
    let es = c.args.front.now.list in
    let old = c.in-Ok.checker in
    let new = c.feed.new.sink in
    each_err (λ tokens. IsFrontOf tokens c.args.text.now c.args.front.now) (IsNoCertificate p (pos 0) es) c.finish.result
    (λ tokens of. c.fed_checkers_tell.ensures.refused p (pos 0) es old new tokens (Err Fault) c.finish.result c.in-Ok.ensures.ok c.feed.ensures.over
    (subst (λ s. IsFed {A = Unit {0}} (HasPassed old) (HasPassed new) (refused_token new.refused) tokens (Err s)) c.in-Err-Fault.field-0-is (c.in-Err-Fault.ensures.fed tokens of))
    (λ e. absurd (cc)) c.finish.ensures.finished)

pub returns-in-Ok-feed-clause-sound : goal.returns-in-Ok-feed-clause-sound
returns-in-Ok-feed-clause-sound c =
    let p = c.args.front.now.problem in
    let es = c.args.front.now.list in
    let told = c.finish-in-Ok-feed.result in
    each_ok (λ tokens. IsFrontOf tokens c.args.text.now c.args.front.now) (IsSound p (pos 0) es) told
    (λ tokens of. c.fed_checkers_tell.ensures.sound p (pos 0) es c.in-Ok.checker c.feed.new.sink tokens (Ok tt) told c.in-Ok.ensures.ok c.feed.ensures.over (c.in-Ok-feed.ensures.fed tokens of)
    (λ e. absurd (cc)) c.finish-in-Ok-feed.ensures.finished (λ ok. (c.finish-in-Ok-feed.ensures.exactly.0 ok).0))

pub returns-in-Ok-feed-clause-refused : goal.returns-in-Ok-feed-clause-refused
returns-in-Ok-feed-clause-refused c =
    let p = c.args.front.now.problem in
    let es = c.args.front.now.list in
    let told = c.finish-in-Ok-feed.result in
    each_err (λ tokens. IsFrontOf tokens c.args.text.now c.args.front.now) (IsNoCertificate p (pos 0) es) told
    (λ tokens of. c.fed_checkers_tell.ensures.refused p (pos 0) es c.in-Ok.checker c.feed.new.sink tokens (Ok tt) told c.in-Ok.ensures.ok c.feed.ensures.over (c.in-Ok-feed.ensures.fed tokens of)
    (λ e. absurd (cc)) c.finish-in-Ok-feed.ensures.finished)
