use Rattle.std.proofs.Common.{◌≡◌, ◌∙◌, ap, ℕ, List, [], ◌∷◌, ◌++◌}
use Rattle.std.specs.Prelude.{codes}
use Rattle.token_lines.specs.TokenLines.{token_text}
use Rattle.prune_certificate.specs.Printed.{head_text}
use Rattle.certificate_writing.proofs.Fronts.{cut_in_head, cut_in_lines, cut_in_tail, uncut}
use Rattle.certificate_writing.proofs.write.write_certificate.Goals as goal

pub returns-in-Err-clause-written : goal.returns-in-Err-clause-written
returns-in-Err-clause-written g c text is =
    let head = head_text c.args.problem.now c.args.list.now in
    let whole = is.prints ∙ ap (λ z. head ++ z) (c.token_lines_are_the_end.ensures is.tokens) in
    let w = g.K.Sink.written in
    let a = w c.args.sink.now in
    let b = w c.write_head.new.sink in
    cut_in_head text head (token_text is.tokens) (codes "end" ++ 10 ∷ []) whole a b b b c.in-Err.ensures.took

pub returns-in-Err-write_walk-clause-written : goal.returns-in-Err-write_walk-clause-written
returns-in-Err-write_walk-clause-written g c text is =
    let head = head_text c.args.problem.now c.args.list.now in
    let whole = is.prints ∙ ap (λ z. head ++ z) (c.token_lines_are_the_end.ensures is.tokens) in
    let w = g.K.Sink.written in
    let b = w c.write_head.new.sink in
    let d = w c.write_walk.new.sink in
    cut_in_lines text head (token_text is.tokens) (codes "end" ++ 10 ∷ []) whole (w c.args.sink.now) b d d c.in-Ok.ensures.took (c.in-Err-write_walk.ensures.took is.tokens is.walked)

pub returns-in-Ok-write_bytes-clause-written : goal.returns-in-Ok-write_bytes-clause-written
returns-in-Ok-write_bytes-clause-written g c text is =
    let head = head_text c.args.problem.now c.args.list.now in
    let whole = is.prints ∙ ap (λ z. head ++ z) (c.token_lines_are_the_end.ensures is.tokens) in
    let w = g.K.Sink.written in
    uncut text head (token_text is.tokens) (codes "end" ++ 10 ∷ []) whole (w c.args.sink.now) (w c.write_head.new.sink) (w c.write_walk.new.sink) (w c.write_bytes.new.sink)
    c.in-Ok.ensures.took (c.in-Ok-write_walk.ensures.took is.tokens is.walked) c.in-Ok-write_bytes.ensures.took

pub returns-in-Err-write_bytes-clause-written : goal.returns-in-Err-write_bytes-clause-written
returns-in-Err-write_bytes-clause-written g c text is =
    let head = head_text c.args.problem.now c.args.list.now in
    let whole = is.prints ∙ ap (λ z. head ++ z) (c.token_lines_are_the_end.ensures is.tokens) in
    let w = g.K.Sink.written in
    cut_in_tail text head (token_text is.tokens) (codes "end" ++ 10 ∷ []) whole (w c.args.sink.now) (w c.write_head.new.sink) (w c.write_walk.new.sink) (w c.write_bytes.new.sink)
    c.in-Ok.ensures.took (c.in-Ok-write_walk.ensures.took is.tokens is.walked) c.in-Err-write_bytes.ensures.took
