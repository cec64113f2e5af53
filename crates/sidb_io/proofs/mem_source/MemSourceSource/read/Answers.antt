use Rattle.std.proofs.Common.{◌≡◌, ◌∙◌, ap, subst, ℕ, ◌+◌, ◌-◌, List, length, take, drop, min, Some}
use Rattle.std.proofs.lemmas.List.{take_rest}
use Rattle.sidb_io.specs.Outside.{Fills}
use Rattle.sidb_io.proofs.Given.{fills}
use Rattle.sidb_io.proofs.mem_source.MemSourceSource.read.Goals as goal

pub returns-clause-ok : goal.returns-clause-ok
returns-clause-ok c =
    let bytes : List ℕ = c.self.inside.bytes.items in
    let at : ℕ = c.self.inside.at in
    let given : ℕ = c.fill-given.result in
    let from : take (length c.deref-2.result.now - at) (drop at c.deref-2.result.now) ≡ drop at bytes = take_rest c.deref-2.result.now at ∙ ap (drop at) c.deref-2.ensures.value in
    let count = c.fill-given.ensures.count ∙ ap (λ (xs : List ℕ). min (min c.self.inside.piece (length c.args.buf.now)) (length xs)) from in
    let filled = fills bytes c.args.buf.now c.fill-given.new.buf at given c.self.inside.piece (λ _. c.self.invariant.1) c.self.invariant.0 count (c.fill-given.ensures.given ∙ ap (take given) from) c.fill-given.ensures.rest in
    subst (λ (left : List ℕ). Fills (Some left) (Some (drop (at + given) bytes)) c.args.buf.now c.fill-given.new.buf given) (ap (λ s. s.left) c.self.view_is) filled
