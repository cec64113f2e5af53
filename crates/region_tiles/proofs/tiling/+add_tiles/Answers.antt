use Rattle.std.proofs.Common.{◌∙◌, ◌-◌, inl, inr, sym, arith}
use Rattle.region_tiles.specs.Refined.{IsRefined}
use Rattle.region_tiles.proofs.CodeLemmas.{added_alone, added_none, added_part, added_parts}
use Rattle.region_tiles.proofs.tiling.+add_tiles.Goals as goal
use Rattle.region_tiles.proofs.tiling.+add_tiles.Goals.{then-depth-eq0-via-then-depth-eq0, then-depth-eq0-via-else-depth-eq0+then-not-goes_on}

pub returns-then-depth-eq0 : goal.returns-then-depth-eq0
returns-then-depth-eq0 g t c =
    let says = g.J.Judge.says c.args.judge.now in
    elim c.then-depth-eq0.branch [
      | then-depth-eq0-via-then-depth-eq0 w ↦ added_alone says c.args.depth c.args.rectangle.now c.in_ok-judged.judged.answer c.args.tiles.now.items c.push.new.self.items c.in_ok-judged.ensures (inl w.if-depth-eq0.true) c.in_ok-push.ensures.items
      | then-depth-eq0-via-else-depth-eq0+then-not-goes_on w ↦ added_alone says c.args.depth c.args.rectangle.now c.in_ok-judged.judged.answer c.args.tiles.now.items c.push.new.self.items c.in_ok-judged.ensures (inr (sym w.goes_on.ensures ∙ w.if-not-goes_on.true)) c.in_ok-push.ensures.items
    ]

pub loop-k-init : goal.loop-k-init
loop-k-init g t c = added_none (IsRefined (g.J.Judge.says c.args.judge.now) (c.args.depth - 1)) c.args.tiles.now.items

pub loop-k-preserved : goal.loop-k-preserved
loop-k-preserved g t c =
    added_part (IsRefined (g.J.Judge.says c.args.judge.now) (c.args.depth - 1)) c.in_ok-parts.parts.items c.loop-k.k c.index.result.now c.args.tiles.now.items c.loop-k.tiles.items c.add_tiles.new.tiles.items
    (omega arith) (sym c.index.ensures) c.loop-k.invariant c.in_ok-add_tiles.ensures

pub returns : goal.returns
returns g t c =
    added_parts (g.J.Judge.says c.args.judge.now) c.args.depth c.args.rectangle.now c.in_ok-judged.judged.answer c.in_ok-parts.parts.items c.loop-k.k c.args.tiles.now.items c.loop-k.tiles.items
    (omega arith) c.in_ok-judged.ensures (sym c.goes_on.ensures ∙ c.if-not-goes_on.false) c.in_ok-parts.ensures (omega arith) c.loop-k.invariant
