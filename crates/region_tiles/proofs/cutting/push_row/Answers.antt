use Rattle.region_tiles.proofs.CodeLemmas.{row_more}
use Rattle.region_tiles.proofs.cutting.push_row.Goals as goal

pub loop-j-preserved : goal.loop-j-preserved
loop-j-preserved c = λ seen zip.
    row_more c.args.params.now c.args.eps c.args.lam.now c.loop-j.j _ seen c.loop-j.rectangles.items c.push.new.self.items c.rectangle_of.result c.loop-j-test.true
    (c.loop-j.invariant seen zip) c.rectangle_of.ensures c.in_ok-push.ensures.items
