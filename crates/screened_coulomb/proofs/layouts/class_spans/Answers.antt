use Rattle.std.proofs.Common.{rules, w64}
use Rattle.std.proofs.lemmas.Int.{to_z-of_z}
use mir.Val.{SFits}
use Rattle.sidb_lattice.specs.Classes.{distance_of}
use Rattle.screened_coulomb.proofs.LayoutLemmas.{class_span, span_more}
use Rattle.screened_coulomb.proofs.layouts.class_spans.Goals as goal

pub loop-class-preserved : goal.loop-class-preserved
loop-class-preserved c =
    let classes = c.args.classes.now in
    let class = c.loop-class.class in
    let fits : SFits w64 c.distance.result = search rules in
    let rounded = simp to_z-of_z at c.span_of.ensures.rule in
    let holds = simp to_z-of_z at c.span_of.ensures.holds in
    let is = class_span c.args.p.now c.distance.result (distance_of classes class) c.span_of.result c.distance.ensures.value rounded holds c.span_of.ensures.within in
    rw c.in_ok-push.ensures.items (span_more c.args.p.now classes.distances c.loop-class.spans.items class c.span_of.result c.loop-class.invariant is)
