use Rattle.std.proofs.Common.{◌∙◌, ap, arith, map}
use Rattle.gate_model.proofs.PairLemmas.{too_many, whole_text}
use Rattle.gate_model.proofs.reading.read_pairs.Goals as goal

pub returns-then-parts-most-clause-none : goal.returns-then-parts-most-clause-none
returns-then-parts-most-clause-none c =
    too_many c.args.text.now c.as_slice-parts.result.now c.args.most (ap (map (λ w. w.now)) c.as_slice-parts.ensures.value ∙ c.in_ok-parts.ensures) (omega arith)

pub returns-clause-found : goal.returns-clause-found
returns-clause-found c =
    whole_text c.args.text.now c.as_slice-parts.result.now c.args.most (ap (map (λ w. w.now)) c.as_slice-parts.ensures.value ∙ c.in_ok-parts.ensures) (omega arith) c.pairs_in.result c.pairs_in.ensures.found
