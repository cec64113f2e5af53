use Rattle.std.proofs.Common.{◌∙◌, sym}
use Rattle.bdl_pairs.specs.declared.verdicts.PatternVerdict.TheVariants.{Works as PatternWorks, Fails as PatternFails, Undecided as PatternUndecided}
use Rattle.gate_report.proofs.Overall.{overall_at}
use Rattle.gate_report.proofs.answers.overall.Goals as goal

pub returns-in-Fails : goal.returns-in-Fails
returns-in-Fails c = sym (overall_at c.args.truth.now c.loop-k.k c.at.result.now PatternFails c.at.ensures c.in-Fails.is) ∙ c.loop-k.invariant

pub returns-in-Undecided : goal.returns-in-Undecided
returns-in-Undecided c = sym (overall_at c.args.truth.now c.loop-k.k c.at.result.now PatternUndecided c.at.ensures c.in-Undecided.is) ∙ c.loop-k.invariant

pub loop-k-preserved : goal.loop-k-preserved
loop-k-preserved c = sym (overall_at c.args.truth.now c.loop-k.k c.at.result.now PatternWorks c.at.ensures c.in-Works.is) ∙ c.loop-k.invariant
