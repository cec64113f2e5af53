use Rattle.std.proofs.lemmas.List.Elements.{All-push}
use Rattle.charge_model.specs.Rules.{IsChargeList}
use Rattle.entry_facts.specs.Facts.{AreFacts}
use Rattle.ground_entries.specs.Seen.{seen}
use Rattle.entry_facts.proofs.Lists.{holds_at, facts_push}
use Rattle.entry_facts.proofs.facts.all_facts.Goals as goal

pub facts_of-requires-clause-list : goal.facts_of-requires-clause-list
facts_of-requires-clause-list c = holds_at (IsChargeList c.args.problem.now) c.args.list.now c.loop-j.j (seen c.entry.result.now) c.requires c.entry.ensures

pub loop-j-preserved : goal.loop-j-preserved
loop-j-preserved c =
    rw (c.in_ok-push.ensures.items) (record {
      track = c.facts_of.ensures.problem;
      facts = All-push (AreFacts c.args.problem.now) _ c.in_ok-entry.entry c.loop-j.invariant.facts c.in_ok-entry.ensures.facts.facts;
      charges = facts_push _ c.in_ok-entry.entry c.args.list.now c.loop-j.j (seen c.entry.result.now) c.loop-j.invariant.charges c.entry.ensures c.in_ok-entry.ensures.facts.charges;
    })
