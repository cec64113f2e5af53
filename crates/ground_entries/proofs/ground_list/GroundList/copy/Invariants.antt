use Rattle.std.proofs.Common.{◌≡◌, length, map, take}
use Rattle.ground_entries.specs.Seen.{seen}
use Rattle.ground_entries.proofs.ground_list.GroundList.copy.Given as goal

-- the entries so far are copied
abbrev pub invariant-loop-entry : goal.invariant-loop-entry
invariant-loop-entry l = record {
  len : length l.entries.items ≡ l.entry-index;
  copied : map seen l.entries.items ≡ map seen (take l.entry-index l.entry-items);
}
