-- reports of gates have no float, so their compact texts are known
use Rattle.std.proofs.Common.{◌≡◌, refl, ℕ, ◌+◌, List, [], ◌∷◌, map, None, false, ap}
use Rattle.serde_json.specs.View.{items_of}
use Rattle.serde_json.specs.Written.{has_float, items_have_float}
use Rattle.charge_model.specs.GroundList.{Entry}
use Rattle.sim_report_json.specs.Parts.{entry_data}
use Rattle.bdl_pairs.specs.declared.cell.Cell.{Cell}
use Rattle.bdl_pairs.specs.declared.truth.PatternAnswer.{PatternAnswer}
use Rattle.gate_report.specs.GateJson.{cell_data, domain_data, pattern_data, patterns_data, truth_data}

abbrev pub NoneInEntries : Type 0
NoneInEntries = (es : List Entry) → items_have_float (items_of (map (entry_data None) es)) ≡ false

patterns_no_float : NoneInEntries → (k : ℕ) (t : List PatternAnswer) → items_have_float (items_of (patterns_data k t)) ≡ false
patterns_no_float none k [] = refl
patterns_no_float none k (a ∷ t) = rw (none a.list) (patterns_no_float none (k + 1) t)

pub truth_no_float : NoneInEntries → (name : List ℕ) (t : List PatternAnswer) → has_float (truth_data name t) ≡ false
truth_no_float none name t = rw (patterns_no_float none 0 t) refl

cells_no_float : (cells : List Cell) → items_have_float (items_of (map cell_data cells)) ≡ false
cells_no_float [] = refl
cells_no_float (c ∷ cells) = cells_no_float cells

pub domain_no_float : (cells : List Cell) → has_float (domain_data cells) ≡ false
domain_no_float cells = rw (cells_no_float cells) refl
