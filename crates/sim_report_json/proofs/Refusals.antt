-- reports that say something else
use Rattle.std.proofs.Common.{◌≡◌, [], ◌∷◌, false}
use Rattle.charge_model.specs.declared.span.Span.{Span}
use Rattle.charge_model.specs.declared.mark.Deciding.TheVariants.{Hop, Rival}
use Rattle.charge_model.specs.declared.mark.Mark.TheVariants.{Certain, Unresolved}
use Rattle.charge_model.specs.Problem.{Problem}
use Rattle.charge_model.specs.GroundList.{Entry}
use Rattle.sim_report_json.specs.Parts.{mark_data, mark_word, deciding_data}
use Rattle.sim_report_json.specs.GroundJson.{AreEntryData}

hops_have_a_direction : (s : Span) → deciding_data (Hop 0 1 s) ≡ deciding_data (Hop 1 0 s) → ⊥
hops_have_a_direction s is = absurd (cc)

certain_names_nothing : (s : Span) → mark_data Certain ≡ mark_data (Unresolved (Rival 0 s)) → ⊥
certain_names_nothing s is = absurd (cc)

unresolved_is_not_certain : (s : Span) → mark_word (Unresolved (Rival 0 s)) ≡ mark_word Certain → ⊥
unresolved_is_not_certain s is = absurd (cc)

no_entry_is_left_out : (p : Problem) (e : Entry) → AreEntryData p (e ∷ []) false [] → ⊥
no_entry_is_left_out p e is = absurd (cc)
