-- reports written by hand
use Rattle.std.proofs.Common.{◌≡◌, refl, ℕ, pos, negsuc, List, [], ◌∷◌, ◌++◌, codes, None, Some, false}
use Rattle.std.specs.Fmt.{digits}
use Rattle.serde_json.specs.Data.{array, item, no_items}
use Rattle.serde_json.specs.Written.{compact_text}
use Rattle.serde_json.proofs.OnLiterals.{serde_json_on_literals}
use Rattle.charge_model.specs.declared.charge.Charge.TheVariants.{Neg, Neutral}
use Rattle.charge_model.specs.declared.span.Span.{Span}
use Rattle.charge_model.specs.declared.mark.Mark.TheVariants.{Certain}
use Rattle.charge_model.specs.Problem.{Problem}
use Rattle.charge_model.specs.GroundList.{Entry}
use Rattle.sidb_layout.specs.Lattice.{silicon}
use Rattle.sidb_layout.specs.Layout.{arrangement_of}
use Rattle.ground_report.specs.declared.about.About.{About}
use Rattle.sim_report_json.specs.Parts.{whole_numbers, whole, entry_data, fixed_data, other_lattice_data}
use Rattle.sim_report_json.specs.GroundJson.{report_data, AreEntryData, IsGroundJson}

abbrev pub one_each_way : Span
one_each_way = record { lo = negsuc 0; hi = pos 1; in_order = record { le = tt } }

numbers : whole_numbers (pos 4 ∷ negsuc 4 ∷ []) ≡ array (item (whole (pos 4)) (item (whole (negsuc 4)) no_items))
numbers = refl

text_of_numbers : compact_text (whole_numbers (pos 4 ∷ negsuc 4 ∷ [])) ≡ codes "[4,-5]"
unfolding serde_json_on_literals digits
text_of_numbers = refl

-- 34 is the quotation mark
abbrev pub quoted : List ℕ → List ℕ
quoted word = 34 ∷ (word ++ 34 ∷ [])

text_of_an_entry : compact_text (entry_data None (record { charges = Neg ∷ Neutral ∷ []; mark = Certain }))
    ≡ codes "{" ++ (quoted (codes "charges") ++ (codes ":" ++ (quoted (codes "-0") ++ (codes "," ++ (quoted (codes "mark") ++ (codes ":" ++ (quoted (codes "certain") ++ codes "}")))))))
unfolding serde_json_on_literals
text_of_an_entry = refl

no_fixed_charges : fixed_data (Some (arrangement_of silicon [] [])) ≡ None
no_fixed_charges = refl

of_silicon : other_lattice_data (Some (arrangement_of silicon [] [])) ≡ None
of_silicon = refl

of_entries : (p : Problem) (e : Entry) → AreEntryData p (e ∷ []) false (entry_data None e ∷ [])
of_entries p e = refl

of_a_list : (a : About) (p : Problem) (e : Entry) → IsGroundJson a p (e ∷ []) false (compact_text (report_data a (entry_data None e ∷ [])) ++ 10 ∷ [])
of_a_list a p e = record { entries = entry_data None e ∷ []; of_list = refl; prints = refl }
