-- reports written by hand
use Rattle.std.proofs.Common.{◌≡◌, refl, ℕ, ℤ, pos, List, [], ◌∷◌, ◌++◌, codes, Some, true, false}
use Rattle.std.specs.Fmt.{digits}
use Rattle.sidb_units.specs.Decimal.{last_digits}
use Rattle.serde_json.proofs.OnLiterals.{serde_json_on_literals}
use Rattle.charge_model.specs.declared.charge.Charge.TheVariants.{Neg}
use Rattle.charge_model.specs.declared.mark.Mark.TheVariants.{Certain}
use Rattle.charge_model.specs.GroundList.{Entry}
use Rattle.ground_entries.specs.declared.ground_list.Solved.{Solved}
use Rattle.bdl_pairs.specs.declared.verdicts.PatternVerdict.{PatternVerdict}
use Rattle.bdl_pairs.specs.declared.verdicts.PatternVerdict.TheVariants.{Works as PatternWorks, Fails as PatternFails, Undecided as PatternUndecided}
use Rattle.bdl_pairs.specs.declared.truth.PatternAnswer.{PatternAnswer}
use Rattle.bdl_pairs.specs.declared.cell.Cell.{Cell}
use Rattle.bdl_pairs.specs.declared.cell.CellAnswer.{CellAnswer}
use Rattle.bdl_pairs.specs.declared.cell.CellAnswer.TheVariants.{Works, Fails, Undecided, Budget}
use Rattle.gate_report.specs.Answers.{overall}
use Rattle.gate_report.specs.DomainText.{domain_text}
use Rattle.gate_report.specs.GateJson.{domain_json, truth_json}
use Rattle.gate_report.specs.GenText.{gen_text}

-- a line and its end
abbrev pub line : List ℕ → List ℕ → List ℕ
line words rest = words ++ 10 ∷ rest

-- 34 is the quotation mark
abbrev pub quoted : List ℕ → List ℕ
quoted word = 34 ∷ (word ++ 34 ∷ [])

abbrev pub cell : ℤ → ℤ → CellAnswer → Cell
cell eps lam answer = record { eps = eps; lam = lam; answer = answer }

two_cells : domain_text (cell (pos 56000) (pos 50000) (Budget 1) ∷ cell (pos 60000) (pos 50000) Works ∷ [])
    ≡ line (codes "sidb-domain 1") (line (codes "cell 5.6000 5.0000 budget 1") (line (codes "cell 6.0000 5.0000 works") (line (codes "end") [])))
unfolding last_digits digits
two_cells = refl

no_cells_in_json : domain_json [] ≡ (codes "{" ++ (quoted (codes "cells") ++ (codes ":[]," ++ (quoted (codes "kind") ++ (codes ":" ++ (quoted (codes "sidb-domain") ++ (codes "," ++ (quoted (codes "version") ++ codes ":1}")))))))) ++ 10 ∷ []
unfolding serde_json_on_literals digits
no_cells_in_json = refl

abbrev pub answer : PatternVerdict → PatternAnswer
answer verdict = record { wanted = true; verdict = verdict; list = [] }

-- the first pattern that does not work is named
second_fails : overall 0 (answer PatternWorks ∷ answer PatternFails ∷ answer PatternUndecided ∷ []) ≡ Fails 1
second_fails = refl

first_undecided : overall 0 (answer PatternUndecided ∷ answer PatternFails ∷ []) ≡ Undecided 0
first_undecided = refl

all_work : overall 0 (answer PatternWorks ∷ answer PatternWorks ∷ []) ≡ Works
all_work = refl

-- one site: two nodes, and one certain entry
abbrev pub one_site : Solved
one_site = record { list = record { charges = Neg ∷ []; mark = Certain } ∷ []; bound = Some (pos 0); nodes = 2 }

generated : gen_text 1 1 one_site
    ≡ line (codes "sidb-gen 1") (line (codes "number 1") (line (codes "sites 1") (line (codes "nodes 2") (line (codes "entries 1") (line (codes "certain 1") (line (codes "end") []))))))
unfolding digits
generated = refl
