-- answers worked by hand: a gate of one input pair and one output pair on four sites
use Rattle.std.proofs.Common.{◌≡◌, ℕ, refl, inl, inr, List, [], ◌∷◌, ◌++◌, Bool, true, false, codes, arith}
use Rattle.std.specs.Fmt.{digits}
use Rattle.charge_model.specs.declared.charge.Charge.TheVariants.{Neg, Neutral}
use Rattle.charge_model.specs.declared.mark.Mark.TheVariants.{Certain}
use Rattle.charge_model.specs.GroundList.{Entry}
use Rattle.sidb_layout.specs.declared.site.Site.{Site}
use Rattle.sidb_layout.specs.Layout.{Arrangement}
use Rattle.command_words.specs.declared.settings.Settings.{Settings}
use Rattle.gate_model.specs.declared.pairs.PairOf.{PairOf}
use Rattle.gate_model.specs.declared.function.Function.{Function}
use Rattle.gate_model.specs.Functions.{name_by}
use Rattle.gate_model.specs.Logic.{Logic, logic_of}
use Rattle.bdl_pairs.specs.declared.truth.PatternAnswer.{PatternAnswer}
use Rattle.bdl_pairs.specs.declared.verdicts.PatternVerdict.TheVariants.{Works, Fails}
use Rattle.bdl_pairs.specs.Remaining.{IsOn}
use Rattle.fault_lines.specs.declared.input_fault.InputFault.TheVariants.{GateSite}
use Rattle.operational_domain.specs.Truth.{AreAnswers, IsFirstOver}
use Rattle.run_answer.specs.declared.status.Status.TheVariants.{Answered, Budget, Input}
use Rattle.task_gate.specs.GateSite.{IsGateSite}
use Rattle.task_gate.specs.TruthAnswer.{IsTruthOfGate, asked_by}
use Rattle.task_gate.proofs.SomeAnswer.{site_named}

-- a line and its end
abbrev line : List ℕ → List ℕ → List ℕ
line words rest = words ++ 10 ∷ rest

abbrev pair : ℕ → ℕ → PairOf
pair a b = record { a = a; b = b }

-- the input between sites 0 and 3, the output between site 1 and another
abbrev gate_at : Function → ℕ → Logic
gate_at function b = logic_of (pair 0 3 ∷ []) (pair 1 b ∷ []) function

-- place 4 is the first that is no site
pub outside : (function : Function) (a b c d : Site) → IsGateSite (gate_at function 4) (a ∷ b ∷ c ∷ d ∷ []) 4
outside function a b c d = inr (omega arith, inr (omega arith, inr (omega arith, inl (omega arith, refl))))

fault_site : (s : Settings) (function : Function) (layout : Arrangement) → IsGateSite (gate_at function 4) layout.sites 4
    → IsTruthOfGate s (gate_at function 4) layout (Input (GateSite 4)) (line (codes "fault input gate-site 4") [])
unfolding digits
fault_site s function layout site = inr (record { place = 4; site = site; answers = record { named = site_named 4; status_is = refl; prints = refl } })

-- one certain entry: negative, neutral, negative
abbrev entry : Entry
entry = record { charges = Neg ∷ Neutral ∷ Neg ∷ []; mark = Certain }

abbrev works : Bool → PatternAnswer
works wanted = record { wanted = wanted; verdict = Works; list = entry ∷ [] }

abbrev fails : Bool → PatternAnswer
fails wanted = record { wanted = wanted; verdict = Fails; list = entry ∷ [] }

-- an inverter that works, and a buffer that fails at its first pattern
inverter : (s : Settings) (function : Function) (layout : Arrangement) → s.report.json ≡ false → name_by function ≡ codes "not" → IsOn (gate_at function 2) layout.sites
    → AreAnswers (asked_by s (gate_at function 2) layout) 2 (works true ∷ works false ∷ [])
    → IsTruthOfGate s (gate_at function 2) layout Answered
    (line (codes "sidb-truth 1") (line (codes "function not") (line (codes "inputs 1") (line (codes "outputs 1") (line (codes "pattern 0 wants 1 works entries 1") (line (codes "-0- certain") (line (codes "pattern 1 wants 0 works entries 1") (line (codes "-0- certain") (line (codes "verdict works") (line (codes "end") []))))))))))
unfolding digits
inverter s function layout plain name on are = inl (on, inl (refl, record { table = works true ∷ works false ∷ []; answers = are; prints = rw (plain, name) refl }))

buffer : (s : Settings) (function : Function) (layout : Arrangement) → s.report.json ≡ false → name_by function ≡ codes "buf" → IsOn (gate_at function 2) layout.sites
    → AreAnswers (asked_by s (gate_at function 2) layout) 2 (fails false ∷ fails true ∷ [])
    → IsTruthOfGate s (gate_at function 2) layout Answered
    (line (codes "sidb-truth 1") (line (codes "function buf") (line (codes "inputs 1") (line (codes "outputs 1") (line (codes "pattern 0 wants 0 fails entries 1") (line (codes "-0- certain") (line (codes "pattern 1 wants 1 fails entries 1") (line (codes "-0- certain") (line (codes "verdict fails 0") (line (codes "end") []))))))))))
unfolding digits
buffer s function layout plain name on are = inl (on, inl (refl, record { table = fails false ∷ fails true ∷ []; answers = are; prints = rw (plain, name) refl }))

-- the first pattern without a list needs more than four nodes
over : (s : Settings) (gate : Logic) (layout : Arrangement) → s.search.limit ≡ 4 → IsOn gate layout.sites → IsFirstOver (asked_by s gate layout)
    → IsTruthOfGate s gate layout Budget (line (codes "fault budget 4") [])
unfolding digits
over s gate layout limit on first = inl (on, inr (inl (first, (refl, rw limit refl))))
