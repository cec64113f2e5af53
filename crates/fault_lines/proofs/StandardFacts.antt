-- lines written by hand
use Rattle.std.proofs.Common.{◌≡◌, refl, [], ◌∷◌, ◌++◌, codes}
use Rattle.std.specs.Fmt.{digits}
use Rattle.table_lines.specs.declared.fault.LineWhy.TheVariants.{Form, Range}
use Rattle.table_lines.specs.declared.fault.TableFault.TheVariants as table
use Rattle.sqd_scan.specs.declared.fault.SqdFault.TheVariants as layout
use Rattle.certificate_model.specs.declared.refusal.EntryWhy.TheVariants.{NotPossible}
use Rattle.certificate_model.specs.declared.refusal.CloseWhy.TheVariants.{PopulationHolds}
use Rattle.certificate_model.specs.declared.refusal.CertRefusal.TheVariants as refusal
use Rattle.certificate_reading.specs.declared.fault.CertText.TheVariants as text
use Rattle.fault_lines.specs.declared.input_fault.InputFault.TheVariants.{TooLong, Layout, Table, Text, GateSite}
use Rattle.fault_lines.specs.FaultLines.{IsNamed, input_line, budget_line, words_line, list_too_long_line}
use Rattle.fault_lines.specs.CertificateLines.{certificate_fault_line}

words : words_line ≡ codes "fault words" ++ 10 ∷ []
words = refl

budget : budget_line 9840 ≡ codes "fault budget 9840" ++ 10 ∷ []
unfolding digits
budget = refl

too_long_a_list : list_too_long_line ≡ codes "fault list-too-long" ++ 10 ∷ []
too_long_a_list = refl

too_long : input_line TooLong ≡ codes "fault input too-long" ++ 10 ∷ []
too_long = refl

not_closed : input_line (Layout (layout.NotClosed 32)) ≡ codes "fault input not-closed 32" ++ 10 ∷ []
unfolding digits
not_closed = refl

not_siqad : input_line (Layout layout.NotSiqad) ≡ codes "fault input not-siqad" ++ 10 ∷ []
not_siqad = refl

bad_line : input_line (Layout (layout.BadLine 1)) ≡ codes "fault input bad-line 1" ++ 10 ∷ []
unfolding digits
bad_line = refl

too_many_fixes : input_line (Layout layout.TooManyFixes) ≡ codes "fault input too-many-fixes" ++ 10 ∷ []
too_many_fixes = refl

too_close : input_line (Layout (layout.TooClose 2 3)) ≡ codes "fault input too-close 2 3" ++ 10 ∷ []
unfolding digits
too_close = refl

table_line : input_line (Table (table.Line 1 Form)) ≡ codes "fault input table line 1 form" ++ 10 ∷ []
unfolding digits
table_line = refl

missing : input_line (Table (table.MissingPair 0 1)) ≡ codes "fault input table missing 0 1" ++ 10 ∷ []
unfolding digits
missing = refl

missing_near : input_line (Table (table.MissingNear 0 1)) ≡ codes "fault input table missing-near 0 1" ++ 10 ∷ []
unfolding digits
missing_near = refl

gate_site : input_line (GateSite 4) ≡ codes "fault input gate-site 4" ++ 10 ∷ []
unfolding digits
gate_site = refl

-- a fault that has words
named : IsNamed (Layout layout.TooMany)
named = record { layout = λ is. absurd (cc); table = λ is. absurd (cc); certificate = λ is. absurd (cc); certificate_table = λ is. absurd (cc) }

text_line : input_line (Text (text.Line 12 Range)) ≡ codes "fault input certificate line 12 range" ++ 10 ∷ []
unfolding digits
text_line = refl

table_of_text : input_line (Text (text.Table table.TooMany)) ≡ codes "fault input table too-many" ++ 10 ∷ []
table_of_text = refl

refused_entry : certificate_fault_line (refusal.Entry 0 NotPossible) ≡ codes "fault certificate entry 0 not-possible" ++ 10 ∷ []
unfolding digits
refused_entry = refl

refused_token : certificate_fault_line (refusal.Close 10 PopulationHolds) ≡ codes "fault certificate token 10 population-holds" ++ 10 ∷ []
unfolding digits
refused_token = refl

short : certificate_fault_line refusal.Short ≡ codes "fault certificate short" ++ 10 ∷ []
short = refl

long : certificate_fault_line refusal.Long ≡ codes "fault certificate long" ++ 10 ∷ []
long = refl
