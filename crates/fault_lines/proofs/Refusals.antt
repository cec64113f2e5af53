-- what is no fault of an input, and lines that differ
use Rattle.std.proofs.Common.{◌≡◌, refl, length, ap, arith}
use Rattle.std.specs.Fmt.{digits}
use Rattle.table_lines.specs.declared.fault.TableFault.TheVariants as table
use Rattle.sqd_scan.specs.declared.fault.SqdFault.TheVariants as layout
use Rattle.certificate_model.specs.declared.refusal.CertRefusal.TheVariants as refusal
use Rattle.certificate_reading.specs.declared.fault.CertText.TheVariants as text
use Rattle.fault_lines.specs.declared.input_fault.InputFault.TheVariants.{Layout, Table, Text, GateSite}
use Rattle.fault_lines.specs.FaultLines.{IsNamed, input_line}
use Rattle.fault_lines.specs.CertificateLines.{certificate_fault_line}

no_table_memory : IsNamed (Table table.Memory) → ⊥
no_table_memory is = is.table refl

no_layout_memory : IsNamed (Layout layout.Memory) → ⊥
no_layout_memory is = is.layout refl

of_tables_or_layouts : input_line (Layout layout.TooMany) ≡ input_line (Table table.TooMany) → ⊥
of_tables_or_layouts is = let differ : 21 ≡ 27 = ap length is in omega (arith, differ)

sites_or_fixed_charges : input_line (Layout layout.TooMany) ≡ input_line (Layout layout.TooManyFixes) → ⊥
sites_or_fixed_charges is = let differ : 21 ≡ 27 = ap length is in omega (arith, differ)

sites_or_places : input_line (Layout (layout.BadSite 4)) ≡ input_line (GateSite 4) → ⊥
unfolding digits
sites_or_places is = let differ : 23 ≡ 24 = ap length is in omega (arith, differ)

no_text_memory : IsNamed (Text text.Memory) → ⊥
no_text_memory is = is.certificate refl

no_memory_in_a_table : IsNamed (Text (text.Table table.Memory)) → ⊥
no_memory_in_a_table is = is.certificate_table refl

short_or_long : certificate_fault_line refusal.Short ≡ certificate_fault_line refusal.Long → ⊥
short_or_long is = let differ : 24 ≡ 23 = ap length is in omega (arith, differ)
