use Rattle.std.proofs.Common.{◌∙◌, ap, map}
use Rattle.std.specs.List.{enumerate_from}
use Rattle.text_rows.specs.Rows.{text_of}
use Rattle.sim_report.specs.GroundText.{lattice_rows, site_row, fix_row}
use Rattle.sim_report.proofs.RowLemmas.{three_parts}
use Rattle.sim_report.proofs.layout.layout_lines.Goals as goal

pub returns : goal.returns
returns c =
    three_parts (lattice_rows c.args.layout.now.lattice) (map site_row (enumerate_from 0 c.args.layout.now.sites)) (map fix_row (enumerate_from 0 c.args.layout.now.fixes)) _ _ _ _ _ (c.in_ok-text.ensures ∙ ap (λ v. text_of (lattice_rows v)) c.lattice.ensures) (c.deref.ensures ∙ c.in_ok-sites.ensures) (c.deref-2.ensures ∙ c.in_ok-fixes.ensures) c.in_ok-push_str.ensures.bytes c.in_ok-push_str-2.ensures.bytes
