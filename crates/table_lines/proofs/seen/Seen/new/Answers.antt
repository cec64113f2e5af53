use Rattle.std.proofs.Common.{◌∙◌, sym, ap, pos, ℤ, Option, ◌*◌, ◌+◌, None, arith, length}
use Rattle.std.proofs.lemmas.List.{get_or-replicate, length-replicate}
use Rattle.charge_model.specs.declared.TheConstants.{MAX_SITES, MAX_FIXED}
use Rattle.table_lines.specs.Kinds.{has_fixed_part, site_count_in, fixed_of, base_of, minus_of, plus_of, fixed_charges_in, spans_of, pair_class, near_class}
use Rattle.table_lines.specs.Seen.{ends_of, cell_at}
use Rattle.table_lines.proofs.seen.Seen.new.Goals as goal

pub returns-clause-counted : goal.returns-clause-counted
returns-clause-counted c =
    let lines = sym c.new.ensures.items in
    record {
      second = ap has_fixed_part lines;
      sites = ap site_count_in lines;
      fixed = ap fixed_of lines;
      base = ap base_of lines;
      minus = ap minus_of lines;
      plus = ap plus_of lines;
      charges = c.new-2.ensures.items ∙ ap fixed_charges_in lines;
      spans = ap ends_of c.new-3.ensures.items ∙ ap spans_of lines;
      all_pairs = ap length c.in_ok-blank.ensures ∙ length-replicate {A = Option ℤ} (MAX_SITES * MAX_SITES) None;
      pairs = λ i j h g. ap (λ cells. cell_at MAX_SITES cells i j) c.in_ok-blank.ensures ∙ get_or-replicate {A = Option ℤ} (MAX_SITES * MAX_SITES) (i * MAX_SITES + j) None None (omega (arith, h, g)) ∙ ap (λ ls. pair_class ls (pos i) (pos j)) lines;
      all_near = ap length c.in_ok-blank-2.ensures ∙ length-replicate {A = Option ℤ} (MAX_SITES * MAX_FIXED) None;
      near = λ i a h g. ap (λ cells. cell_at MAX_FIXED cells i a) c.in_ok-blank-2.ensures ∙ get_or-replicate {A = Option ℤ} (MAX_SITES * MAX_FIXED) (i * MAX_FIXED + a) None None (omega (arith, h, g)) ∙ ap (λ ls. near_class ls (pos i) (pos a)) lines;
    }
