-- The numbers that are kept beside the lines, with one more line.
use Rattle.std.proofs.Common.{◌≡◌, ◌∙◌, sym, ap, pos, [], ◌∷◌, ◌++◌, length, ◌||◌}
use Rattle.std.specs.Option.{option_or}
use Rattle.charge_model.specs.declared.TheConstants.{MAX_SITES, MAX_FIXED}
use Rattle.table_lines.specs.declared.line.TableLine.{TableLine}
use Rattle.table_lines.specs.declared.seen.Seen.{Seen}
use Rattle.table_lines.specs.Kinds.{is_second, has_fixed_part, sites_after, site_count_in, fixed_after, fixed_of, base_after, base_of, minus_after, minus_of, plus_after, plus_of, fixed_charges_in, spans_of, pair_in, pair_class, near_in, near_class}
use Rattle.table_lines.specs.Seen.{cell_at, ends_of, IsCounted, Notes}
use Rattle.table_lines.proofs.KindLemmas.{second_push, sites_push, fixed_push, base_push, minus_push, plus_push, charges_push, spans_push, pair_push, near_push}

-- the new fields are the noted ones, with the line at the end
pub record IsPushed (noted new : Seen) (l : TableLine) : Type 0 where
  pub lines : new.lines.items ≡ noted.lines.items ++ l ∷ []
  pub second : new.second ≡ noted.second
  pub sites : new.sites ≡ noted.sites
  pub fixed : new.fixed ≡ noted.fixed
  pub base : new.base ≡ noted.base
  pub minus : new.mu_minus ≡ noted.mu_minus
  pub plus : new.mu_plus ≡ noted.mu_plus
  pub charges : new.charges.items ≡ noted.charges.items
  pub spans : new.spans.items ≡ noted.spans.items
  pub pairs : new.pairs.items ≡ noted.pairs.items
  pub near : new.near.items ≡ noted.near.items

pub counted_push : (old noted new : Seen) (l : TableLine) → IsCounted old → Notes old noted l → IsPushed noted new l → IsCounted new
counted_push old noted new l counted notes is =
    let ls = old.lines.items in
    let all : ls ++ l ∷ [] ≡ new.lines.items = sym (is.lines ∙ ap (λ x. x ++ l ∷ []) notes.lines) in
    record {
      second = is.second ∙ notes.second ∙ ap (λ b. b || is_second l) counted.second ∙ sym (second_push ls l) ∙ ap has_fixed_part all;
      sites = is.sites ∙ notes.sites ∙ ap (λ n. sites_after n l) counted.sites ∙ sym (sites_push ls l) ∙ ap site_count_in all;
      fixed = is.fixed ∙ notes.fixed ∙ ap (λ n. fixed_after n l) counted.fixed ∙ sym (fixed_push ls l) ∙ ap fixed_of all;
      base = is.base ∙ notes.base ∙ ap (λ n. base_after n l) counted.base ∙ sym (base_push ls l) ∙ ap base_of all;
      minus = is.minus ∙ notes.minus ∙ ap (λ n. minus_after n l) counted.minus ∙ sym (minus_push ls l) ∙ ap minus_of all;
      plus = is.plus ∙ notes.plus ∙ ap (λ n. plus_after n l) counted.plus ∙ sym (plus_push ls l) ∙ ap plus_of all;
      charges = is.charges ∙ notes.charges ∙ ap (λ qs. qs ++ fixed_charges_in (l ∷ [])) counted.charges ∙ sym (charges_push ls l) ∙ ap fixed_charges_in all;
      spans = ap ends_of is.spans ∙ notes.spans ∙ ap (λ ss. ss ++ spans_of (l ∷ [])) counted.spans ∙ sym (spans_push ls l) ∙ ap spans_of all;
      all_pairs = ap length is.pairs ∙ notes.all_pairs ∙ counted.all_pairs;
      pairs = λ i j h g. ap (λ cells. cell_at MAX_SITES cells i j) is.pairs ∙ notes.pairs i j h g ∙ ap (λ o. option_or o (pair_in (pos i) (pos j) l)) (counted.pairs i j h g) ∙ sym (pair_push ls l (pos i) (pos j)) ∙ ap (λ x. pair_class x (pos i) (pos j)) all;
      all_near = ap length is.near ∙ notes.all_near ∙ counted.all_near;
      near = λ i a h g. ap (λ cells. cell_at MAX_FIXED cells i a) is.near ∙ notes.near i a h g ∙ ap (λ o. option_or o (near_in (pos i) (pos a) l)) (counted.near i a h g) ∙ sym (near_push ls l (pos i) (pos a)) ∙ ap (λ x. near_class x (pos i) (pos a)) all;
    }
