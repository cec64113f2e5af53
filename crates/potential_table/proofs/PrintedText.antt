-- What is printed of a problem is its table text.
use Rattle.std.proofs.Common.{◌≡◌, ◌∙◌, ap, refl, pos, ◌+◌, length, List, [], ◌∷◌, ◌++◌, map, inl}
use Rattle.std.proofs.lemmas.List.{append-nil}
use Rattle.charge_model.specs.Problem.{Problem, IsProblem}
use Rattle.text_rows.specs.Rows.{text_of}
use Rattle.text_rows.proofs.RowLemmas.{rows_back}
use Rattle.table_lines.specs.declared.line.TableLine.{TableLine}
use Rattle.table_lines.specs.declared.line.TableLine.TheVariants.{End}
use Rattle.table_lines.specs.Lines.{table_line_words}
use Rattle.table_lines.specs.Seen.{ends_of}
use Rattle.table_lines.specs.Kinds.{is_last_end, pair_class, near_class}
use Rattle.table_lines.specs.FineLines.{IsFineTableLine, AreTableLinesIn}
use Rattle.table_reading.specs.Reading.{IsTableText, AreTableLinesOf}
use Rattle.table_lines.proofs.KindLemmas.{last_push, pair_push, near_push, or_none}
use Rattle.table_lines.proofs.LineLemmas.{fine_rows}
use Rattle.table_reading.proofs.OneProblem.{one_problem}
use Rattle.table_lines.proofs.Sound.{fault_none}
use Rattle.potential_table.specs.TableRows.{problem_lines, table_rows}
use Rattle.potential_table.proofs.StageLemmas.{AreBegun, begun_more}
use Rattle.potential_table.proofs.NearStages.{HasNear, near_stage}

end_fine : (p : Problem) (ls : List TableLine) → HasNear p ls p.sites 0 → IsFineTableLine ls End
end_fine p ls h = record {
  follows = h.follow End refl;
  faultless = fault_none ls (length ls + 1) End (record { few_sites = refl; few_fixed = refl; in_range = refl; in_order = refl; once = refl });
  short = tt;
}

ended : (p : Problem) (ls : List TableLine) → HasNear p ls p.sites 0 → AreBegun p (ls ++ End ∷ []) p.fixed_charges (ends_of p.spans)
ended p ls h =
    begun_more p ls End p.fixed_charges _ (ends_of p.spans) _ h.begun (record { second = refl; sites = λ n. refl; fixed = λ n. refl; base = λ n. refl; minus = λ n. refl; plus = λ n. refl }) (end_fine p ls h) (append-nil p.fixed_charges) (append-nil (ends_of p.spans))

lines_are : (p : Problem) (ls : List TableLine) → HasNear p ls p.sites 0 → AreTableLinesOf p (ls ++ End ∷ [])
lines_are p ls h =
    let b = ended p ls h in
    record {
      sites = b.sites;
      base = b.base;
      minus = b.minus;
      plus = b.plus;
      charges = b.charges;
      spans = b.spans;
      pairs = λ i j order below. pair_push ls End (pos i) (pos j) ∙ or_none (pair_class ls (pos i) (pos j)) ∙ h.pairs i j order below;
      near = λ i a site charge. near_push ls End (pos i) (pos a) ∙ or_none (near_class ls (pos i) (pos a)) ∙ h.known i a charge (inl site);
    }

whole_text : (p : Problem) (ls : List TableLine) → HasNear p ls p.sites 0 → AreTableLinesIn (text_of (map table_line_words (ls ++ End ∷ []))) (ls ++ End ∷ [])
whole_text p ls h =
    let fine = (ended p ls h).fine in
    record { rows_are = rows_back (map table_line_words (ls ++ End ∷ [])) (fine_rows [] (ls ++ End ∷ []) fine); fine = fine; ended = ap is_last_end (last_push ls End) }

pub printed_text : (p : Problem) → IsProblem p → IsTableText (text_of (table_rows p)) p
printed_text p is =
    let h = near_stage p is in
    record { lines = problem_lines p; whole = whole_text p _ h; of = lines_are p _ h; problem = is }

-- and of no other problem
pub read_back : (p q : Problem) → IsProblem p → IsTableText (text_of (table_rows p)) q → q ≡ p
read_back p q is text = one_problem (text_of (table_rows p)) q p text (printed_text p is)
