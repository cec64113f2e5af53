-- The lines of the pairs of sites.
use Rattle.std.proofs.Common.{◌≡◌, ◌∙◌, sym, ap, refl, subst, ℕ, pos, zero, suc, ◌+◌, ◌-◌, ◌<◌, ◌≤◌, ◌≤ℤ◌, ◌<ℤ◌, List, [], ◌∷◌, ◌++◌, map, length, cond, is_some, None, Some, arith, append_assoc, inl, inr, ◌⊎◌}
use Rattle.std.specs.Option.{option_or}
use Rattle.std.specs.List.{range_with_len, flat_map}
use Rattle.std.proofs.lemmas.Int.{ints}
use Rattle.std.proofs.lemmas.List.{append-nil}
use Rattle.charge_model.specs.Problem.{Problem, IsProblem, class_of}
use Rattle.potential_problem.proofs.Places.{pairs_before-le}
use Rattle.text_rows.proofs.RowLemmas.{and_both}
use Rattle.table_lines.specs.declared.line.TableLine.{TableLine}
use Rattle.table_lines.specs.declared.fault.TableFault.TheVariants.{TwicePair}
use Rattle.table_lines.specs.Seen.{ends_of}
use Rattle.table_reading.specs.Filled.{pair_place}
use Rattle.table_lines.specs.Kinds.{site_count_in, spans_of, pair_in, pair_class, near_class}
use Rattle.table_lines.specs.FineLines.{IsFineTableLine}
use Rattle.table_reading.specs.Reading.{IsEarlierPair}
use Rattle.table_lines.proofs.KindLemmas.{pair_push, near_push, or_none}
use Rattle.table_reading.proofs.ProblemLemmas.{class_in_order}
use Rattle.table_lines.proofs.Sound.{fault_none}
use Rattle.potential_table.specs.TableRows.{head_lines, charge_lines, class_lines, pair_line, pairs_from, pair_lines}
use Rattle.potential_table.proofs.StageLemmas.{AreBegun, begun_more, IsOpen, or_right, after_last, not_below, is_less}
use Rattle.potential_table.proofs.RangeLemmas.{class_few}
use Rattle.potential_table.proofs.HeadStages.{HasClasses, ends_count, class_stage}
use Rattle.potential_table.proofs.EarlierLemmas.{none_before_pairs, not_itself, earlier_or_same, earlier_on, pair_in_row, before_next_row, apart, alike}

-- the lines with those of the pairs before (i, j)
pub record HasPairs (p : Problem) (ls : List TableLine) (i j : ℕ) : Type 0 where
  pub begun : AreBegun p ls p.fixed_charges (ends_of p.spans)
  pub follow : IsOpen ls
  pub known : (k l : ℕ) → k < l → l < p.sites → IsEarlierPair k l i j → pair_class ls (pos k) (pos l) ≡ Some (pos (class_of p k l))
  pub unknown : (k l : ℕ) → (IsEarlierPair k l i j → ⊥) → pair_class ls (pos k) (pos l) ≡ None
  pub no_near : (k a : ℕ) → near_class ls (pos k) (pos a) ≡ None

no_pairs : (p : Problem) (ls : List TableLine) → HasClasses p ls p.spans → HasPairs p ls 0 1
no_pairs p ls h = record {
  begun = h.begun;
  follow = λ l e. h.follow l (or_right _ _ e);
  known = λ k l order below e. absurd (none_before_pairs k l order e);
  unknown = λ k l later. h.no_places.pairs k l;
  no_near = h.no_places.near;
}

class_below : (p : Problem) (i j : ℕ) → IsProblem p → i < j → j < p.sites → class_of p i j < length p.spans
class_below p i j is order below =
    let row : suc i ≤ p.sites = omega (arith, order, below) in
    let rows = pairs_before-le p.sites (suc i) p.sites row in
    let at : pair_place p.sites i j < length p.pair_classes = omega (arith, is.class_per_pair, rows, order, below) in
    subst (λ c. c < length p.spans) (sym (class_in_order p i j order)) (is.classes (pair_place p.sites i j) 0 at)

pair_fine : (p : Problem) (ls : List TableLine) (i j : ℕ) → IsProblem p → HasPairs p ls i j → i < j → j < p.sites → IsFineTableLine ls (pair_line p i j)
pair_fine p ls i j is h order below =
    let class = class_below p i j is order below in
    let few = class_few p _ is class in
    let count : length (spans_of ls) ≡ length p.spans = ap length h.begun.spans ∙ ends_count p.spans in
    let low : pos 0 ≤ℤ pos i = omega (arith, ints) in
    let less : pos i <ℤ pos j = omega (arith, ints, order) in
    let high : pos j <ℤ site_count_in ls = omega (arith, ints, below, h.begun.sites) in
    let class_low : pos 0 ≤ℤ pos (class_of p i j) = omega (arith, ints) in
    let class_high : pos (class_of p i j) <ℤ pos (length (spans_of ls)) = omega (arith, ints, class, count) in
    record {
      follows = h.follow (pair_line p i j) refl;
      faultless = fault_none ls _ (pair_line p i j) (record { few_sites = refl; few_fixed = refl; in_range = and_both _ _ (and_both _ _ (and_both _ _ (not_below _ _ low) (is_less _ _ less)) (is_less _ _ high)) (and_both _ _ (not_below _ _ class_low) (is_less _ _ class_high)); in_order = refl; once = ap (λ o. cond (is_some o) (Some (TwicePair i j)) None) (h.unknown i j (not_itself i j i j refl refl)) });
      short = (omega (arith, order, below, is.few_sites), omega (arith, below, is.few_sites), omega (arith, few));
    }

known_more : (p : Problem) (ls : List TableLine) (i j k l : ℕ) → HasPairs p ls i j → k < l → l < p.sites → IsEarlierPair k l i j ⊎ ((k ≡ i) × (l ≡ j)) → pair_class (ls ++ pair_line p i j ∷ []) (pos k) (pos l) ≡ Some (pos (class_of p k l))
known_more p ls i j k l h order below (inl e) =
    pair_push ls (pair_line p i j) (pos k) (pos l) ∙ ap (λ o. option_or o (pair_in (pos k) (pos l) (pair_line p i j))) (h.known k l order below e)
known_more p ls i j k l h order below (inr e) =
    pair_push ls (pair_line p i j) (pos k) (pos l) ∙ ap (λ o. option_or o (pair_in (pos k) (pos l) (pair_line p i j))) (h.unknown k l (not_itself k l i j e.0 e.1))
    ∙ ap (λ b. cond b (Some (pos (class_of p i j))) None) (alike i j k l e.0 e.1)
    ∙ ap (λ n. Some (pos (class_of p n j))) (sym e.0) ∙ ap (λ n. Some (pos (class_of p k n))) (sym e.1)

pair_more : (p : Problem) (ls : List TableLine) (i j : ℕ) → IsProblem p → HasPairs p ls i j → i < j → j < p.sites → HasPairs p (ls ++ pair_line p i j ∷ []) i (j + 1)
pair_more p ls i j is h order below = record {
  begun = begun_more p ls (pair_line p i j) p.fixed_charges _ (ends_of p.spans) _ h.begun (record { second = refl; sites = λ n. refl; fixed = λ n. refl; base = λ n. refl; minus = λ n. refl; plus = λ n. refl }) (pair_fine p ls i j is h order below) (append-nil p.fixed_charges) (append-nil (ends_of p.spans));
  follow = λ l e. after_last ls (pair_line p i j) l ∙ e;
  known = λ k l less under e. known_more p ls i j k l h less under (earlier_or_same k l i j e);
  unknown = λ k l later.
      pair_push ls (pair_line p i j) (pos k) (pos l) ∙ ap (λ o. option_or o (pair_in (pos k) (pos l) (pair_line p i j))) (h.unknown k l (λ e. later (earlier_on k l i j e)))
      ∙ ap (λ b. cond b (Some (pos (class_of p i j))) None) (apart i j k l later);
  no_near = λ k a. near_push ls (pair_line p i j) (pos k) (pos a) ∙ or_none (near_class ls (pos k) (pos a)) ∙ h.no_near k a;
}

row_on : (p : Problem) (ls : List TableLine) (i j m : ℕ) → IsProblem p → HasPairs p ls i j → i < j → j + m ≡ p.sites → HasPairs p (ls ++ map (pair_line p i) (range_with_len j m)) i p.sites
row_on p ls i j zero is h order whole =
    let same : j ≡ p.sites = omega (arith, whole) in
    rw (append-nil ls) (subst (HasPairs p ls i) same h)
row_on p ls i j (suc m) is h order whole =
    let next = pair_more p ls i j is h order (omega (arith, whole)) in
    let on = row_on p (ls ++ pair_line p i j ∷ []) i (j + 1) m is next (omega (arith, order)) (omega (arith, whole)) in
    subst (λ x. HasPairs p x i p.sites) (append_assoc ls (pair_line p i j ∷ []) (map (pair_line p i) (range_with_len (j + 1) m))) on

row_next : (p : Problem) (ls : List TableLine) (i : ℕ) → HasPairs p ls i p.sites → HasPairs p ls (i + 1) (suc (i + 1))
row_next p ls i h = record {
  begun = h.begun;
  follow = h.follow;
  known = λ k l order below e. h.known k l order below (pair_in_row k l i p.sites order below e);
  unknown = λ k l later. h.unknown k l (λ e. later (before_next_row k l i p.sites (suc (i + 1)) e));
  no_near = h.no_near;
}

rows_on : (p : Problem) (ls : List TableLine) (i m : ℕ) → IsProblem p → HasPairs p ls i (suc i) → i + m ≡ p.sites → HasPairs p (ls ++ flat_map (pairs_from p) (range_with_len i m)) p.sites (suc p.sites)
rows_on p ls i zero is h whole =
    let same : i ≡ p.sites = omega (arith, whole) in
    rw (append-nil ls) (subst (λ n. HasPairs p ls n (suc n)) same h)
rows_on p ls i (suc m) is h whole =
    let row = row_on p ls i (suc i) (p.sites - suc i) is h (omega arith) (omega (arith, whole)) in
    let on = rows_on p (ls ++ pairs_from p i) (i + 1) m is (row_next p (ls ++ pairs_from p i) i row) (omega (arith, whole)) in
    subst (λ x. HasPairs p x p.sites (suc p.sites)) (append_assoc ls (pairs_from p i) (flat_map (pairs_from p) (range_with_len (i + 1) m))) on

-- the lines with those of all pairs
pub pair_stage : (p : Problem) → IsProblem p → HasPairs p (((head_lines p ++ charge_lines p) ++ class_lines p) ++ pair_lines p) p.sites (suc p.sites)
pair_stage p is = rows_on p ((head_lines p ++ charge_lines p) ++ class_lines p) 0 p.sites is (no_pairs p _ (class_stage p is)) (omega arith)
