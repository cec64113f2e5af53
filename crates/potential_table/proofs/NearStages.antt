-- The lines of the sites with the fixed charges.
use Rattle.std.proofs.Common.{◌≡◌, ◌∙◌, sym, ap, refl, subst, ℕ, pos, zero, suc, ◌+◌, ◌<◌, ◌≤◌, ◌≤ℤ◌, ◌<ℤ◌, List, [], ◌∷◌, ◌++◌, map, length, true, not, cond, is_some, None, Some, arith, append_assoc, inl, inr, ◌⊎◌}
use Rattle.std.specs.Prelude.{◌==◌}
use Rattle.std.specs.Option.{option_or}
use Rattle.std.specs.List.{range_with_len, flat_map}
use Rattle.std.proofs.Math.Nat.{mul-le-mul_right}
use Rattle.std.proofs.lemmas.Int.{ints}
use Rattle.std.proofs.lemmas.Bool.Decides.{nat_tests}
use Rattle.std.proofs.lemmas.List.{append-nil}
use Rattle.charge_model.specs.Problem.{Problem, IsProblem, class_of, near_class_of, fixed_count}
use Rattle.text_rows.proofs.RowLemmas.{and_both}
use Rattle.table_lines.specs.declared.line.TableLine.{TableLine}
use Rattle.table_lines.specs.declared.fault.TableFault.TheVariants.{TwiceNear}
use Rattle.table_lines.specs.Seen.{ends_of}
use Rattle.table_reading.specs.Filled.{near_place}
use Rattle.table_lines.specs.Kinds.{site_count_in, fixed_of, spans_of, pair_class, near_in, near_class}
use Rattle.table_lines.specs.FineLines.{IsFineTableLine}
use Rattle.table_reading.specs.Reading.{IsEarlierPair}
use Rattle.table_lines.proofs.KindLemmas.{pair_push, near_push, or_none}
use Rattle.table_reading.proofs.ProblemLemmas.{near_in_order}
use Rattle.table_lines.proofs.Sound.{fault_none}
use Rattle.potential_table.specs.TableRows.{head_lines, charge_lines, class_lines, pair_lines, near_line, near_at, near_lines}
use Rattle.potential_table.proofs.StageLemmas.{AreBegun, begun_more, IsOpen, after_last, not_below, is_less}
use Rattle.potential_table.proofs.RangeLemmas.{class_few}
use Rattle.potential_table.proofs.HeadStages.{ends_count}
use Rattle.potential_table.proofs.PairStages.{HasPairs, pair_stage}
use Rattle.potential_table.proofs.EarlierLemmas.{none_before, not_itself, earlier_or_same, earlier_on, near_in_row, before_next_row, apart, alike}

-- the lines with those of all pairs, and of the sites with the fixed charges before (i, a)
pub record HasNear (p : Problem) (ls : List TableLine) (i a : ℕ) : Type 0 where
  pub begun : AreBegun p ls p.fixed_charges (ends_of p.spans)
  pub follow : IsOpen ls
  pub pairs : (k l : ℕ) → k < l → l < p.sites → pair_class ls (pos k) (pos l) ≡ Some (pos (class_of p k l))
  pub known : (k b : ℕ) → b < fixed_count p → IsEarlierPair k b i a → near_class ls (pos k) (pos b) ≡ Some (pos (near_class_of p k b))
  pub unknown : (k b : ℕ) → (IsEarlierPair k b i a → ⊥) → near_class ls (pos k) (pos b) ≡ None

no_near : (p : Problem) (ls : List TableLine) → HasPairs p ls p.sites (suc p.sites) → HasNear p ls 0 0
no_near p ls h = record {
  begun = h.begun;
  follow = h.follow;
  pairs = λ k l order below. h.known k l order below (inl (omega (arith, order, below)));
  known = λ k b below e. absurd (none_before k b e);
  unknown = λ k b later. h.no_near k b;
}

class_below : (p : Problem) (i a : ℕ) → IsProblem p → i < p.sites → a < fixed_count p → near_class_of p i a < length p.spans
class_below p i a is site charge =
    let row : suc i ≤ p.sites = omega (arith, site) in
    let rows = mul-le-mul_right (fixed_count p) row in
    let at : near_place (fixed_count p) i a < length p.near_classes = omega (arith, is.class_per_near, rows, charge) in
    subst (λ c. c < length p.spans) (sym (near_in_order p i a)) (is.near (near_place (fixed_count p) i a) 0 at)

some_fixed : (n a : ℕ) → a < n → not (n == 0) ≡ true
some_fixed n a h = grind (arith, nat_tests)

near_fine : (p : Problem) (ls : List TableLine) (i a : ℕ) → IsProblem p → HasNear p ls i a → i < p.sites → a < fixed_count p → IsFineTableLine ls (near_line p i a)
near_fine p ls i a is h site charge =
    let class = class_below p i a is site charge in
    let few = class_few p _ is class in
    let count : length (spans_of ls) ≡ length p.spans = ap length h.begun.spans ∙ ends_count p.spans in
    let site_low : pos 0 ≤ℤ pos i = omega (arith, ints) in
    let site_high : pos i <ℤ site_count_in ls = omega (arith, ints, site, h.begun.sites) in
    let charge_low : pos 0 ≤ℤ pos a = omega (arith, ints) in
    let charge_high : pos a <ℤ fixed_of ls = omega (arith, ints, charge, h.begun.fixed) in
    let class_low : pos 0 ≤ℤ pos (near_class_of p i a) = omega (arith, ints) in
    let class_high : pos (near_class_of p i a) <ℤ pos (length (spans_of ls)) = omega (arith, ints, class, count) in
    record {
      follows = h.follow (near_line p i a) (h.begun.second ∙ some_fixed (fixed_count p) a charge);
      faultless = fault_none ls _ (near_line p i a) (record { few_sites = refl; few_fixed = refl; in_range = and_both _ _ (and_both _ _ (and_both _ _ (not_below _ _ site_low) (is_less _ _ site_high)) (and_both _ _ (not_below _ _ charge_low) (is_less _ _ charge_high))) (and_both _ _ (not_below _ _ class_low) (is_less _ _ class_high)); in_order = refl; once = ap (λ o. cond (is_some o) (Some (TwiceNear i a)) None) (h.unknown i a (not_itself i a i a refl refl)) });
      short = (omega (arith, site, is.few_sites), omega (arith, charge, is.few_fixed), omega (arith, few));
    }

known_more : (p : Problem) (ls : List TableLine) (i a k b : ℕ) → HasNear p ls i a → b < fixed_count p → IsEarlierPair k b i a ⊎ ((k ≡ i) × (b ≡ a)) → near_class (ls ++ near_line p i a ∷ []) (pos k) (pos b) ≡ Some (pos (near_class_of p k b))
known_more p ls i a k b h below (inl e) =
    near_push ls (near_line p i a) (pos k) (pos b) ∙ ap (λ o. option_or o (near_in (pos k) (pos b) (near_line p i a))) (h.known k b below e)
known_more p ls i a k b h below (inr e) =
    near_push ls (near_line p i a) (pos k) (pos b) ∙ ap (λ o. option_or o (near_in (pos k) (pos b) (near_line p i a))) (h.unknown k b (not_itself k b i a e.0 e.1))
    ∙ ap (λ x. cond x (Some (pos (near_class_of p i a))) None) (alike i a k b e.0 e.1)
    ∙ ap (λ n. Some (pos (near_class_of p n a))) (sym e.0) ∙ ap (λ n. Some (pos (near_class_of p k n))) (sym e.1)

near_more : (p : Problem) (ls : List TableLine) (i a : ℕ) → IsProblem p → HasNear p ls i a → i < p.sites → a < fixed_count p → HasNear p (ls ++ near_line p i a ∷ []) i (a + 1)
near_more p ls i a is h site charge = record {
  begun = begun_more p ls (near_line p i a) p.fixed_charges _ (ends_of p.spans) _ h.begun (record { second = refl; sites = λ n. refl; fixed = λ n. refl; base = λ n. refl; minus = λ n. refl; plus = λ n. refl }) (near_fine p ls i a is h site charge) (append-nil p.fixed_charges) (append-nil (ends_of p.spans));
  follow = λ l e. after_last ls (near_line p i a) l ∙ e;
  pairs = λ k l order below. pair_push ls (near_line p i a) (pos k) (pos l) ∙ or_none (pair_class ls (pos k) (pos l)) ∙ h.pairs k l order below;
  known = λ k b below e. known_more p ls i a k b h below (earlier_or_same k b i a e);
  unknown = λ k b later.
      near_push ls (near_line p i a) (pos k) (pos b) ∙ ap (λ o. option_or o (near_in (pos k) (pos b) (near_line p i a))) (h.unknown k b (λ e. later (earlier_on k b i a e)))
      ∙ ap (λ x. cond x (Some (pos (near_class_of p i a))) None) (apart i a k b later);
}

row_on : (p : Problem) (ls : List TableLine) (i a m : ℕ) → IsProblem p → HasNear p ls i a → i < p.sites → a + m ≡ fixed_count p → HasNear p (ls ++ map (near_line p i) (range_with_len a m)) i (fixed_count p)
row_on p ls i a zero is h site whole =
    let same : a ≡ fixed_count p = omega (arith, whole) in
    rw (append-nil ls) (subst (HasNear p ls i) same h)
row_on p ls i a (suc m) is h site whole =
    let next = near_more p ls i a is h site (omega (arith, whole)) in
    let on = row_on p (ls ++ near_line p i a ∷ []) i (a + 1) m is next site (omega (arith, whole)) in
    subst (λ x. HasNear p x i (fixed_count p)) (append_assoc ls (near_line p i a ∷ []) (map (near_line p i) (range_with_len (a + 1) m))) on

row_next : (p : Problem) (ls : List TableLine) (i : ℕ) → HasNear p ls i (fixed_count p) → HasNear p ls (i + 1) 0
row_next p ls i h = record {
  begun = h.begun;
  follow = h.follow;
  pairs = h.pairs;
  known = λ k b below e. h.known k b below (near_in_row k b i (fixed_count p) below e);
  unknown = λ k b later. h.unknown k b (λ e. later (before_next_row k b i (fixed_count p) 0 e));
}

rows_on : (p : Problem) (ls : List TableLine) (i m : ℕ) → IsProblem p → HasNear p ls i 0 → i + m ≡ p.sites → HasNear p (ls ++ flat_map (near_at p) (range_with_len i m)) p.sites 0
rows_on p ls i zero is h whole =
    let same : i ≡ p.sites = omega (arith, whole) in
    rw (append-nil ls) (subst (λ n. HasNear p ls n 0) same h)
rows_on p ls i (suc m) is h whole =
    let row = row_on p ls i 0 (fixed_count p) is h (omega (arith, whole)) (omega arith) in
    let on = rows_on p (ls ++ near_at p i) (i + 1) m is (row_next p (ls ++ near_at p i) i row) (omega (arith, whole)) in
    subst (λ x. HasNear p x p.sites 0) (append_assoc ls (near_at p i) (flat_map (near_at p) (range_with_len (i + 1) m))) on

-- the lines with those of all sites and fixed charges
pub near_stage : (p : Problem) → IsProblem p → HasNear p ((((head_lines p ++ charge_lines p) ++ class_lines p) ++ pair_lines p) ++ near_lines p) p.sites 0
near_stage p is = rows_on p (((head_lines p ++ charge_lines p) ++ class_lines p) ++ pair_lines p) 0 p.sites is (no_near p _ (pair_stage p is)) (omega arith)
