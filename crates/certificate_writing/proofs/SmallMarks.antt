-- the numbers of marks are short and in their ranges
use Rattle.std.proofs.Common.{◌≡◌, ◌∙◌, sym, subst, refl, ℕ, ◌<◌, ◌≤◌, ◌*◌, ◌^◌, List, [], length, get_or, ℤ, pos, ◌≤ℤ◌, Bool, true, not, ◌&&◌, int_lt, arith, All}
use Rattle.std.specs.Prelude.{unsigned_abs}
use Rattle.std.proofs.lemmas.Int.{ints}
use Rattle.std.proofs.lemmas.Bool.Decides.{nat_tests}
use Rattle.std.proofs.lemmas.List.{length-map, get_or-map}
use Rattle.charge_model.specs.declared.charge.Charge.{Charge}
use Rattle.charge_model.specs.declared.span.Span.{Span}
use Rattle.charge_model.specs.declared.mark.Deciding.{Deciding}
use Rattle.charge_model.specs.declared.mark.Deciding.TheVariants.{Population, Hop, Rival}
use Rattle.charge_model.specs.declared.mark.Mark.{Mark}
use Rattle.charge_model.specs.declared.mark.Mark.TheVariants.{Certain, Unresolved}
use Rattle.charge_model.specs.Problem.{Problem, Table, IsTable, IsProblem, IsLeast, IsGreatest, UnderEveryTable, UnderSomeTable}
use Rattle.charge_model.specs.Rules.{energy}
use Rattle.charge_model.specs.GroundList.{Entry, Comparison, own, rival, IsComparisonOf, comparison_slack, comparison_of, span_of, IsListed, IsDeciding, IsMark, IsMarkedGroundList, lists_of}
use Rattle.text_rows.specs.Rows.{IsShort}
use Rattle.table_lines.specs.Ranges.{is_below}
use Rattle.certificate_lines.specs.MarkRows.{mark_line, IsShortMark}
use Rattle.certificate_reading.specs.Ranges.{is_span, is_mark_in_range}
use Rattle.certificate_reading.specs.Fits.{FitsEntry}
use Rattle.certificate_writing.proofs.Sizes.{short_difference, short_slack}
use Rattle.certificate_writing.proofs.SmallTokens.{both}

-- the size of each energy is small
abbrev pub AreSmall : Problem → Type 0
AreSmall p = (cs : List Charge) → UnderEveryTable p (λ t. unsigned_abs (energy p t cs) ≤ t.scale * (4096 * 10 ^ 13))

below : (i n : ℕ) → i < n → is_below (pos n) (pos i) ≡ true
below i n h = both _ _ low high
  where
    low : not (int_lt (pos i) (pos 0)) ≡ true
    low = grind (arith, ints, nat_tests)

    high : int_lt (pos i) (pos n) ≡ true
    high = grind (arith, ints, nat_tests)

in_order : (s : Span) → is_span s.lo s.hi ≡ true
in_order s = let order = s.in_order in grind (arith, ints, nat_tests)

small_number : (i : ℕ) → i < 4096 → IsShort (pos i)
small_number i h = omega (arith, ints, h)

module _ (p : Problem) (is : IsProblem p) (small : AreSmall p) (l : List (List Charge)) (few : length l ≤ 4096) (cs : List Charge) where
  -- the slack of a comparison at scale 1
  short_at : (t : Table) → IsTable p t → t.scale ≡ 1 → (e : Comparison) → IsComparisonOf p l cs e → IsShort (comparison_slack p l cs e t)
  short_at t table one (own q) of = short_slack p is t table one (λ xs. small xs t table) cs q of
  short_at t table one (rival j) of = short_difference p is t table one (λ xs. small xs t table) _ cs

  reached : (e : Comparison) → IsComparisonOf p l cs e → (z : ℤ) → UnderSomeTable p (λ t. (t.scale ≡ 1) × (comparison_slack p l cs e t ≡ z)) → IsShort z
  reached e of z (t, table, (one, same)) = subst IsShort same (short_at t table one e of)

  short_mark : (m : Mark) → IsMark p l cs m → IsShortMark (mark_line m)
  short_mark Certain mark = tt
  short_mark (Unresolved (Population i k s)) mark = (
    small_number i (let site = mark.of_list.0 in let sites = is.few_sites in omega (arith, site, sites)),
    reached (comparison_of (Population i k s)) mark.of_list s.lo mark.least_slack.reached,
    reached (comparison_of (Population i k s)) mark.of_list s.hi mark.greatest_slack.reached,
  )
  short_mark (Unresolved (Hop i j s)) mark = (
    small_number i (let site = mark.of_list.0 in let sites = is.few_sites in omega (arith, site, sites)),
    small_number j (let site = mark.of_list.1 in let sites = is.few_sites in omega (arith, site, sites)),
    reached (comparison_of (Hop i j s)) mark.of_list s.lo mark.least_slack.reached,
    reached (comparison_of (Hop i j s)) mark.of_list s.hi mark.greatest_slack.reached,
  )
  short_mark (Unresolved (Rival j s)) mark = (
    small_number j (let entry = mark.of_list in omega (arith, entry, few)),
    reached (comparison_of (Rival j s)) mark.of_list s.lo mark.least_slack.reached,
    reached (comparison_of (Rival j s)) mark.of_list s.hi mark.greatest_slack.reached,
  )

  mark_in_range : (m : Mark) → IsMark p l cs m → is_mark_in_range p (pos (length l)) (mark_line m) ≡ true
  mark_in_range Certain mark = refl
  mark_in_range (Unresolved (Population i k s)) mark = both _ _ (below i p.sites mark.of_list.0) (in_order s)
  mark_in_range (Unresolved (Hop i j s)) mark = both _ _ (both _ _ (below i p.sites mark.of_list.0) (below j p.sites mark.of_list.1)) (in_order s)
  mark_in_range (Unresolved (Rival j s)) mark = both _ _ (below j (length l) mark.of_list) (in_order s)

-- each entry fits its line
pub entries_fit : (p : Problem) (es : List Entry) → IsProblem p → AreSmall p → length es ≤ 4096 → IsMarkedGroundList p es → All (FitsEntry p (length es)) es
entries_fit p es is small few marked = λ k d within.
    let l = lists_of es in
    let e = get_or es k d in
    let many : length l ≡ length es = length-map es (λ x. x.charges) in
    let listed = marked.ground.only_listed k [] (omega (arith, many, within)) in
    let charges : get_or l k [] ≡ e.charges = get_or-map (λ x. x.charges) es k d [] within in
    let own = subst (IsListed p) charges listed in
    let few_lists : length l ≤ 4096 = omega (arith, many, few) in
    let mark = marked.marks k d within in
    let whole = own.is_list.whole in
    let sites = is.few_sites in
    record {
      is_list = own.is_list;
      in_range = subst (λ n. is_mark_in_range p (pos n) (mark_line e.mark) ≡ true) many (mark_in_range p is small l few_lists e.charges e.mark mark);
      short = (omega (arith, whole, sites), short_mark p is small l few_lists e.charges e.mark mark);
    }
