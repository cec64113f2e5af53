-- with narrower spans the search tree has no more nodes
use Rattle.std.proofs.Common.{◌≡◌, ℕ, zero, suc, ◌+◌, ◌<◌, ◌≤◌, List, [], ◌∷◌, ◌++◌, length, map, ℤ, pos, ◌*ℤ◌, ◌≤ℤ◌, ◌∙◌, refl, subst, arith, ◌⊎◌, inl, inr, Bool, true, false, cond, eqb, Option, Some, None}
use Rattle.std.proofs.lemmas.Int.{ints}
use Rattle.std.proofs.lemmas.Bool.{cases_lt}
use Rattle.std.proofs.lemmas.List.{length-append, length-map, get_or_past}
use Rattle.charge_model.specs.declared.charge.Charge.{Charge}
use Rattle.charge_model.specs.declared.charge.Charge.TheVariants.{Neg, Neutral, Pos}
use Rattle.charge_model.specs.declared.span.Span.{Span}
use Rattle.charge_model.specs.Problem.{Problem, IsProblem, IsGreatest, lo_in, hi_in}
use Rattle.charge_model.specs.Rules.{energy}
use Rattle.charge_model.specs.Prefixes.{low}
use Rattle.charge_model.specs.Tree.{IsNode, is_node, nodes_from, node_count, IsLeastCertain}
use Rattle.prefix_laws.proofs.NodeLemmas.{node_of_test, test_of_node}
use Rattle.narrower_laws.specs.Narrower.{IsNarrower}
use Rattle.narrower_laws.proofs.NarrowerLemmas.{energy_is, table_of_wider, certain_too, list_too}
use Rattle.narrower_laws.proofs.Extremes.{AreWithin, open_too}
use Rattle.narrower_laws.proofs.Bounds.{low_falls}

-- a threshold that is no less than another, where there is one
abbrev IsNoLess : Option ℤ → Option ℤ → Type 0
IsNoLess None c = Unit {0}
IsNoLess (Some y) None = ⊥
IsNoLess (Some y) (Some x) = x ≤ℤ y

counted-le : (a b : Bool) (m n : ℕ) → (a ≡ true → b ≡ true) → m ≤ n → cond a m 0 ≤ cond b n 0
counted-le true true m n more less = less
counted-le true false m n more less = let wrong = more refl in absurd (cc)
counted-le false b m n more less = omega arith

skipped-le : (a : Bool) (m n : ℕ) → m ≤ n → cond a 0 m ≤ cond a 0 n
skipped-le true m n less = omega arith
skipped-le false m n less = less

one_more : (q : List Charge) (c : Charge) → length (q ++ c ∷ []) ≡ length q + 1
one_more q c = length-append q (c ∷ []) ∙ omega arith

module _ (p : Problem) (s : List Span) (within : AreWithin s p.spans) where
  node_within : (b c : Option ℤ) → IsNoLess b c → (q : List Charge) → IsNode p c q → IsNode (record p { spans = s }) b q
  node_within None c less q node = record { opens = open_too p s within q node.opens; within = tt }
  node_within (Some y) None less q node = absurd less
  node_within (Some y) (Some x) less q node = record {
    opens = open_too p s within q node.opens;
    within = let falls = low_falls p s within q node.opens in let bound : low p q ≤ℤ x = node.within in omega (arith, ints, falls, bound, less);
  }

  node_too : (b c : Option ℤ) → IsNoLess b c → (q : List Charge) → length q ≤ p.sites → is_node p c q ≡ true → is_node (record p { spans = s }) b q ≡ true
  node_too b c less q short e = test_of_node (record p { spans = s }) b q (node_within b c less q (node_of_test p c q short e))

  count-le : (b c : Option ℤ) → IsNoLess b c → (more : ℕ) (q : List Charge) → length q + more ≤ p.sites → nodes_from p c more q ≤ nodes_from (record p { spans = s }) b more q
  count-le b c less zero q room = counted-le (is_node p c q) (is_node (record p { spans = s }) b q) 1 1 (node_too b c less q (omega (arith, room))) (omega arith)
  count-le b c less (suc more) q room =
      let negative = count-le b c less more (q ++ Neg ∷ []) (omega (arith, room, one_more q Neg)) in
      let neutral = count-le b c less more (q ++ Neutral ∷ []) (omega (arith, room, one_more q Neutral)) in
      let positive = skipped-le (eqb p.base 2) _ _ (count-le b c less more (q ++ Pos ∷ []) (omega (arith, room, one_more q Pos))) in
      counted-le (is_node p c q) (is_node (record p { spans = s }) b q) _ _ (node_too b c less q (omega (arith, room))) (omega (arith, negative, neutral, positive))

  fewer_nodes : (b c : Option ℤ) → IsNoLess b c → node_count p c ≤ node_count (record p { spans = s }) b
  unfolding node_count
  fewer_nodes b c less = count-le b c less p.sites [] (omega arith)

-- no class has an end past the last one
past_spans : (s : List Span) (c : ℕ) → length s ≤ c → (lo_in s c ≡ pos 0) × (hi_in s c ≡ pos 0)
past_spans s c past =
    let lows = length-map s (λ (x : Span). x.lo) in
    let highs = length-map s (λ (x : Span). x.hi) in
    (get_or_past (map (λ (x : Span). x.lo) s) c (pos 0) (omega (arith, past, lows)), get_or_past (map (λ (x : Span). x.hi) s) c (pos 0) (omega (arith, past, highs)))

-- that energies have greatest values, as is known below
abbrev pub HaveGreatestValues : Type 0
HaveGreatestValues = (p : Problem) (c : List Charge) → IsProblem p → (greatest : ℤ) × IsGreatest p (λ t. energy p t c) greatest

module _ (values : HaveGreatestValues) (wide narrow : Problem) (is : IsNarrower wide narrow) (valid : IsProblem narrow) where
  -- the least certain energy is no greater
  bound-le : (b c : Option ℤ) → IsLeastCertain wide b → IsLeastCertain narrow c → IsNoLess b c
  bound-le None c wider narrower = tt
  bound-le (Some y) None wider narrower =
      let best = wider.attained.1 in absurd (narrower wider.attained.0 (list_too wide narrow is wider.attained.0 best.is_list) (certain_too wide narrow is wider.attained.0 best.valid))
  bound-le (Some y) (Some x) wider narrower =
      let w = wider.attained.0 in
      let best = wider.attained.1 in
      let greatest = values narrow w valid in
      let least = narrower.least greatest.0 (w, record { is_list = list_too wide narrow is w best.is_list; valid = certain_too wide narrow is w best.valid; reached = greatest.1 }) in
      let (t, table, at) = greatest.1.reached in
      let most : energy wide t w ≤ℤ (pos t.scale *ℤ y) = best.reached.bounds t (table_of_wider wide narrow is t table) in
      let same = energy_is wide narrow is t w in
      by t.scale (energy wide t w) (energy narrow t w) greatest.0 at.0 at.1 most same least
    where
      by : (n : ℕ) (e f z : ℤ) → n ≡ 1 → f ≡ z → e ≤ℤ (pos n *ℤ y) → e ≡ f → x ≤ℤ z → x ≤ℤ y
      by n e f z one reached most same least = let scaled : e ≤ℤ (pos 1 *ℤ y) = subst (λ k. e ≤ℤ (pos k *ℤ y)) one most in omega (arith, ints, scaled, reached, same, least)

  at_class : (c : ℕ) → (c < length wide.spans) ⊎ (length wide.spans ≤ c)
      → (lo_in wide.spans c ≤ℤ lo_in narrow.spans c) × (lo_in narrow.spans c ≤ℤ hi_in narrow.spans c) × (hi_in narrow.spans c ≤ℤ hi_in wide.spans c) × (pos 0 ≤ℤ lo_in narrow.spans c)
  at_class c (inl l) = let own = valid.spans c (omega (arith, l, is.count)) in (is.lo c l, own.1, is.hi c l, own.0)
  at_class c (inr past) =
      let outer = past_spans wide.spans c past in
      let inner = past_spans narrow.spans c (omega (arith, past, is.count)) in
      (omega (arith, ints, outer.0, inner.0), omega (arith, ints, inner.0, inner.1), omega (arith, ints, outer.1, inner.1), omega (arith, ints, inner.0))

  spans_within : AreWithin wide.spans narrow.spans
  spans_within = record {
    lo = λ c. (at_class c (cases_lt c (length wide.spans))).0;
    some = λ c. (at_class c (cases_lt c (length wide.spans))).1;
    hi = λ c. (at_class c (cases_lt c (length wide.spans))).2;
    least = λ c. (at_class c (cases_lt c (length wide.spans))).3;
  }

  pub no_more_nodes : (b c : Option ℤ) → IsLeastCertain wide b → IsLeastCertain narrow c → node_count narrow c ≤ node_count wide b
  no_more_nodes b c wider narrower = subst (λ (p : Problem). node_count narrow c ≤ node_count p b) is.rest (fewer_nodes narrow wide.spans spans_within b c (bound-le b c wider narrower))
