-- at which levels the tests of a site hold, by the least and the greatest of its potential
use Rattle.std.proofs.Common.{◌≡◌, ℕ, ◌<◌, ◌+◌, ◌≤◌, List, ℤ, pos, ◌+ℤ◌, ◌-ℤ◌, ◌*ℤ◌, ◌≤ℤ◌, refl, sym, subst, arith, ◌⊎◌, inl, inr}
use Rattle.std.specs.Prelude.{◌↔◌, ◌<ℤ◌}
use Rattle.std.proofs.lemmas.Int.{ints}
use Rattle.std.proofs.lemmas.Bool.{cases_lt}
use Rattle.charge_model.specs.declared.charge.Charge.{Charge}
use Rattle.charge_model.specs.declared.charge.Charge.TheVariants.{Neg, Neutral, Pos}
use Rattle.charge_model.specs.declared.charge.Test.{Test}
use Rattle.charge_model.specs.declared.charge.Test.TheVariants.{AboveMinus, AbovePlus, BelowMinus, BelowPlus}
use Rattle.charge_model.specs.Charges.{charge_at}
use Rattle.charge_model.specs.Problem.{Problem, Table, IsTable, UnderSomeTable, UnderEveryTable, IsLeast, IsGreatest}
use Rattle.charge_model.specs.Rules.{potential_at, test_slack, hop_slack, IsTestOf, at_site, by_hop}
use Rattle.charge_model.proofs.Products.{unscaled}
use Rattle.charge_model.proofs.Sums.{mul-le, mul-add}
use Rattle.leaf_rules.specs.Demands.{Holds, TestsHold, AllHold}
use Rattle.leaf_rules.specs.declared.demand.Demand.{Demand}
use Rattle.leaf_rules.specs.declared.demand.Demand.TheVariants.{Possible, Certain}
use Rattle.level_range_laws.specs.declared.interval.Interval.{Interval}
use Rattle.level_range_laws.specs.Levels.{at_level, gap_of}
use Rattle.level_range_laws.proofs.LevelFacts.{table_at, table_of, slack_above_minus, slack_above_plus, slack_below_minus, slack_below_plus, hop_slack_at}
use Rattle.level_candidates.specs.Ends.{IsNarrowed, Allows, FirstTestsHold, AllHopsHold}

-- some table puts a quantity at least at a level exactly where its greatest is
some_above : (p : Problem) (v : Table → ℤ) (level hi : ℤ) → IsGreatest p v hi → UnderSomeTable p (λ t. pos 0 ≤ℤ (v t -ℤ pos t.scale *ℤ level)) ↔ (level ≤ℤ hi)
some_above p v level hi g = (
  λ h. let bound = g.bounds h.0 h.1 in let slack = h.2 in unscaled h.0.scale level hi h.1.positive (omega (arith, ints, slack, bound)),
  λ h. (g.reached.0, g.reached.1, at g.reached.0.scale (v g.reached.0) g.reached.2.0 g.reached.2.1 h),
)
  where
    at : (s : ℕ) (x : ℤ) → s ≡ 1 → x ≡ hi → level ≤ℤ hi → pos 0 ≤ℤ (x -ℤ pos s *ℤ level)
    at s x one is h = rw one (omega (arith, ints, is, h))

some_below : (p : Problem) (v : Table → ℤ) (level lo : ℤ) → IsLeast p v lo → UnderSomeTable p (λ t. pos 0 ≤ℤ (pos t.scale *ℤ level -ℤ v t)) ↔ (lo ≤ℤ level)
some_below p v level lo g = (
  λ h. let bound = g.bounds h.0 h.1 in let slack = h.2 in unscaled h.0.scale lo level h.1.positive (omega (arith, ints, slack, bound)),
  λ h. (g.reached.0, g.reached.1, at g.reached.0.scale (v g.reached.0) g.reached.2.0 g.reached.2.1 h),
)
  where
    at : (s : ℕ) (x : ℤ) → s ≡ 1 → x ≡ lo → lo ≤ℤ level → pos 0 ≤ℤ (pos s *ℤ level -ℤ x)
    at s x one is h = rw one (omega (arith, ints, is, h))

-- every table does exactly where its least is
every_above : (p : Problem) (v : Table → ℤ) (level lo : ℤ) → IsLeast p v lo → UnderEveryTable p (λ t. pos 0 ≤ℤ (v t -ℤ pos t.scale *ℤ level)) ↔ (level ≤ℤ lo)
every_above p v level lo g = (
  λ h. at g.reached.0.scale (v g.reached.0) g.reached.2.0 g.reached.2.1 (h g.reached.0 g.reached.1),
  λ h t is. let bound = g.bounds t is in let more = mul-le level lo t.scale h in omega (arith, ints, bound, more),
)
  where
    at : (s : ℕ) (x : ℤ) → s ≡ 1 → x ≡ lo → pos 0 ≤ℤ (x -ℤ pos s *ℤ level) → level ≤ℤ lo
    at s x one is h = let slack : pos 0 ≤ℤ (x -ℤ pos 1 *ℤ level) = subst (λ s. pos 0 ≤ℤ (x -ℤ pos s *ℤ level)) one h in omega (arith, ints, is, slack)

every_below : (p : Problem) (v : Table → ℤ) (level hi : ℤ) → IsGreatest p v hi → UnderEveryTable p (λ t. pos 0 ≤ℤ (pos t.scale *ℤ level -ℤ v t)) ↔ (hi ≤ℤ level)
every_below p v level hi g = (
  λ h. at g.reached.0.scale (v g.reached.0) g.reached.2.0 g.reached.2.1 (h g.reached.0 g.reached.1),
  λ h t is. let bound = g.bounds t is in let more = mul-le hi level t.scale h in omega (arith, ints, bound, more),
)
  where
    at : (s : ℕ) (x : ℤ) → s ≡ 1 → x ≡ hi → pos 0 ≤ℤ (pos s *ℤ level -ℤ x) → hi ≤ℤ level
    at s x one is h = let slack : pos 0 ≤ℤ (pos 1 *ℤ level -ℤ x) = subst (λ s. pos 0 ≤ℤ (pos s *ℤ level -ℤ x)) one h in omega (arith, ints, is, slack)

-- what holds of two quantities that are the same, at a level and at the problem's own
some_too : (p : Problem) (m : ℤ) (x y : Table → ℤ) → ((t : Table) → x t ≡ y t) → UnderSomeTable (at_level p m) (λ t. pos 0 ≤ℤ x t) ↔ UnderSomeTable p (λ t. pos 0 ≤ℤ y t)
some_too p m x y same = (
  λ h. (h.0, table_of p m h.0 h.1, subst (λ z. pos 0 ≤ℤ z) (same h.0) h.2),
  λ h. (h.0, table_at p m h.0 h.1, subst (λ z. pos 0 ≤ℤ z) (sym (same h.0)) h.2),
)

every_too : (p : Problem) (m : ℤ) (x y : Table → ℤ) → ((t : Table) → x t ≡ y t) → UnderEveryTable (at_level p m) (λ t. pos 0 ≤ℤ x t) ↔ UnderEveryTable p (λ t. pos 0 ≤ℤ y t)
every_too p m x y same = (
  λ h t is. subst (λ z. pos 0 ≤ℤ z) (same t) (h t (table_at p m t is)),
  λ h t is. subst (λ z. pos 0 ≤ℤ z) (sym (same t)) (h t (table_of p m t is)),
)

both : (A B C : Type 0) → (A ↔ B) → (B ↔ C) → A ↔ C
both A B C f g = (λ a. g.0 (f.0 a), λ c. f.1 (g.1 c))

-- the end of a potential that decides whether it is above a level as asked, and below one
abbrev pub end_above : Demand → ℤ → ℤ → ℤ
end_above Possible lo hi = hi
end_above Certain lo hi = lo

abbrev pub end_below : Demand → ℤ → ℤ → ℤ
end_below Possible lo hi = lo
end_below Certain lo hi = hi

-- one test at a level holds as asked exactly where the level is at most, or at least, an end
holds_above_minus : (p : Problem) (c : List Charge) (i : ℕ) (m lo hi : ℤ) (d : Demand) → IsLeast p (λ t. potential_at p t c i) lo → IsGreatest p (λ t. potential_at p t c i) hi
    → Holds d (at_level p m) (test_slack (at_level p m) c i AboveMinus) ↔ (m ≤ℤ end_above d lo hi)
holds_above_minus p c i m lo hi Possible l g = both _ _ _ (some_too p m (test_slack (at_level p m) c i AboveMinus) (λ t. potential_at p t c i -ℤ pos t.scale *ℤ m) (slack_above_minus p m c i)) (some_above p (λ t. potential_at p t c i) m hi g)
holds_above_minus p c i m lo hi Certain l g = both _ _ _ (every_too p m (test_slack (at_level p m) c i AboveMinus) (λ t. potential_at p t c i -ℤ pos t.scale *ℤ m) (slack_above_minus p m c i)) (every_above p (λ t. potential_at p t c i) m lo l)

holds_above_plus : (p : Problem) (c : List Charge) (i : ℕ) (m lo hi : ℤ) (d : Demand) → IsLeast p (λ t. potential_at p t c i) lo → IsGreatest p (λ t. potential_at p t c i) hi
    → Holds d (at_level p m) (test_slack (at_level p m) c i AbovePlus) ↔ ((m -ℤ gap_of p) ≤ℤ end_above d lo hi)
holds_above_plus p c i m lo hi Possible l g = both _ _ _ (some_too p m (test_slack (at_level p m) c i AbovePlus) (λ t. potential_at p t c i -ℤ pos t.scale *ℤ (m -ℤ gap_of p)) (slack_above_plus p m c i)) (some_above p (λ t. potential_at p t c i) (m -ℤ gap_of p) hi g)
holds_above_plus p c i m lo hi Certain l g = both _ _ _ (every_too p m (test_slack (at_level p m) c i AbovePlus) (λ t. potential_at p t c i -ℤ pos t.scale *ℤ (m -ℤ gap_of p)) (slack_above_plus p m c i)) (every_above p (λ t. potential_at p t c i) (m -ℤ gap_of p) lo l)

holds_below_minus : (p : Problem) (c : List Charge) (i : ℕ) (m lo hi : ℤ) (d : Demand) → IsLeast p (λ t. potential_at p t c i) lo → IsGreatest p (λ t. potential_at p t c i) hi
    → Holds d (at_level p m) (test_slack (at_level p m) c i BelowMinus) ↔ (end_below d lo hi ≤ℤ m)
holds_below_minus p c i m lo hi Possible l g = both _ _ _ (some_too p m (test_slack (at_level p m) c i BelowMinus) (λ t. pos t.scale *ℤ m -ℤ potential_at p t c i) (slack_below_minus p m c i)) (some_below p (λ t. potential_at p t c i) m lo l)
holds_below_minus p c i m lo hi Certain l g = both _ _ _ (every_too p m (test_slack (at_level p m) c i BelowMinus) (λ t. pos t.scale *ℤ m -ℤ potential_at p t c i) (slack_below_minus p m c i)) (every_below p (λ t. potential_at p t c i) m hi g)

holds_below_plus : (p : Problem) (c : List Charge) (i : ℕ) (m lo hi : ℤ) (d : Demand) → IsLeast p (λ t. potential_at p t c i) lo → IsGreatest p (λ t. potential_at p t c i) hi
    → Holds d (at_level p m) (test_slack (at_level p m) c i BelowPlus) ↔ (end_below d lo hi ≤ℤ (m -ℤ gap_of p))
holds_below_plus p c i m lo hi Possible l g = both _ _ _ (some_too p m (test_slack (at_level p m) c i BelowPlus) (λ t. pos t.scale *ℤ (m -ℤ gap_of p) -ℤ potential_at p t c i) (slack_below_plus p m c i)) (some_below p (λ t. potential_at p t c i) (m -ℤ gap_of p) lo l)
holds_below_plus p c i m lo hi Certain l g = both _ _ _ (every_too p m (test_slack (at_level p m) c i BelowPlus) (λ t. pos t.scale *ℤ (m -ℤ gap_of p) -ℤ potential_at p t c i) (slack_below_plus p m c i)) (every_below p (λ t. potential_at p t c i) (m -ℤ gap_of p) hi g)

-- the tests of a site hold as asked exactly at the levels that its charge allows
pub tests_allow : (p : Problem) (c : List Charge) (i : ℕ) (m lo hi : ℤ) (d : Demand) (a : Charge) → charge_at c i ≡ a → IsLeast p (λ t. potential_at p t c i) lo → IsGreatest p (λ t. potential_at p t c i) hi
    → TestsHold d (at_level p m) c i ↔ Allows a (gap_of p) (end_above d lo hi) (end_below d lo hi) m
tests_allow p c i m lo hi d Neg e l g = (
  λ h. (holds_above_minus p c i m lo hi d l g).0 (h AboveMinus (rw e refl)),
  λ h k of. subst (λ k. Holds d (at_level p m) (test_slack (at_level p m) c i k)) (sym (subst (λ a. IsTestOf a k) e of)) ((holds_above_minus p c i m lo hi d l g).1 h),
)
tests_allow p c i m lo hi d Neutral e l g = (
  λ h. let first = (holds_above_plus p c i m lo hi d l g).0 (h AbovePlus (rw e (inl refl))) in
      let second = (holds_below_minus p c i m lo hi d l g).0 (h BelowMinus (rw e (inr refl))) in
      (omega (arith, ints, first), second),
  λ h k of. by k h (subst (λ a. IsTestOf a k) e of),
)
  where
    by : (k : Test) → Allows Neutral (gap_of p) (end_above d lo hi) (end_below d lo hi) m → (k ≡ AbovePlus) ⊎ (k ≡ BelowMinus) → Holds d (at_level p m) (test_slack (at_level p m) c i k)
    by k h (inl is) = let first = h.0 in subst (λ k. Holds d (at_level p m) (test_slack (at_level p m) c i k)) (sym is) ((holds_above_plus p c i m lo hi d l g).1 (omega (arith, ints, first)))
    by k h (inr is) = subst (λ k. Holds d (at_level p m) (test_slack (at_level p m) c i k)) (sym is) ((holds_below_minus p c i m lo hi d l g).1 h.1)
tests_allow p c i m lo hi d Pos e l g = (
  λ h. let first = (holds_below_plus p c i m lo hi d l g).0 (h BelowPlus (rw e refl)) in omega (arith, ints, first),
  λ h k of. subst (λ k. Holds d (at_level p m) (test_slack (at_level p m) c i k)) (sym (subst (λ a. IsTestOf a k) e of)) ((holds_below_plus p c i m lo hi d l g).1 (omega (arith, ints, h))),
)

-- a level at which the first n sites and the next one keep their tests
pub one_more_site : (d : Demand) (p : Problem) (levels : Interval) (c : List Charge) (n : ℕ) (old new : Interval) (P : ℤ → Type 0)
    → ((m : ℤ) → TestsHold d (at_level p m) c n ↔ P m) → IsNarrowed levels (FirstTestsHold d p c n) old → IsNarrowed old P new → IsNarrowed levels (FirstTestsHold d p c (n + 1)) new
one_more_site d p levels c n old new P tests first next m = (
  λ h. let here = (next m).0 h in let before = (first m).0 here.0 in
      (before.0, λ k l. by k l before.1 ((tests m).1 here.1) (cases_lt k n)),
  λ h. (next m).1 ((first m).1 (h.0, λ k l. h.1 k (omega (arith, l))), (tests m).0 (h.1 n (omega arith))),
)
  where
    by : (k : ℕ) → k < n + 1 → FirstTestsHold d p c n m → TestsHold d (at_level p m) c n → (k < n) ⊎ (n ≤ k) → TestsHold d (at_level p m) c k
    by k l before here (inl less) = before k less
    by k l before here (inr more) = let e : n ≡ k = omega (arith, l, more) in subst (λ k. TestsHold d (at_level p m) c k) e here

-- all inequalities hold as asked at a level where the tests there and the hops do
hop_holds : (d : Demand) (p : Problem) (m : ℤ) (c : List Charge) (i j : ℕ) → Holds d (at_level p m) (hop_slack (at_level p m) c i j) ↔ Holds d p (hop_slack p c i j)
hop_holds Possible p m c i j = some_too p m (hop_slack (at_level p m) c i j) (hop_slack p c i j) (hop_slack_at p m c i j)
hop_holds Certain p m c i j = every_too p m (hop_slack (at_level p m) c i j) (hop_slack p c i j) (hop_slack_at p m c i j)

pub all_hold : (d : Demand) (p : Problem) (m : ℤ) (c : List Charge) → AllHold d (at_level p m) c ↔ (FirstTestsHold d p c p.sites m × AllHopsHold d p c)
all_hold d p m c = (
  λ h. (λ k l t of. h (at_site k t) (l, of), λ i l j k rank. (hop_holds d p m c i j).0 (h (by_hop i j) (l, k, rank))),
  λ h. each h,
)
  where
    each : FirstTestsHold d p c p.sites m × AllHopsHold d p c → AllHold d (at_level p m) c
    each h (at_site i k) of = h.0 i of.0 k of.1
    each h (by_hop i j) of = (hop_holds d p m c i j).1 (h.1 i of.0 j of.1 of.2)

-- the levels at which the tests hold, and the hops do, are those at which all do
pub with_both : (d : Demand) (p : Problem) (levels tested whole : Interval) (c : List Charge) (V : ℤ → Type 0) → ((m : ℤ) → AllHold d (at_level p m) c ↔ V m)
    → IsNarrowed levels (FirstTestsHold d p c p.sites) tested → IsNarrowed tested (λ m. AllHopsHold d p c) whole → IsNarrowed levels V whole
with_both d p levels tested whole c V valid first hops m = (
  λ h. let here = (hops m).0 h in let before = (first m).0 here.0 in (before.0, (valid m).0 ((all_hold d p m c).1 (before.1, here.1))),
  λ h. let all = (all_hold d p m c).0 ((valid m).1 h.1) in (hops m).1 ((first m).1 (h.0, all.0), all.1),
)

-- a quantity at most another under every table has a least difference of at least 0
pub gap_of_not_above : (p : Problem) (a b : Table → ℤ) (n : ℤ) → IsLeast p (λ t. b t -ℤ a t) n → UnderEveryTable p (λ t. a t ≤ℤ b t) → pos 0 ≤ℤ n
gap_of_not_above p a b n l h =
    let order = h l.reached.0 l.reached.1 in
    let value = l.reached.2.1 in
    omega (arith, ints, order, value)

-- the same levels are allowed by the same ends
pub allowed_at : (old new : Interval) (a : Charge) (gap gap' above above' below below' : ℤ) → gap ≡ gap' → above ≡ above' → below ≡ below'
    → IsNarrowed old (Allows a gap above below) new → IsNarrowed old (Allows a gap' above' below') new
allowed_at old new a gap gap' above above' below below' e f g h =
    subst (λ z. IsNarrowed old (Allows a z above' below') new) e (subst (λ z. IsNarrowed old (Allows a gap z below') new) f (subst (λ z. IsNarrowed old (Allows a gap above z) new) g h))

-- a quantity is below another under every table where its greatest is below the other's least
pub below_of_ends : (p : Problem) (a b : Table → ℤ) (m n : ℤ) → IsGreatest p a m → IsLeast p b n → m <ℤ n → UnderEveryTable p (λ t. a t <ℤ b t)
below_of_ends p a b m n g l order t is =
    let upper = g.bounds t is in
    let lower = l.bounds t is in
    let more = mul-le (m +ℤ pos 1) n t.scale (omega (arith, ints, order)) in
    let spread = mul-add (pos t.scale) m (pos 1) in
    let positive = is.positive in
    omega (arith, ints, upper, lower, more, spread, positive)

-- a quantity at most another under every table has no greater least
pub not_above_least : (p : Problem) (a b : Table → ℤ) (m n : ℤ) → IsLeast p a m → IsLeast p b n → n <ℤ m → UnderEveryTable p (λ t. a t ≤ℤ b t) → ⊥
not_above_least p a b m n l k order h = at l.bounds k.reached.0 k.reached.1 k.reached.2.0 k.reached.2.1
  where
    at : UnderEveryTable p (λ t. (pos t.scale *ℤ m) ≤ℤ a t) → (t : Table) → IsTable p t → t.scale ≡ 1 → b t ≡ n → ⊥
    at bounds t is one value =
        let low : (pos 1 *ℤ m) ≤ℤ a t = subst (λ s. (pos s *ℤ m) ≤ℤ a t) one (bounds t is) in
        let high = h t is in
        omega (arith, ints, low, high, value, order)
