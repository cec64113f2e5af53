-- what is decided of charge lists at a level, by the extremes of the problem's own slacks
use Rattle.std.proofs.Common.{◌≡◌, List, length, ℤ, pos, ◌+ℤ◌, ◌-ℤ◌, ◌*ℤ◌, ◌≤ℤ◌, ◌<ℤ◌, ap, arith, inl, inr}
use Rattle.std.proofs.lemmas.Int.{ints}
use Rattle.std.proofs.lemmas.Bool.{cases_eq}
use Rattle.charge_model.specs.declared.charge.Charge.{Charge}
use Rattle.charge_model.specs.declared.charge.Test.TheVariants.{AboveMinus, AbovePlus, BelowMinus, BelowPlus}
use Rattle.charge_model.specs.Charges.{IsOfBase}
use Rattle.charge_model.specs.Problem.{Problem, Table, IsProblem, UnderEveryTable, UnderSomeTable, IsLeast, IsGreatest, class_of, near_class_of}
use Rattle.charge_model.specs.Rules.{energy, slack, Inequality, at_site, by_hop, IsInequalityOf, IsChargeList, IsPossiblyValid, IsCertainlyValid, Beats}
use Rattle.charge_model.specs.GroundList.{IsCandidate}
use Rattle.charge_model.proofs.Sums.{mul-add}
use Rattle.window_laws.proofs.Windows.{raised_least, raised_greatest}
use Rattle.certain_energy_laws.proofs.Extremes.{least_slack, greatest_slack, least_difference, greatest_difference}
use Rattle.certain_energy_laws.proofs.Decisions.{Decided, both_decided, each_decided, kept_decided, less_decided, reached_decided}
use Rattle.certain_energy_laws.proofs.Lists.{of_base_decided}
use Rattle.marked_list_laws.proofs.LawsBelow.{AreLaws}
use Rattle.level_range_laws.specs.Levels.{at_level}
use Rattle.level_range_laws.proofs.LevelFacts.{table_at, table_of, slack_above_minus, slack_above_plus, slack_below_minus, slack_below_plus, hop_slack_at}

-- how much greater the slack of an inequality is at a level, at scale 1
abbrev shift_of : Problem → ℤ → Inequality → ℤ
shift_of p m (at_site i AboveMinus) = p.mu_minus -ℤ m
shift_of p m (at_site i AbovePlus) = p.mu_minus -ℤ m
shift_of p m (at_site i BelowMinus) = m -ℤ p.mu_minus
shift_of p m (at_site i BelowPlus) = m -ℤ p.mu_minus
shift_of p m (by_hop i j) = pos 0

-- a multiple of a difference
spread : (s a b : ℤ) → s *ℤ (a -ℤ b) ≡ s *ℤ a -ℤ s *ℤ b
spread s a b =
    let sum = mul-add s b (a -ℤ b) in
    let whole = ap (λ x. s *ℤ x) back in omega (arith, ints, sum, whole)
  where
    back : b +ℤ (a -ℤ b) ≡ a
    back = omega (arith, ints)

-- a level's mu_plus, as the problem's own less a shift, and more one
plus_less : (s m minus plus : ℤ) → s *ℤ (m -ℤ (minus -ℤ plus)) ≡ s *ℤ plus -ℤ s *ℤ (minus -ℤ m)
plus_less s m minus plus =
    let same = ap (λ x. s *ℤ x) turned in
    let sum = spread s plus (minus -ℤ m) in omega (arith, ints, same, sum)
  where
    turned : m -ℤ (minus -ℤ plus) ≡ plus -ℤ (minus -ℤ m)
    turned = omega (arith, ints)

plus_more : (s m minus plus : ℤ) → s *ℤ (m -ℤ (minus -ℤ plus)) ≡ s *ℤ plus +ℤ s *ℤ (m -ℤ minus)
plus_more s m minus plus =
    let same = ap (λ x. s *ℤ x) turned in
    let sum = mul-add s plus (m -ℤ minus) in omega (arith, ints, same, sum)
  where
    turned : m -ℤ (minus -ℤ plus) ≡ plus +ℤ (m -ℤ minus)
    turned = omega (arith, ints)

slack_at : (p : Problem) (m : ℤ) (c : List Charge) (q : Inequality) (t : Table) → slack (at_level p m) c q t ≡ slack p c q t +ℤ pos t.scale *ℤ shift_of p m q
slack_at p m c (at_site i AboveMinus) t =
    let here = slack_above_minus p m c i t in
    let sum = spread (pos t.scale) p.mu_minus m in omega (arith, ints, here, sum)
slack_at p m c (at_site i AbovePlus) t =
    let here = slack_above_plus p m c i t in
    let sum = plus_less (pos t.scale) m p.mu_minus p.mu_plus in omega (arith, ints, here, sum)
slack_at p m c (at_site i BelowMinus) t =
    let here = slack_below_minus p m c i t in
    let sum = spread (pos t.scale) m p.mu_minus in omega (arith, ints, here, sum)
slack_at p m c (at_site i BelowPlus) t =
    let here = slack_below_plus p m c i t in
    let sum = plus_more (pos t.scale) m p.mu_minus p.mu_plus in omega (arith, ints, here, sum)
slack_at p m c (by_hop i j) t = let here = hop_slack_at p m c i j t in omega (arith, ints, here)

-- extremes over the tables of a problem are those over the tables at a level
least_there : (p : Problem) (m : ℤ) (f : Table → ℤ) (n : ℤ) → IsLeast p f n → IsLeast (at_level p m) f n
least_there p m f n h = record {
  bounds = λ t is. h.bounds t (table_of p m t is);
  reached = let at = h.reached in (at.0, table_at p m at.0 at.1, at.2);
}

greatest_there : (p : Problem) (m : ℤ) (f : Table → ℤ) (n : ℤ) → IsGreatest p f n → IsGreatest (at_level p m) f n
greatest_there p m f n h = record {
  bounds = λ t is. h.bounds t (table_of p m t is);
  reached = let at = h.reached in (at.0, table_at p m at.0 at.1, at.2);
}

-- an inequality at a level is one of the problem
own_inequality : (p : Problem) (m : ℤ) (c : List Charge) (q : Inequality) → IsInequalityOf (at_level p m) c q → IsInequalityOf p c q
own_inequality p m c (at_site i k) h = h
own_inequality p m c (by_hop i j) h = h

least_slack_at : (p : Problem) (m : ℤ) (c : List Charge) (q : Inequality) → IsProblem p → IsInequalityOf (at_level p m) c q
    → (least : ℤ) × IsLeast (at_level p m) (slack (at_level p m) c q) least
least_slack_at p m c q is of_list =
    let own = least_slack p c q is (own_inequality p m c q of_list) in
    let there = raised_least p (slack p c q) (slack (at_level p m) c q) (shift_of p m q) own.0 (slack_at p m c q) own.1 in
    (own.0 +ℤ shift_of p m q, least_there p m (slack (at_level p m) c q) (own.0 +ℤ shift_of p m q) there)

greatest_slack_at : (p : Problem) (m : ℤ) (c : List Charge) (q : Inequality) → IsProblem p → IsInequalityOf (at_level p m) c q
    → (greatest : ℤ) × IsGreatest (at_level p m) (slack (at_level p m) c q) greatest
greatest_slack_at p m c q is of_list =
    let own = greatest_slack p c q is (own_inequality p m c q of_list) in
    let there = raised_greatest p (slack p c q) (slack (at_level p m) c q) (shift_of p m q) own.0 (slack_at p m c q) own.1 in
    (own.0 +ℤ shift_of p m q, greatest_there p m (slack (at_level p m) c q) (own.0 +ℤ shift_of p m q) there)

-- differences of energies do not depend on the level
least_difference_at : (p : Problem) (m : ℤ) (w c : List Charge) → IsProblem p → (least : ℤ) × IsLeast (at_level p m) (λ t. energy (at_level p m) t w -ℤ energy (at_level p m) t c) least
unfolding energy class_of near_class_of
least_difference_at p m w c is =
    let own = least_difference p w c is in
    (own.0, least_there p m (λ t. energy p t w -ℤ energy p t c) own.0 own.1)

greatest_difference_at : (p : Problem) (m : ℤ) (w c : List Charge) → IsProblem p → (greatest : ℤ) × IsGreatest (at_level p m) (λ t. energy (at_level p m) t w -ℤ energy (at_level p m) t c) greatest
unfolding energy class_of near_class_of
greatest_difference_at p m w c is =
    let own = greatest_difference p w c is in
    (own.0, greatest_there p m (λ t. energy p t w -ℤ energy p t c) own.0 own.1)

-- where one holds exactly if the other does
pub decided_by : (P Q : Type 0) → (P → Q) → (Q → P) → Decided P → Decided Q
decided_by P Q to back (inl p) = inl (to p)
decided_by P Q to back (inr never) = inr (λ q. never (back q))

-- whether it is a charge list of the problem
list_decided : (p : Problem) (c : List Charge) → Decided (IsChargeList p c)
list_decided p c = decided_by ((length c ≡ p.sites) × IsOfBase p.base c) (IsChargeList p c)
    (λ h. record { whole = h.0; of_base = h.1 }) (λ list. (list.whole, list.of_base))
    (both_decided (length c ≡ p.sites) (IsOfBase p.base c) (cases_eq (length c) p.sites) (of_base_decided p.base c))

-- whether a list is possibly, and certainly, valid at a level
possible_decided : (p : Problem) (m : ℤ) (c : List Charge) → IsProblem p → Decided (IsPossiblyValid (at_level p m) c)
possible_decided p m c is = each_decided (at_level p m) c (λ q. UnderSomeTable (at_level p m) (λ t. pos 0 ≤ℤ slack (at_level p m) c q t))
    (λ q of_list. let greatest = greatest_slack_at p m c q is of_list in reached_decided (at_level p m) (slack (at_level p m) c q) greatest.0 greatest.1)

certain_decided : (p : Problem) (m : ℤ) (c : List Charge) → IsProblem p → Decided (IsCertainlyValid (at_level p m) c)
certain_decided p m c is = each_decided (at_level p m) c (λ q. UnderEveryTable (at_level p m) (λ t. pos 0 ≤ℤ slack (at_level p m) c q t))
    (λ q of_list. let least = least_slack_at p m c q is of_list in kept_decided (at_level p m) (slack (at_level p m) c q) least.0 least.1)

pub candidate_decided : (p : Problem) (m : ℤ) (c : List Charge) → IsProblem p → Decided (IsCandidate (at_level p m) c)
candidate_decided p m c is = decided_by (IsChargeList (at_level p m) c × IsPossiblyValid (at_level p m) c) (IsCandidate (at_level p m) c)
    (λ h. record { is_list = h.0; possible = h.1 }) (λ candidate. (candidate.is_list, candidate.possible))
    (both_decided (IsChargeList (at_level p m) c) (IsPossiblyValid (at_level p m) c) (list_decided (at_level p m) c) (possible_decided p m c is))

-- less energy under every table
abbrev IsLess : Problem → List Charge → List Charge → Type 0
IsLess p w c = UnderEveryTable p (λ t. energy p t w <ℤ energy p t c)

less_at : (p : Problem) (m : ℤ) (w c : List Charge) → IsProblem p → Decided (IsLess (at_level p m) w c)
less_at p m w c is = decided_by (UnderEveryTable (at_level p m) (λ t. (energy (at_level p m) t w -ℤ energy (at_level p m) t c) <ℤ pos 0)) (IsLess (at_level p m) w c)
    (λ h t table. let less = h t table in omega (arith, ints, less)) (λ h t table. let less = h t table in omega (arith, ints, less))
    (let greatest = greatest_difference_at p m w c is in less_decided (at_level p m) (λ t. energy (at_level p m) t w -ℤ energy (at_level p m) t c) greatest.0 greatest.1)

beats_decided : (p : Problem) (m : ℤ) (w c : List Charge) → IsProblem p → Decided (Beats (at_level p m) w c)
beats_decided p m w c is = decided_by (IsChargeList (at_level p m) w × (IsCertainlyValid (at_level p m) w × IsLess (at_level p m) w c)) (Beats (at_level p m) w c)
    (λ h. record { is_list = h.0; certain = h.1.0; lower = h.1.1 }) (λ beats. (beats.is_list, (beats.certain, beats.lower)))
    (both_decided (IsChargeList (at_level p m) w) (IsCertainlyValid (at_level p m) w × IsLess (at_level p m) w c) (list_decided (at_level p m) w)
    (both_decided (IsCertainlyValid (at_level p m) w) (IsLess (at_level p m) w c) (certain_decided p m w is) (less_at p m w c is)))

-- so all that a ground list with its marks needs is there at each level
pub laws_at : (p : Problem) (m : ℤ) → IsProblem p → AreLaws (at_level p m)
laws_at p m is = record {
  least_slack = λ c q of_list. least_slack_at p m c q is of_list;
  greatest_slack = λ c q of_list. greatest_slack_at p m c q is of_list;
  least_difference = λ w c. least_difference_at p m w c is;
  greatest_difference = λ w c. greatest_difference_at p m w c is;
  candidate_decided = λ c. candidate_decided p m c is;
  beats_decided = λ w c. beats_decided p m w c is;
}
