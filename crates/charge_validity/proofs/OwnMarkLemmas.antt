-- the first inequality of a list that some table breaks decides it, whatever the entries are
use Rattle.std.proofs.Common.{◌≡◌, ℕ, ◌<◌, List, [], ℤ, pos, ◌≤ℤ◌, ◌<ℤ◌, inl, inr, sym, subst, arith}
use Rattle.std.proofs.lemmas.Int.{ints}
use Rattle.charge_model.specs.declared.charge.Charge.{Charge}
use Rattle.charge_model.specs.declared.charge.Test.{Test}
use Rattle.charge_model.specs.declared.charge.Test.TheVariants.{AbovePlus, BelowMinus}
use Rattle.charge_model.specs.declared.span.Span.{Span}
use Rattle.charge_model.specs.declared.mark.Deciding.{Deciding}
use Rattle.charge_model.specs.declared.mark.Deciding.TheVariants.{Population, Hop, Rival}
use Rattle.charge_model.specs.Charges.{charge_at, rank_of}
use Rattle.charge_model.specs.Problem.{Problem, Table, UnderEveryTable, UnderSomeTable, IsLeast, IsGreatest}
use Rattle.charge_model.specs.Rules.{at_site, by_hop, IsTestOf, test_slack, hop_slack, IsCertainlyValid, IsPossiblyValid}
use Rattle.charge_model.specs.GroundList.{Comparison, own, rival, IsComparisonOf, IsEarlier, comparison_slack}
use Rattle.charge_validity.specs.OwnMarks.{AreTestsPossible, AreTestsCertain, AreHopsPossible, AreHopsCertain, IsOwnDeciding, IsFirstHopTo, AreAllTestsCertain}

-- a test that some table breaks, after tests that hold under every table, with its extremes
pub record BreaksFirst (p : Problem) (c : List Charge) (i : ℕ) (k : Test) (s : Span) : Type 0 where
  pub site : i < p.sites
  pub test : IsTestOf (charge_at c i) k
  pub fails : UnderSomeTable p (λ t. test_slack p c i k t <ℤ pos 0)
  pub sites_before : (j : ℕ) → j < i → AreTestsCertain p c j
  pub test_before : (a : Test) → IsTestOf (charge_at c i) a → (a ≡ AbovePlus) × (k ≡ BelowMinus)
      → UnderEveryTable p (λ t. pos 0 ≤ℤ test_slack p c i a t)
  pub least : IsLeast p (test_slack p c i k) s.lo
  pub greatest : IsGreatest p (test_slack p c i k) s.hi

pub test_decides : (p : Problem) (c : List Charge) (i : ℕ) (k : Test) (s : Span) → BreaksFirst p c i k s → IsOwnDeciding p c (Population i k s)
test_decides p c i k s b l = record {
  of_list = (b.site, b.test);
  fails = b.fails;
  first = before;
  least_slack = b.least;
  greatest_slack = b.greatest;
}
  where
    before : (e : Comparison) → IsComparisonOf p l c e → IsEarlier e (own (at_site i k)) → UnderEveryTable p (λ t. pos 0 ≤ℤ comparison_slack p l c e t)
    before (own (at_site j a)) of (inl h) = b.sites_before j h a of.1
    before (own (at_site j a)) of (inr (same, above, below)) =
        let test : IsTestOf (charge_at c i) a = subst (λ m. IsTestOf (charge_at c m) a) same of.1 in
        subst (λ m. UnderEveryTable p (λ t. pos 0 ≤ℤ test_slack p c m a t)) (sym same) (b.test_before a test (above, below))
    before (own (by_hop j m)) of h = absurd h
    before (rival j) of h = absurd h

-- a hop that some table breaks, after tests and hops that hold under every table
pub record HopBreaksFirst (p : Problem) (c : List Charge) (i j : ℕ) (s : Span) : Type 0 where
  pub to : i < p.sites
  pub from : j < p.sites
  pub hop : rank_of (charge_at c i) < rank_of (charge_at c j)
  pub fails : UnderSomeTable p (λ t. hop_slack p c i j t <ℤ pos 0)
  pub tests : (m : ℕ) → m < p.sites → AreTestsCertain p c m
  pub sites_before : (m : ℕ) → m < i → AreHopsCertain p c m
  pub hops_before : (m : ℕ) → m < j → rank_of (charge_at c i) < rank_of (charge_at c m)
      → UnderEveryTable p (λ t. pos 0 ≤ℤ hop_slack p c i m t)
  pub least : IsLeast p (hop_slack p c i j) s.lo
  pub greatest : IsGreatest p (hop_slack p c i j) s.hi

pub hop_decides : (p : Problem) (c : List Charge) (i j : ℕ) (s : Span) → HopBreaksFirst p c i j s → IsOwnDeciding p c (Hop i j s)
hop_decides p c i j s b l = record {
  of_list = (b.to, b.from, b.hop);
  fails = b.fails;
  first = before;
  least_slack = b.least;
  greatest_slack = b.greatest;
}
  where
    before : (e : Comparison) → IsComparisonOf p l c e → IsEarlier e (own (by_hop i j)) → UnderEveryTable p (λ t. pos 0 ≤ℤ comparison_slack p l c e t)
    before (own (at_site m a)) of h = b.tests m of.0 a of.1
    before (own (by_hop k m)) of (inl h) = b.sites_before k h m of.1 of.2
    before (own (by_hop k m)) of (inr (same, h)) =
        let hop : rank_of (charge_at c i) < rank_of (charge_at c m) = subst (λ n. rank_of (charge_at c n) < rank_of (charge_at c m)) same of.2 in
        subst (λ n. UnderEveryTable p (λ t. pos 0 ≤ℤ hop_slack p c n m t)) (sym same) (b.hops_before m h hop)
    before (rival k) of h = absurd h

-- what decides a list by its own inequalities shows that it is not certainly valid
pub own_not_certain : (p : Problem) (c : List Charge) (d : Deciding) → IsOwnDeciding p c d → IsCertainlyValid p c → ⊥
own_not_certain p c (Population i k s) d valid =
    let it = d [] in
    let held = valid (at_site i k) it.of_list it.fails.0 it.fails.1 in
    let broken = it.fails.2 in
    omega (arith, ints, held, broken)
own_not_certain p c (Hop i j s) d valid =
    let it = d [] in
    let held = valid (by_hop i j) it.of_list it.fails.0 it.fails.1 in
    let broken = it.fails.2 in
    omega (arith, ints, held, broken)
own_not_certain p c (Rival j s) d valid = let it = d [] in absurd (omega (arith, it.of_list))

-- the tests and hops of all sites are all inequalities
pub certain_from_sites : (p : Problem) (c : List Charge) → ((i : ℕ) → i < p.sites → AreTestsCertain p c i) → ((i : ℕ) → i < p.sites → AreHopsCertain p c i) → IsCertainlyValid p c
certain_from_sites p c tests hops (at_site i k) of = tests i of.0 k of.1
certain_from_sites p c tests hops (by_hop i j) of = hops i of.0 j of.1 of.2

pub possible_from_sites : (p : Problem) (c : List Charge) → ((i : ℕ) → i < p.sites → AreTestsPossible p c i) → ((i : ℕ) → i < p.sites → AreHopsPossible p c i) → IsPossiblyValid p c
possible_from_sites p c tests hops (at_site i k) of = tests i of.0 k of.1
possible_from_sites p c tests hops (by_hop i j) of = hops i of.0 j of.1 of.2

-- what holds under every table holds under some, since there is a table
pub some_of_every : (p : Problem) (q : Table → ℤ) → UnderSomeTable p (λ t. t.scale ≡ 1) → UnderEveryTable p (λ t. pos 0 ≤ℤ q t) → UnderSomeTable p (λ t. pos 0 ≤ℤ q t)
some_of_every p q (t, is, one) every = (t, is, every t is)

-- the first hop to a site, after sites to which each hop holds, decides the list
pub first_hop_decides : (p : Problem) (c : List Charge) (i : ℕ) (d : Deciding) → i < p.sites → AreAllTestsCertain p c
    → ((k : ℕ) → k < i → AreHopsCertain p c k) → IsFirstHopTo p c i d → IsOwnDeciding p c d
first_hop_decides p c i (Population j k s) lt tests sites first = absurd first
first_hop_decides p c i (Rival j s) lt tests sites first = absurd first
first_hop_decides p c i (Hop m j s) lt tests sites first =
    subst (λ n. IsOwnDeciding p c (Hop n j s)) (sym first.0) (hop_decides p c i j s (record {
      to = lt;
      from = first.1;
      hop = first.2.hop;
      fails = first.2.fails;
      tests = tests;
      sites_before = sites;
      hops_before = λ n below. first.3 n below;
      least = first.2.least;
      greatest = first.2.greatest;
    }))

-- a list that is possibly valid has possible tests and hops at each site
pub tests_of_possible : (p : Problem) (c : List Charge) (i : ℕ) → i < p.sites → IsPossiblyValid p c → AreTestsPossible p c i
tests_of_possible p c i lt valid k is = valid (at_site i k) (lt, is)

pub hops_of_possible : (p : Problem) (c : List Charge) (i : ℕ) → i < p.sites → IsPossiblyValid p c → AreHopsPossible p c i
hops_of_possible p c i lt valid j below hop = valid (by_hop i j) (lt, below, hop)

-- what fails under every table holds under none
pub never_possible : (p : Problem) (q : Table → ℤ) → UnderEveryTable p (λ t. q t <ℤ pos 0) → UnderSomeTable p (λ t. pos 0 ≤ℤ q t) → ⊥
never_possible p q never (t, is, held) = let broken = never t is in omega (arith, ints, held, broken)
