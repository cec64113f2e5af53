-- the candidates that begin with a prefix, from those that begin with it and one charge more
use Rattle.std.proofs.Common.{◌≡◌, ◌≢◌, ℕ, zero, suc, ◌<◌, ◌≤◌, List, [], ◌∷◌, ◌++◌, length, take, true, false, refl, sym, ap, subst, ◌∙◌, arith, length-append, append_assoc, ◌⊎◌, inl, inr}
use Rattle.std.specs.Prelude.{All, Contains}
use Rattle.std.proofs.lemmas.Bool.{false≢true, cases_eq, eq-eqb, ne_eqb}
use Rattle.std.proofs.lemmas.List.{append-nil}
use Rattle.std.proofs.lemmas.List.Elements.{All-append, All-weaker, All-contains, Contains-append_left, Contains-append_right}
use Rattle.charge_model.specs.declared.charge.Charge.{Charge}
use Rattle.charge_model.specs.declared.charge.Charge.TheVariants.{Neg, Neutral, Pos}
use Rattle.charge_model.specs.Charges.{IsBefore, IsOfBase, rank_of}
use Rattle.charge_model.specs.Problem.{Problem}
use Rattle.charge_model.specs.Rules.{IsChargeList}
use Rattle.tree_leaves.proofs.Lists.{pairs_append, before_branch, branch_of_base}
use Rattle.tree_walk.specs.Visiting.{base_charges}
use Rattle.level_range_laws.specs.declared.interval.Interval.{Interval}
use Rattle.level_range_laws.specs.Levels.{IsCandidateIn}
use Rattle.level_range_laws.specs.RangePrefixes.{is_open_in}
use Rattle.level_candidates.specs.Subtree.{IsRangePath, IsRangeLeafUnder, AreRangeLeavesUnder, IsLeafBeyond, AreLeavesBeyond}

three_charges : (base : ℕ) → base ≢ 2 → base_charges base ≡ Neg ∷ (Neutral ∷ (Pos ∷ []))
three_charges base three = rw (ne_eqb base 2 three) refl

path_begins : (p : Problem) (o : Interval) (q rest : List Charge) → IsRangePath p o q rest → is_open_in p o q ≡ true
path_begins p o q [] h = h
path_begins p o q (x ∷ rest) h = h.0

pub leaves_closed : (p : Problem) (o : Interval) (q : List Charge) → is_open_in p o q ≡ false → AreRangeLeavesUnder p o q []
leaves_closed p o q h = record {
  in_order = λ i j d lt w. absurd (omega (arith, w));
  only = λ k d l. absurd (omega (arith, l));
  each = λ c leaf. absurd (false≢true (sym h ∙ path_begins p o q leaf.rest leaf.path));
}

-- a leaf under a full prefix is the prefix
rest_of_full : (p : Problem) (q c rest : List Charge) → length q ≡ p.sites → c ≡ q ++ rest → length c ≡ p.sites → rest ≡ []
rest_of_full p q c [] full begins whole = refl
rest_of_full p q c (x ∷ rest) full begins whole = absurd (omega (arith, length-append q (x ∷ rest), ap length begins))

same_as_full : (p : Problem) (o : Interval) (q c : List Charge) → IsChargeList p q → IsRangeLeafUnder p o q c → c ≡ q
same_as_full p o q c is leaf = leaf.begins ∙ ap (λ r. q ++ r) (rest_of_full p q c leaf.rest is.whole leaf.begins leaf.candidate.is_list.whole) ∙ append-nil q

pub leaves_kept : (p : Problem) (o : Interval) (q : List Charge) → is_open_in p o q ≡ true → IsCandidateIn p o q → AreRangeLeavesUnder p o q (q ∷ [])
leaves_kept p o q h candidate = record {
  in_order = λ i j d lt w. absurd (omega (arith, w));
  only = λ k d l. only k d l;
  each = λ c leaf. (0, (omega arith), sym (same_as_full p o q c candidate.is_list leaf));
}
  where
    only : All (IsRangeLeafUnder p o q) (q ∷ [])
    only zero d l = record { rest = []; begins = sym (append-nil q); path = h; candidate = candidate }
    only (suc k) d l = absurd (omega arith)

pub leaves_dropped : (p : Problem) (o : Interval) (q : List Charge) → IsChargeList p q → (IsCandidateIn p o q → ⊥) → AreRangeLeavesUnder p o q []
leaves_dropped p o q is never = record {
  in_order = λ i j d lt w. absurd (omega (arith, w));
  only = λ k d l. absurd (omega (arith, l));
  each = λ c leaf. absurd (never (subst (IsCandidateIn p o) (same_as_full p o q c is leaf) leaf.candidate));
}

leaf_up : (p : Problem) (o : Interval) (q : List Charge) (x : Charge) → is_open_in p o q ≡ true → (c : List Charge) → IsRangeLeafUnder p o (q ++ x ∷ []) c → IsRangeLeafUnder p o q c
leaf_up p o q x h c leaf = record {
  rest = x ∷ leaf.rest;
  begins = leaf.begins ∙ append_assoc q (x ∷ []) leaf.rest;
  path = (h, leaf.path);
  candidate = leaf.candidate;
}

-- each of these charges is above this one
abbrev pub IsBelow : Charge → List Charge → Type 0
IsBelow x xs = (y : Charge) → Contains xs y → rank_of x < rank_of y

-- charges that rise
abbrev pub AreRising : List Charge → Type 0
AreRising [] = Unit {0}
AreRising (x ∷ xs) = IsBelow x xs × AreRising xs

branch_order : (p : Problem) (o : Interval) (q : List Charge) (a b : Charge) → rank_of a < rank_of b → (c d : List Charge) → IsRangeLeafUnder p o (q ++ a ∷ []) c → IsRangeLeafUnder p o (q ++ b ∷ []) d → IsBefore c d
branch_order p o q a b lt c d one two = subst (λ z. IsBefore z d) (sym one.begins) (subst (IsBefore ((q ++ a ∷ []) ++ one.rest)) (sym two.begins) (before_branch q a b one.rest two.rest lt))

contains_cons : (x y : Charge) (xs : List Charge) → Contains xs y → Contains (x ∷ xs) y
contains_cons x y xs (k, lt, e) = (suc k, omega (arith, lt), e)

pub leaves_none : (p : Problem) (o : Interval) (q : List Charge) → AreLeavesBeyond p o q [] []
leaves_none p o q = record {
  in_order = λ i j d lt w. absurd (omega (arith, w));
  only = λ k d l. absurd (omega (arith, l));
  each = λ c leaf. absurd (omega (arith, leaf.among.1));
}

pub leaves_more : (p : Problem) (o : Interval) (q : List Charge) (x : Charge) (xs : List Charge) (l m : List (List Charge)) → IsBelow x xs
    → AreRangeLeavesUnder p o (q ++ x ∷ []) l → AreLeavesBeyond p o q xs m → AreLeavesBeyond p o q (x ∷ xs) (l ++ m)
leaves_more p o q x xs l m below ls ms = record {
  in_order = pairs_append IsBefore l m ls.in_order ms.in_order across;
  only = All-append (IsLeafBeyond p o q (x ∷ xs)) l m
      (All-weaker (IsRangeLeafUnder p o (q ++ x ∷ [])) (IsLeafBeyond p o q (x ∷ xs)) (λ c leaf. record { next = x; among = (0, omega arith, refl); leaf = leaf }) l ls.only)
      (All-weaker (IsLeafBeyond p o q xs) (IsLeafBeyond p o q (x ∷ xs)) (λ c leaf. record { next = leaf.next; among = contains_cons x leaf.next xs leaf.among; leaf = leaf.leaf }) m ms.only);
  each = λ c leaf. held c leaf.next leaf.among leaf.leaf;
}
  where
    across : (c : List Charge) → Contains l c → All (IsBefore c) m
    across c held =
        let one = All-contains (IsRangeLeafUnder p o (q ++ x ∷ [])) l c ls.only held in
        All-weaker (IsLeafBeyond p o q xs) (IsBefore c) (λ d two. branch_order p o q x two.next (below two.next two.among) c d one two.leaf) m ms.only

    held : (c : List Charge) (y : Charge) → Contains (x ∷ xs) y → IsRangeLeafUnder p o (q ++ y ∷ []) c → Contains (l ++ m) c
    held c y (zero, lt, e) leaf = Contains-append_left l m c (ls.each c (subst (λ y. IsRangeLeafUnder p o (q ++ y ∷ []) c) (sym e) leaf))
    held c y (suc k, lt, e) leaf = Contains-append_right l m c (ms.each c (record { next = y; among = (k, omega (arith, lt), e); leaf = leaf }))

pub rising : (base : ℕ) → AreRising (base_charges base)
rising base = by (cases_eq base 2)
  where
    two_three : (y : Charge) → Contains (Pos ∷ []) y → rank_of Neutral < rank_of y
    two_three y (zero, lt, e) = rw (← e) (omega arith)
    two_three y (suc k, lt, e) = absurd (omega (arith, lt))

    first_two : (y : Charge) → Contains (Neutral ∷ []) y → rank_of Neg < rank_of y
    first_two y (zero, lt, e) = rw (← e) (omega arith)
    first_two y (suc k, lt, e) = absurd (omega (arith, lt))

    first_three : (y : Charge) → Contains (Neutral ∷ (Pos ∷ [])) y → rank_of Neg < rank_of y
    first_three y (zero, lt, e) = rw (← e) (omega arith)
    first_three y (suc zero, lt, e) = rw (← e) (omega arith)
    first_three y (suc (suc k), lt, e) = absurd (omega (arith, lt))

    none : (x y : Charge) → Contains [] y → rank_of x < rank_of y
    none x y (k, lt, e) = absurd (omega (arith, lt))

    by : (base ≡ 2) ⊎ (base ≢ 2) → AreRising (base_charges base)
    by (inl two) = rw (eq-eqb base 2 two) (first_two, (none Neutral, tt))
    by (inr three) = rw (ne_eqb base 2 three) (first_three, (two_three, (none Pos, tt)))

-- the charge by which a leaf under a prefix with room goes on is one of the base
among_base : (base : ℕ) (x : Charge) → (base ≡ 2 → x ≢ Pos) → Contains (base_charges base) x
among_base base Neg allowed = (0, omega arith, refl)
among_base base Neutral allowed = (1, omega arith, refl)
among_base base Pos allowed = by (cases_eq base 2)
  where
    by : (base ≡ 2) ⊎ (base ≢ 2) → Contains (base_charges base) Pos
    by (inl two) = absurd (allowed two refl)
    by (inr three) = subst (λ xs. Contains xs Pos) (sym (three_charges base three)) (2, omega arith, refl)

going_on : (p : Problem) (o : Interval) (q c rest : List Charge) → length q < p.sites → c ≡ q ++ rest → IsRangePath p o q rest → IsCandidateIn p o c → IsLeafBeyond p o q (base_charges p.base) c
going_on p o q c [] room begins path is = absurd (omega (arith, ap length (begins ∙ append-nil q), is.is_list.whole))
going_on p o q c (x ∷ rest) room begins path is = record {
  next = x;
  among = among_base p.base x (branch_of_base p.base q x rest (subst (IsOfBase p.base) begins is.is_list.of_base));
  leaf = record { rest = rest; begins = begins ∙ sym (append_assoc q (x ∷ []) rest); path = path.1; candidate = is };
}

pub leaves_whole : (p : Problem) (o : Interval) (q : List Charge) (l : List (List Charge)) → length q < p.sites → is_open_in p o q ≡ true → AreLeavesBeyond p o q (base_charges p.base) l → AreRangeLeavesUnder p o q l
leaves_whole p o q l room h ls = record {
  in_order = ls.in_order;
  only = All-weaker (IsLeafBeyond p o q (base_charges p.base)) (IsRangeLeafUnder p o q) (λ c leaf. leaf_up p o q leaf.next h c leaf.leaf) l ls.only;
  each = λ c leaf. ls.each c (going_on p o q c leaf.rest room leaf.begins leaf.path leaf.candidate);
}

path_of_opens : (p : Problem) (o : Interval) (q rest : List Charge) → ((d : ℕ) → d ≤ length rest → is_open_in p o (q ++ take d rest) ≡ true) → IsRangePath p o q rest
path_of_opens p o q [] opens = sym (ap (is_open_in p o) (append-nil q)) ∙ opens 0 (omega arith)
path_of_opens p o q (x ∷ rest) opens = (
  sym (ap (is_open_in p o) (append-nil q)) ∙ opens 0 (omega arith),
  path_of_opens p o (q ++ x ∷ []) rest (λ d h. ap (is_open_in p o) (append_assoc q (x ∷ []) (take d rest)) ∙ opens (suc d) (omega arith)),
)

-- a candidate, whose prefixes are all open, is a leaf under the empty prefix
pub leaf_of_candidate : (p : Problem) (o : Interval) (c : List Charge) → ((m : ℕ) → is_open_in p o (take m c) ≡ true) → IsCandidateIn p o c → IsRangeLeafUnder p o [] c
leaf_of_candidate p o c opens candidate = record { rest = c; begins = refl; path = path_of_opens p o [] c (λ d h. opens d); candidate = candidate }
