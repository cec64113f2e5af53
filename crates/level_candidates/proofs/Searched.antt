-- what is found under a prefix, by what is found under those with one charge more
use Rattle.std.proofs.Common.{◌≡◌, ℕ, zero, suc, ◌<◌, ◌≤◌, List, [], ◌∷◌, ◌++◌, length, take, true, false, refl, sym, ap, subst, ◌∙◌, arith, ◌⊎◌, inl, inr, append_assoc}
use Rattle.std.specs.Prelude.{Result, Ok, Err, All, ◌≤ℤ◌, ◌<ℤ◌}
use Rattle.std.proofs.lemmas.Int.{ints, by_lt_z}
use Rattle.std.proofs.lemmas.Bool.{cases_lt}
use Rattle.std.proofs.lemmas.List.{append-nil, map-append, length-map, take_all, take-append-le, length-append, length-take}
use Rattle.std.proofs.lemmas.List.Elements.{All-nil, All-push, All-weaker}
use Rattle.charge_model.specs.declared.charge.Charge.{Charge}
use Rattle.charge_model.specs.Problem.{Problem}
use Rattle.charge_model.specs.Rules.{IsChargeList}
use Rattle.tree_leaves.specs.Subtree.{IsPrefix}
use Rattle.tree_walk.specs.Visiting.{base_charges as charges_of_base, AreDone}
use Rattle.level_range_laws.specs.declared.interval.Interval.{Interval}
use Rattle.level_range_laws.specs.Levels.{IsCandidateIn}
use Rattle.level_range_laws.specs.RangePrefixes.{is_open_in, IsRangePrefix, range_prefix_count}
use Rattle.level_candidates.specs.declared.ends.Ends.{Ends}
use Rattle.level_candidates.specs.declared.candidate.LevelCandidate.{LevelCandidate}
use Rattle.level_candidates.specs.declared.searcher.FoundCandidates.{FoundCandidates}
use Rattle.level_candidates.specs.declared.searcher.Searcher.{Searcher}
use Rattle.level_candidates.specs.declared.searcher.Halt.{Halt}
use Rattle.level_candidates.specs.declared.searcher.Halt.TheVariants.{Over, NoMemory}
use Rattle.level_candidates.specs.Ends.{AreEnds}
use Rattle.level_range_laws.specs.Candidates.{AreAllCandidates}
use Rattle.level_candidates.specs.Candidates.{IsMeasured, lists_of_level_candidates, AreCandidates}
use Rattle.level_candidates.specs.Subtree.{prefixes_under, prefixes_beyond, IsRangeLeafUnder, AreRangeLeavesUnder}
use Rattle.level_candidates.specs.Visits.{kept, AreFound, IsRangeVisited, AreVisited, IsCandidateKept, IsEntered, IsSubtreeSearched}
use Rattle.level_candidates.specs.Answer.{IsSearchedThrough, HasManyCandidates}
use Rattle.level_candidates.proofs.Counts.{count_closed, count_full, count_node, count_root}
use Rattle.level_candidates.proofs.Branches.{leaf_of_candidate, leaves_closed, leaves_kept, leaves_dropped, leaves_none, leaves_more, leaves_whole, AreRising, rising}

take_again : {X : Type 0} (n : ℕ) (xs zs : List X) → take n (xs ++ zs) ≡ take n (take n xs ++ zs)
take_again zero xs zs = refl
take_again (suc n) [] zs = refl
take_again (suc n) (x ∷ xs) zs = ap (λ l. x ∷ l) (take_again n xs zs)

-- the same front of two lists stays one where both go on
front_more : (n : ℕ) (xs ys zs : List (List Charge)) → take n xs ≡ take n ys → take n (xs ++ zs) ≡ take n (ys ++ zs)
front_more n xs ys zs e = take_again n xs zs ∙ ap (λ l. take n (l ++ zs)) e ∙ sym (take_again n ys zs)

pub found_none : (p : Problem) (s : Interval) (f : FoundCandidates) → AreFound p s [] f f
found_none p s f = record {
  lists = ap kept (sym (append-nil (lists_of_level_candidates f.candidates.items)));
  few = λ h. h;
  measured = λ h. h;
}

pub found_both : (p : Problem) (s : Interval) (l m : List (List Charge)) (a b c : FoundCandidates) → AreFound p s l a b → AreFound p s m b c → AreFound p s (l ++ m) a c
found_both p s l m a b c first second = record {
  lists = second.lists ∙ front_more 4097 (lists_of_level_candidates b.candidates.items) (lists_of_level_candidates a.candidates.items ++ l) m first.lists
      ∙ ap kept (append_assoc (lists_of_level_candidates a.candidates.items) l m);
  few = λ h. second.few (first.few h);
  measured = λ h. second.measured (first.measured h);
}

-- what is found from the same candidates
found_from : (p : Problem) (s : Interval) (l : List (List Charge)) (a b c : FoundCandidates) → b.candidates.items ≡ a.candidates.items → AreFound p s l b c → AreFound p s l a c
found_from p s l a b c e h = record {
  lists = h.lists ∙ ap (λ x. kept (lists_of_level_candidates x ++ l)) e;
  few = λ f. h.few (subst (λ x. length x ≤ 4097) (sym e) f);
  measured = λ f. h.measured (subst (All (IsMeasured p s)) (sym e) f);
}

pub searched_closed : (p : Problem) (q : List Charge) (s : Searcher) → is_open_in p s.plan.levels q ≡ false → IsSubtreeSearched p q (Ok tt) s s
searched_closed p q s closed = (
  record {
    entered = omega (arith, count_closed p s.plan.levels q closed);
    more = [];
    found = found_none p s.plan.levels s.found;
    leaves = leaves_closed p s.plan.levels q closed;
  },
  refl,
)

pub searched_leaf : (p : Problem) (q : List Charge) (old mid new : Searcher) → p.sites ≤ length q → IsEntered p q old mid → IsCandidateKept p mid.plan.levels q mid.found new.found → new.plan ≡ mid.plan
    → IsSubtreeSearched p q (Ok tt) old new
searched_leaf p q old mid new full entered kept same = (whole (subst (λ z. IsCandidateKept p z.levels q mid.found new.found) entered.same kept), same ∙ entered.same)
  where
    whole : IsCandidateKept p old.plan.levels q mid.found new.found → IsRangeVisited p old.plan.levels q old.found new.found
    whole k = record {
      entered = omega (arith, count_full p old.plan.levels q full entered.opens, k.left, entered.left);
      more = k.more;
      found = found_from p old.plan.levels k.more old.found mid.found new.found entered.same_found k.found;
      leaves = k.leaves;
    }

-- what all children are
abbrev AreAll : Problem → List Charge → List Charge → Result (Unit {0}) Halt → Searcher → Searcher → Type 0
AreAll p q xs (Ok u) a d = AreVisited p a.plan.levels q xs a.found d.found × (d.plan ≡ a.plan)
AreAll p q xs (Err Over) a d = a.found.left < prefixes_beyond p a.plan.levels q xs
AreAll p q xs (Err NoMemory) a d = Unit {0}

visited_more : (p : Problem) (s : Interval) (q : List Charge) (x : Charge) (xs : List Charge) (a b d : FoundCandidates) → AreRising (x ∷ xs)
    → IsRangeVisited p s (q ++ x ∷ []) a b → AreVisited p s q xs b d → AreVisited p s q (x ∷ xs) a d
visited_more p s q x xs a b d rise first rest = record {
  entered = omega (arith, first.entered, rest.entered);
  more = first.more ++ rest.more;
  found = found_both p s first.more rest.more a b d first.found rest.found;
  leaves = leaves_more p s q x xs first.more rest.more rise.0 first.leaves rest.leaves;
}

searched_all : (p : Problem) (q xs : List Charge) (r : Result (Unit {0}) Halt) (a d : Searcher) → AreRising xs
    → AreDone (λ x. IsSubtreeSearched p (q ++ x ∷ [])) xs r a d → AreAll p q xs r a d
searched_all p q [] (Ok u) a d rise same = subst (λ z. AreAll p q [] (Ok u) a z) (sym same)
    (record { entered = omega arith; more = []; found = found_none p a.plan.levels a.found; leaves = leaves_none p a.plan.levels q }, refl)
searched_all p q [] (Err e) a d rise never = absurd never
searched_all p q (x ∷ xs) (Ok u) a d rise (b, first, rest) =
    let more = searched_all p q xs (Ok u) b d rise.1 rest in
    (visited_more p a.plan.levels q x xs a.found b.found d.found rise first.0 (subst (λ z. AreVisited p z.levels q xs b.found d.found) first.1 more.0), more.1 ∙ first.1)
searched_all p q (x ∷ xs) (Err Over) a d rise (inl over) = omega (arith, over)
searched_all p q (x ∷ xs) (Err Over) a d rise (inr (b, first, rest)) =
    let more = searched_all p q xs (Err Over) b d rise.1 rest in
    let here = ap (λ z. prefixes_beyond p z.levels q xs) first.1 in
    let entered = first.0.entered in
    omega (arith, entered, more, here)
searched_all p q (x ∷ xs) (Err NoMemory) a d rise done = tt

pub searched_node : (p : Problem) (q : List Charge) (r : Result (Unit {0}) Halt) (old mid new : Searcher) → IsPrefix p q → length q < p.sites → IsEntered p q old mid
    → AreDone (λ x. IsSubtreeSearched p (q ++ x ∷ [])) (charges_of_base p.base) r mid new → IsSubtreeSearched p q r old new
searched_node p q r old mid new is room entered done = by r (searched_all p q (charges_of_base p.base) r mid new (rising p.base) done)
  where
    whole : AreVisited p old.plan.levels q (charges_of_base p.base) mid.found new.found → IsRangeVisited p old.plan.levels q old.found new.found
    whole h = record {
      entered = omega (arith, count_node p old.plan.levels q room entered.opens, entered.left, h.entered);
      more = h.more;
      found = found_from p old.plan.levels h.more old.found mid.found new.found entered.same_found h.found;
      leaves = leaves_whole p old.plan.levels q h.more room entered.opens h.leaves;
    }

    by : (s : Result (Unit {0}) Halt) → AreAll p q (charges_of_base p.base) s mid new → IsSubtreeSearched p q s old new
    by (Ok u) h = (whole (subst (λ z. AreVisited p z.levels q (charges_of_base p.base) mid.found new.found) entered.same h.0), h.1 ∙ entered.same)
    by (Err Over) h =
        let count = count_node p old.plan.levels q room entered.opens in
        let same = ap (λ z. prefixes_beyond p z.levels q (charges_of_base p.base)) entered.same in
        omega (arith, count, same, entered.left, h)
    by (Err NoMemory) h = tt

-- a list with some level at which it is possibly valid is a candidate, and one with none is not
pub candidate_where : (p : Problem) (s : Interval) (q : List Charge) (e : Ends) → IsChargeList p q → AreEnds p s q e → (e.possible.last <ℤ e.possible.first → ⊥) → IsCandidateIn p s q
candidate_where p s q e list ends some =
    let order : e.possible.first ≤ℤ e.possible.last = by_lt_z e.possible.last e.possible.first (λ h. absurd (some h)) (λ h. h) in
    let here = (ends.possible e.possible.first).0 (record { from = omega (arith, ints); to = order }) in
    record { is_list = list; level = e.possible.first; inside = here.0; possible = here.1 }

pub no_candidate : (p : Problem) (s : Interval) (q : List Charge) (e : Ends) → AreEnds p s q e → e.possible.last <ℤ e.possible.first → IsCandidateIn p s q → ⊥
no_candidate p s q e ends empty candidate =
    let here = (ends.possible candidate.level).1 (candidate.inside, candidate.possible) in
    let from = here.from in let to = here.to in
    omega (arith, ints, empty, from, to)

pub kept_none : (p : Problem) (s : Interval) (q : List Charge) (f : FoundCandidates) → IsChargeList p q → (IsCandidateIn p s q → ⊥) → IsCandidateKept p s q f f
kept_none p s q f list never = record { left = refl; more = []; found = found_none p s f; leaves = leaves_dropped p s q list never }

-- one more candidate than are kept
pub kept_full : (p : Problem) (s : Interval) (q : List Charge) (f : FoundCandidates) → 4096 < length f.candidates.items → is_open_in p s q ≡ true → IsCandidateIn p s q → IsCandidateKept p s q f f
kept_full p s q f many opens candidate = record {
  left = refl;
  more = q ∷ [];
  found = record {
    lists = sym (take-append-le 4097 (lists_of_level_candidates f.candidates.items) (q ∷ []) (omega (arith, many, length-map f.candidates.items (λ x. x.charges))));
    few = λ h. h;
    measured = λ h. h;
  };
  leaves = leaves_kept p s q opens candidate;
}

pub kept_one : (p : Problem) (s : Interval) (q : List Charge) (old new : FoundCandidates) (x : LevelCandidate) → length old.candidates.items ≤ 4096 → is_open_in p s q ≡ true → IsCandidateIn p s q
    → new.left ≡ old.left → new.candidates.items ≡ old.candidates.items ++ x ∷ [] → IsMeasured p s x → x.charges ≡ q → IsCandidateKept p s q old new
kept_one p s q old new x few opens candidate left items measured same = record {
  left = left;
  more = q ∷ [];
  found = record {
    lists = ap (λ l. kept (lists_of_level_candidates l)) items ∙ ap kept (map-append (λ y. y.charges) old.candidates.items (x ∷ []) ∙ ap (λ z. lists_of_level_candidates old.candidates.items ++ z ∷ []) same);
    few = λ h. subst (λ l. length l ≤ 4097) (sym items) (omega (arith, few, length-append old.candidates.items (x ∷ [])));
    measured = λ h. subst (All (IsMeasured p s)) (sym items) (All-push (IsMeasured p s) old.candidates.items x h measured);
  };
  leaves = leaves_kept p s q opens candidate;
}

-- what is found under the empty prefix is all candidates
pub all_of_root : (p : Problem) (s : Interval) (l : List (List Charge)) → ((c : List Charge) (m : ℕ) → IsCandidateIn p s c → IsRangePrefix p s (take m c))
    → AreRangeLeavesUnder p s [] l → AreAllCandidates p s l
all_of_root p s l opens leaves = record {
  in_order = leaves.in_order;
  only = All-weaker (IsRangeLeafUnder p s []) (IsCandidateIn p s) (λ c leaf. leaf.candidate) l leaves.only;
  each = λ c h. leaves.each c (leaf_of_candidate p s c (λ m. open_front c m h) h);
}
  where
    open_front : (c : List Charge) (m : ℕ) → IsCandidateIn p s c → is_open_in p s (take m c) ≡ true
    open_front c m h = sym (ap (is_open_in p s) (take_all (length (take m c)) (take m c) (omega arith))) ∙ (opens c m h).open_each (length (take m c)) (omega arith)

-- all that is found from nothing, as far as it is kept
pub all_searched : (p : Problem) (s : Interval) (limit : ℕ) (old new : FoundCandidates) → ((c : List Charge) (m : ℕ) → IsCandidateIn p s c → IsRangePrefix p s (take m c))
    → old.candidates.items ≡ [] → old.left ≡ limit → IsRangeVisited p s [] old new → IsSearchedThrough p s limit new.candidates.items
all_searched p s limit old new opens none left h =
    let few = h.found.few (subst (λ l. length l ≤ 4097) (sym none) (omega arith)) in
    record {
      within = omega (arith, h.entered, left, count_root p s);
      all = h.more;
      kept = sym (take_all 4097 (lists_of_level_candidates new.candidates.items) (omega (arith, few, length-map new.candidates.items (λ x. x.charges)))) ∙ h.found.lists ∙ ap (λ l. kept (lists_of_level_candidates l ++ h.more)) none;
      whole = all_of_root p s h.more opens h.leaves;
      measured = h.found.measured (subst (All (IsMeasured p s)) (sym none) (All-nil (IsMeasured p s)));
    }

-- where fewer are kept than may be, all are
kept_all : (l m : List (List Charge)) → l ≡ kept m → length l ≤ 4096 → l ≡ m
kept_all l m e few = e ∙ take_all 4097 m (by (cases_lt (length m) 4097))
  where
    by : (length m < 4097) ⊎ (4097 ≤ length m) → length m ≤ 4097
    by (inl h) = omega (arith, h)
    by (inr h) = absurd (omega (arith, h, few, ap length e, length-take 4097 m))

pub few_candidates : (p : Problem) (s : Interval) (limit : ℕ) (xs : List LevelCandidate) → IsSearchedThrough p s limit xs → length xs ≤ 4096 → AreCandidates p s xs
few_candidates p s limit xs h few = record {
  lists = subst (AreAllCandidates p s) (sym (kept_all (lists_of_level_candidates xs) h.all h.kept (omega (arith, few, length-map xs (λ x. x.charges))))) h.whole;
  measured = h.measured;
}

pub many_candidates : (p : Problem) (s : Interval) (limit : ℕ) (xs : List LevelCandidate) → IsSearchedThrough p s limit xs → 4096 < length xs → HasManyCandidates p s
many_candidates p s limit xs h many = record {
  all = h.all;
  whole = h.whole;
  many = omega (arith, many, ap length h.kept, length-map xs (λ x. x.charges), length-take 4097 h.all);
}

pub over_root : (p : Problem) (s : Interval) (q : List Charge) (limit : ℕ) (e : Halt) (old new : Searcher) → q ≡ [] → old.plan.levels ≡ s → old.found.left ≡ limit → e ≡ Over
    → IsSubtreeSearched p q (Err e) old new → limit < range_prefix_count p s
over_root p s q limit e old new none levels left is visited =
    let here : IsSubtreeSearched p [] (Err Over) old new = subst (λ z. IsSubtreeSearched p [] (Err z) old new) is (subst (λ z. IsSubtreeSearched p z (Err e) old new) none visited) in
    let same = ap (λ z. prefixes_under p z []) levels in
    omega (arith, here, same, left, count_root p s)

pub through_root : (p : Problem) (s : Interval) (q : List Charge) (limit : ℕ) (u : Unit {0}) (old new : Searcher) → q ≡ [] → old.plan.levels ≡ s → old.found.left ≡ limit → old.found.candidates.items ≡ []
    → ((c : List Charge) (m : ℕ) → IsCandidateIn p s c → IsRangePrefix p s (take m c)) → IsSubtreeSearched p q (Ok u) old new → IsSearchedThrough p s limit new.found.candidates.items
through_root p s q limit u old new none levels left empty opens visited =
    let here = subst (λ z. IsRangeVisited p z [] old.found new.found) levels (subst (λ z. IsRangeVisited p old.plan.levels z old.found new.found) none visited.0) in
    all_searched p s limit old.found new.found opens empty left here
