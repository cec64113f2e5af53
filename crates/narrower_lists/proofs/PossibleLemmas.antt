-- going through lists, and keeping those that are possibly valid
use Rattle.std.proofs.Common.{◌≡◌, ◌∙◌, ℕ, ◌+◌, ◌<◌, ◌≤◌, List, [], ◌∷◌, ◌++◌, length, get_or, Some, slice_get, ◌⊎◌, inl, inr, sym, ap, subst, arith}
use Rattle.std.specs.Prelude.{All, AllPairs, Contains}
use Rattle.std.proofs.lemmas.Bool.{cases_eq}
use Rattle.std.proofs.lemmas.List.{map-append, get_or-map, length-map}
use Rattle.std.proofs.lemmas.List.Elements.{All-push, Contains-push, Contains-append_left}
use Rattle.std.proofs.lemmas.List.Quantifiers.{all_pairs_push}
use Rattle.std.proofs.lemmas.Option.{get_or_from_slice_get}
use Rattle.charge_model.specs.declared.charge.Charge.{Charge}
use Rattle.charge_model.specs.Charges.{IsBefore}
use Rattle.charge_model.specs.Problem.{Problem}
use Rattle.charge_model.specs.Rules.{IsPossiblyValid}
use Rattle.charge_model.specs.GroundList.{Entry, lists_of}
use Rattle.candidate_marks.specs.declared.candidate.Candidate.{Candidate}
use Rattle.candidate_marks.specs.Candidates.{IsWeighed, IsWeighedList, lists_of_candidates}
use Rattle.narrower_lists.specs.Possible.{ArePossible}

-- of the first i lists, those that are possibly valid have been kept
pub record KeptTo (p : Problem) (ls : List (List Charge)) (i : ℕ) (l : List (List Charge)) : Type 0 where
  pub in_order : AllPairs IsBefore l
  pub before : (m : ℕ) (d : List Charge) → i ≤ m → m < length ls → All (λ c. IsBefore c (get_or ls m d)) l
  pub only : All (Contains ls) l
  pub each : (k : ℕ) (d : List Charge) → k < i → k < length ls → IsPossiblyValid p (get_or ls k d) → Contains l (get_or ls k d)

-- and they have been weighed
pub record WeighedTo (p : Problem) (ls : List (List Charge)) (i : ℕ) (xs : List Candidate) : Type 0 where
  pub kept : KeptTo p ls i (lists_of_candidates xs)
  pub weighed : All (IsWeighed p) xs

-- the charges of entry k
pub charges_of_entry : (es : List Entry) (k : ℕ) (e : Entry) (d : List Charge) → k < length es → slice_get es k ≡ Some e → get_or (lists_of es) k d ≡ e.charges
charges_of_entry es k e d lt is = get_or-map (λ y. y.charges) es k e d lt ∙ ap (λ y. y.charges) (get_or_from_slice_get es k e e is)

pub places : (es : List Entry) (k : ℕ) → k < length es → k < length (lists_of es)
places es k lt = subst (λ n. k < n) (sym (length-map es (λ y. y.charges))) lt

-- one more place, whose list is kept or not possibly valid
more : (p : Problem) (ls : List (List Charge)) (i : ℕ) (l new : List (List Charge)) (x : List Charge)
    → ((c : List Charge) → Contains l c → Contains new c) → KeptTo p ls i l → ((d : List Charge) → get_or ls i d ≡ x)
    → (IsPossiblyValid p x → Contains new x)
    → (k : ℕ) (d : List Charge) → k < i + 1 → k < length ls → IsPossiblyValid p (get_or ls k d) → Contains new (get_or ls k d)
more p ls i l new x grows kept is here k d h n = at (cases_eq k i)
  where
    at : (k ≡ i) ⊎ (k ≡ i → ⊥) → IsPossiblyValid p (get_or ls k d) → Contains new (get_or ls k d)
    at (inl e) = subst (λ z. IsPossiblyValid p z → Contains new z) (sym (ap (λ j. get_or ls j d) e ∙ is d)) here
    at (inr ne) = λ possible. grows (get_or ls k d) (kept.each k d (omega arith) n possible)

pub kept_none : (p : Problem) (ls : List (List Charge)) → WeighedTo p ls 0 []
kept_none p ls = record {
  kept = record {
    in_order = λ i j d h m. absurd (omega (arith, m));
    before = λ m d a b k f h. absurd (omega (arith, h));
    only = λ k d h. absurd (omega (arith, h));
    each = λ k d h n. absurd (omega (arith, h));
  };
  weighed = λ k d h. absurd (omega (arith, h));
}

pub kept_push : (p : Problem) (ls : List (List Charge)) (i : ℕ) (xs : List Candidate) (x : List Charge) (new : Candidate)
    → AllPairs IsBefore ls → WeighedTo p ls i xs → i < length ls → ((d : List Charge) → get_or ls i d ≡ x)
    → IsWeighedList p x new → WeighedTo p ls (i + 1) (xs ++ new ∷ [])
kept_push p ls i xs x new in_order old lt is weighed =
    let l = lists_of_candidates xs in
    let grown : lists_of_candidates (xs ++ new ∷ []) ≡ l ++ x ∷ [] = map-append (λ y. y.charges) xs (new ∷ []) ∙ ap (λ z. l ++ z ∷ []) weighed.charges in
    let kept = old.kept in
    let next : KeptTo p ls (i + 1) (l ++ x ∷ []) = record {
      in_order = all_pairs_push IsBefore l x kept.in_order (λ k d h. subst (IsBefore (get_or l k d)) (is x) (kept.before i x (omega arith) lt k d h));
      before = λ m d a b. All-push (λ c. IsBefore c (get_or ls m d)) l x (kept.before m d (omega (arith, a)) b)
          (subst (λ z. IsBefore z (get_or ls m d)) (is d) (in_order i m d (omega (arith, a)) b));
      only = All-push (Contains ls) l x kept.only (i, lt, is x);
      each = more p ls i l (l ++ x ∷ []) x (λ c h. Contains-append_left l (x ∷ []) c h) kept is (λ possible. Contains-push l x);
    } in
    record {
      kept = subst (KeptTo p ls (i + 1)) (sym grown) next;
      weighed = All-push (IsWeighed p) xs new old.weighed weighed.weighed;
    }

pub kept_skip : (p : Problem) (ls : List (List Charge)) (i : ℕ) (xs : List Candidate) (x : List Charge)
    → WeighedTo p ls i xs → ((d : List Charge) → get_or ls i d ≡ x) → (IsPossiblyValid p x → ⊥) → WeighedTo p ls (i + 1) xs
kept_skip p ls i xs x old is fails = record {
  kept = record {
    in_order = old.kept.in_order;
    before = λ m d a b. old.kept.before m d (omega (arith, a)) b;
    only = old.kept.only;
    each = more p ls i (lists_of_candidates xs) (lists_of_candidates xs) x (λ c h. h) old.kept is (λ possible. absurd (fails possible));
  };
  weighed = old.weighed;
}

pub kept_all : (p : Problem) (ls : List (List Charge)) (n : ℕ) (xs : List Candidate) → WeighedTo p ls n xs → length ls ≤ n → ArePossible p ls xs
kept_all p ls n xs old whole = record {
  in_order = old.kept.in_order;
  weighed = old.weighed;
  only = old.kept.only;
  each = λ k d lt. old.kept.each k d (omega (arith, lt)) lt;
}
