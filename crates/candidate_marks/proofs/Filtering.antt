-- going through the candidates one after another, and keeping those that are not beaten
use Rattle.std.proofs.lemmas.Bool.{cases_eq}
use Rattle.std.proofs.Common.{◌⊎◌, inl, inr, ◌≡◌, ℕ, ℤ, ◌+◌, ◌<◌, List, [], ◌∷◌, ◌++◌, length, get_or, slice_index_or, Bool, true, false, refl, sym, ap, subst, ◌∙◌, arith}
use Rattle.std.specs.Prelude.{All, MatchBool}
use Rattle.std.proofs.Math.Seq.{get_or-append_seam}
use Rattle.std.proofs.lemmas.List.{length-map, length-append, length_push, get_or_append_left}
use Rattle.std.proofs.lemmas.List.Elements.{All-push}
use Rattle.charge_model.specs.Problem.{Problem}
use Rattle.charge_model.specs.GroundList.{entry_at}
use Rattle.candidate_marks.specs.declared.candidate.Candidate.{Candidate}
use Rattle.candidate_marks.specs.Candidates.{IsWeighed, AreContenders, AreVerdicts, IsBeaten, BeatsNone, lists_of_candidates}
use Rattle.candidate_marks.proofs.Keeping.{Kept}
use Rattle.candidate_marks.proofs.CandidateLemmas.{charges_at, weighed_at, unbeaten_at, kept_entry, skipped_entry}

-- nothing is left where the length is 0
pub nothing_left : {X : Type 0} (l : List X) → length l ≡ 0 → l ≡ []
nothing_left [] h = refl
nothing_left (x ∷ xs) h = absurd (omega arith)

-- of the first candidates, those that are not beaten have been kept
pub record GoneTo (p : Problem) (window : ℤ) (xs : List Candidate) (i : ℕ) (l : List Candidate) : Type 0 where
  pub kept : Kept p window (lists_of_candidates xs) i (lists_of_candidates l)
  pub weighed : All (IsWeighed p) l

-- the candidate behind those before it stands in its place
seam : (xs ys zs : List Candidate) (x : Candidate) (k : ℕ) → ys ++ x ∷ zs ≡ xs → k ≡ length ys → x ≡ get_or xs k x
seam xs ys zs x k parts place = sym (ap (λ n. get_or xs n x) place ∙ ap (λ l. get_or l (length ys) x) (sym parts) ∙ get_or-append_seam ys x zs x)

inside : (xs ys zs : List Candidate) (x : Candidate) (k : ℕ) → ys ++ x ∷ zs ≡ xs → k ≡ length ys → k < length xs
inside xs ys zs x k parts place =
    let whole = ap length parts in let sum = length-append ys (x ∷ zs) in omega (arith, whole, sum, place)

-- one more candidate, kept or left out by its verdict
pub gone_on : (p : Problem) (window : ℤ) (xs ys zs : List Candidate) (bs : List Bool) (x : Candidate) (k : ℕ) (l new : List Candidate) → AreContenders p window xs
    → AreVerdicts p window (lists_of_candidates xs) bs → ys ++ x ∷ zs ≡ xs → k ≡ length ys → GoneTo p window xs k l
    → (slice_index_or bs k false ≡ true → new ≡ l) → (slice_index_or bs k false ≡ false → new ≡ l ++ x ∷ []) → GoneTo p window xs (k + 1) new
gone_on p window xs ys zs bs x k l new all verdicts parts place gone beaten put = by (slice_index_or bs k false) refl
  where
    lt : k < length xs
    lt = inside xs ys zs x k parts place

    is : x ≡ get_or xs k x
    is = seam xs ys zs x k parts place

    verdict : MatchBool (slice_index_or bs k false) (IsBeaten p window x.charges) (IsBeaten p window x.charges → ⊥)
    verdict = subst (λ c. MatchBool (slice_index_or bs k false) (IsBeaten p window c) (IsBeaten p window c → ⊥)) (charges_at xs k x lt is [])
        (verdicts.each k (subst (λ n. k < n) (sym (length-map xs (λ y. y.charges))) lt))

    by : (b : Bool) → slice_index_or bs k false ≡ b → GoneTo p window xs (k + 1) new
    by true e = subst (GoneTo p window xs (k + 1)) (sym (beaten e)) (record {
      kept = skipped_entry p window xs k l x gone.kept lt is (subst (λ b. MatchBool b (IsBeaten p window x.charges) (IsBeaten p window x.charges → ⊥)) e verdict);
      weighed = gone.weighed;
    })
    by false e = subst (GoneTo p window xs (k + 1)) (sym (put e)) (record {
      kept = kept_entry p window xs k l x x all gone.kept lt is (subst (λ b. MatchBool b (IsBeaten p window x.charges) (IsBeaten p window x.charges → ⊥)) e verdict) refl;
      weighed = All-push (IsWeighed p) l x gone.weighed (weighed_at p xs k x all.weighed lt is);
    })

-- for each of the first candidates whether some list beats it
pub record DecidedTo (p : Problem) (window : ℤ) (xs : List Candidate) (i : ℕ) (bs : List Bool) : Type 0 where
  pub same : length bs ≡ i
  pub each : (k : ℕ) → k < i → MatchBool (slice_index_or bs k false) (IsBeaten p window (entry_at (lists_of_candidates xs) k)) (IsBeaten p window (entry_at (lists_of_candidates xs) k) → ⊥)

pub decided_none : (p : Problem) (window : ℤ) (xs : List Candidate) → DecidedTo p window xs 0 []
decided_none p window xs = record { same = refl; each = λ k lt. absurd (omega (arith, lt)) }

-- one more
pub decided_more : (p : Problem) (window : ℤ) (xs : List Candidate) (i : ℕ) (bs : List Bool) (x : Candidate) (b : Bool) → AreContenders p window xs → DecidedTo p window xs i bs
    → i < length xs → x ≡ get_or xs i x → MatchBool b (IsBeaten p window x.charges) (BeatsNone p window (lists_of_candidates xs) x.charges) → DecidedTo p window xs (i + 1) (bs ++ b ∷ [])
decided_more p window xs i bs x b all old lt is found = record {
  same = length_push bs b ∙ ap (λ n. n + 1) old.same;
  each = λ k h. at k h (cases_eq k i);
}
  where
    Verdict : Bool → ℕ → Type 0
    Verdict v k = MatchBool v (IsBeaten p window (entry_at (lists_of_candidates xs) k)) (IsBeaten p window (entry_at (lists_of_candidates xs) k) → ⊥)

    judged : (v : Bool) → MatchBool v (IsBeaten p window x.charges) (BeatsNone p window (lists_of_candidates xs) x.charges) → MatchBool v (IsBeaten p window x.charges) (IsBeaten p window x.charges → ⊥)
    judged true h = h
    judged false h = unbeaten_at p window xs i x all lt is h

    here : Verdict b i
    here = subst (λ c. MatchBool b (IsBeaten p window c) (IsBeaten p window c → ⊥)) (sym (charges_at xs i x lt is [])) (judged b found)

    at : (k : ℕ) → k < i + 1 → (k ≡ i) ⊎ (k ≡ i → ⊥) → Verdict (slice_index_or (bs ++ b ∷ []) k false) k
    at k h (inl e) = subst (Verdict (slice_index_or (bs ++ b ∷ []) k false)) (sym e) (subst (λ v. Verdict v i) (sym (ap (λ n. slice_index_or (bs ++ b ∷ []) n false) (e ∙ sym old.same) ∙ get_or-append_seam bs b [] false)) here)
    at k h (inr ne) = subst (λ v. Verdict v k) (sym (get_or_append_left bs (b ∷ []) false k (let same = old.same in omega (arith, same, h, ne)))) (old.each k (omega (arith, h, ne)))

-- all of them
pub decided_all : (p : Problem) (window : ℤ) (xs : List Candidate) (i : ℕ) (bs : List Bool) → DecidedTo p window xs i bs → i ≡ length xs → AreVerdicts p window (lists_of_candidates xs) bs
decided_all p window xs i bs old whole = let many = length-map xs (λ y. y.charges) in record {
  same = old.same ∙ whole ∙ sym many;
  each = λ k lt. old.each k (omega (arith, lt, whole, many));
}
