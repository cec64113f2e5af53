-- which candidates are in the ground list at a level, and which are certain there
use Rattle.std.proofs.Common.{◌≡◌, ◌∙◌, ℕ, ◌+◌, ◌<◌, ◌≤◌, List, [], ◌∷◌, ◌++◌, length, take, get_or, ℤ, sym, ap, subst, arith, Bool, false}
use Rattle.std.specs.Prelude.{◌↔◌, IsTrue}
use Rattle.std.specs.List.{AllWithin}
use Rattle.std.proofs.lemmas.Bool.{false≢true}
use Rattle.std.proofs.lemmas.List.{get_or-map, length-map, map-append, take_more, get_or_default}
use Rattle.std.proofs.lemmas.List.Elements.{All-map}
use Rattle.charge_model.specs.declared.charge.Charge.{Charge}
use Rattle.charge_model.specs.Problem.{Problem, UnderSomeTable}
use Rattle.charge_model.specs.Rules.{IsChargeList, Beats}
use Rattle.charge_model.specs.GroundList.{IsListed, IsGroundList, IsCertain}
use Rattle.level_range_laws.specs.declared.interval.Interval.{Interval}
use Rattle.level_range_laws.specs.Levels.{IsIn, at_level, IsPossibleAt, IsCertainAt, IsCandidateIn, IsLower, IsNeverAbove}
use Rattle.level_range_laws.specs.Answers.{Outcome, lists_of_outcomes}
use Rattle.level_range_laws.proofs.LevelFacts.{table_at, list_at, list_of}
use Rattle.level_range_laws.proofs.Agreement.{lower_at, lower_of, not_above_at, not_above_of}
use Rattle.level_candidates.specs.declared.candidate.LevelCandidate.{LevelCandidate}
use Rattle.level_candidates.specs.Candidates.{IsMeasured, AreCandidates, lists_of_level_candidates}
use Rattle.level_range.specs.Answering.{picked}
use Rattle.level_range.proofs.Keeping.{AreAll, Kept, kept_push, kept_skip, kept_all}

-- the candidates of an interval, and a level of it
pub record IsSetting (p : Problem) (levels : Interval) (xs : List LevelCandidate) (m : ℤ) : Type 0 where
  pub tables : UnderSomeTable p (λ t. t.scale ≡ 1)
  pub all : AreCandidates p levels xs
  pub inside : IsIn levels m

pub charges_at : (xs : List LevelCandidate) (k : ℕ) (x : LevelCandidate) → k < length xs → x ≡ get_or xs k x → (d : List Charge) → get_or (lists_of_level_candidates xs) k d ≡ x.charges
charges_at xs k x lt is d = get_or-map (λ y. y.charges) xs k x d lt ∙ sym (ap (λ y. y.charges) is)

pub measured_at : (p : Problem) (levels : Interval) (xs : List LevelCandidate) (k : ℕ) (x : LevelCandidate) → AreCandidates p levels xs → k < length xs → x ≡ get_or xs k x → IsMeasured p levels x
measured_at p levels xs k x all lt is = subst (IsMeasured p levels) (sym is) (all.measured k x lt)

pub possible_in : (p : Problem) (levels : Interval) (m : ℤ) (x : LevelCandidate) → IsIn levels m → IsMeasured p levels x → IsIn x.ends.possible m ↔ IsPossibleAt p m x.charges
possible_in p levels m x inside is = (λ h. ((is.ends.possible m).0 h).1, λ h. (is.ends.possible m).1 (inside, h))

pub certain_in : (p : Problem) (levels : Interval) (m : ℤ) (x : LevelCandidate) → IsIn levels m → IsMeasured p levels x → IsIn x.ends.certain m ↔ IsCertainAt p m x.charges
certain_in p levels m x inside is = (λ h. ((is.ends.certain m).0 h).1, λ h. (is.ends.certain m).1 (inside, h))

-- a certainly valid list is a candidate
pub certain_possible : (p : Problem) (m : ℤ) (c : List Charge) → UnderSomeTable p (λ t. t.scale ≡ 1) → IsCertainAt p m c → IsPossibleAt p m c
certain_possible p m c tables h q of = (tables.0, table_at p m tables.0 tables.1, h q of tables.0 (table_at p m tables.0 tables.1))

candidate_here : (p : Problem) (levels : Interval) (m : ℤ) (c : List Charge) → IsIn levels m → IsChargeList (at_level p m) c → IsPossibleAt p m c → IsCandidateIn p levels c
candidate_here p levels m c inside list possible = record { is_list = list_of p m c list; level = m; inside = inside; possible = possible }

-- a certainly valid one with less energy beats a list, and none other does
pub beats_here : (p : Problem) (levels : Interval) (m : ℤ) (w : LevelCandidate) (c : List Charge) → IsIn levels m → IsMeasured p levels w → IsIn w.ends.certain m → IsLower p w.charges c → Beats (at_level p m) w.charges c
beats_here p levels m w c inside is certain lower = record { is_list = list_at p m w.charges is.is_list; certain = (certain_in p levels m w inside is).0 certain; lower = lower_at p m w.charges c lower }

pub beaten_never : (p : Problem) (levels : Interval) (m : ℤ) (w : LevelCandidate) (c : List Charge) (a : Bool) → IsIn levels m → IsMeasured p levels w → (IsTrue a ↔ IsIn w.ends.certain m) → a ≡ false → Beats (at_level p m) w.charges c → ⊥
beaten_never p levels m w c a inside is test fails h = false≢true (sym fails ∙ test.1 ((certain_in p levels m w inside is).1 h.certain))

pub not_lower_never : (p : Problem) (m : ℤ) (w : LevelCandidate) (c : List Charge) (b : Bool) → (IsTrue b ↔ IsLower p w.charges c) → b ≡ false → Beats (at_level p m) w.charges c → ⊥
not_lower_never p m w c b test fails h = false≢true (sym fails ∙ test.1 (lower_of p m w.charges c h.lower))

pub unbeaten : (p : Problem) (levels : Interval) (xs : List LevelCandidate) (m : ℤ) (n : ℕ) (x : LevelCandidate) (c : List Charge) → IsSetting p levels xs m
    → AllWithin (λ w. Beats (at_level p m) w.charges c → ⊥) xs 0 n → length xs ≤ n → (w : List Charge) → Beats (at_level p m) w c → ⊥
unbeaten p levels xs m n x c set none whole w h =
    let held = set.all.lists.each w (candidate_here p levels m w set.inside h.is_list (certain_possible p m w set.tables h.certain)) in
    by held.0 held.1 held.2
  where
    by : (k : ℕ) → k < length (lists_of_level_candidates xs) → get_or (lists_of_level_candidates xs) k w ≡ w → ⊥
    by k lt e =
        let within : k < length xs = subst (λ n. k < n) (length-map xs (λ y. y.charges)) lt in
        none k x (omega arith) (omega (arith, within, whole)) (subst (λ z. Beats (at_level p m) z c) (sym e ∙ get_or-map (λ y. y.charges) xs k x w within) h)

pub listed_when : (p : Problem) (levels : Interval) (xs : List LevelCandidate) (m : ℤ) (k : ℕ) (x : LevelCandidate) → IsSetting p levels xs m → k < length xs → x ≡ get_or xs k x → IsIn x.ends.possible m
    → ((w : List Charge) → Beats (at_level p m) w x.charges → ⊥) → IsListed (at_level p m) (get_or (lists_of_level_candidates xs) k [])
listed_when p levels xs m k x set lt is possible free =
    let measured = measured_at p levels xs k x set.all lt is in
    subst (IsListed (at_level p m)) (sym (charges_at xs k x lt is []))
    (record { is_list = list_at p m x.charges measured.is_list; possible = (possible_in p levels m x set.inside measured).0 possible; unbeaten = free })

pub listed_of : (p : Problem) (m : ℤ) (xs : List LevelCandidate) (k : ℕ) (x : LevelCandidate) → k < length xs → x ≡ get_or xs k x → IsListed (at_level p m) (get_or (lists_of_level_candidates xs) k []) → IsListed (at_level p m) x.charges
listed_of p m xs k x lt is h = subst (IsListed (at_level p m)) (charges_at xs k x lt is []) h

pub all_in : (p : Problem) (levels : Interval) (xs : List LevelCandidate) (m : ℤ) → IsSetting p levels xs m → AreAll (at_level p m) (lists_of_level_candidates xs)
all_in p levels xs m set = record {
  in_order = set.all.lists.in_order;
  listed = λ c h. set.all.lists.each c (candidate_here p levels m c set.inside h.is_list h.possible);
}

pub picked_push : (xs : List LevelCandidate) (ks : List ℕ) (k : ℕ) → picked xs (ks ++ k ∷ []) ≡ picked xs ks ++ get_or (lists_of_level_candidates xs) k [] ∷ []
picked_push xs ks k = map-append (λ j. get_or (lists_of_level_candidates xs) j []) ks (k ∷ [])

-- the list in a place, whatever stands for places that are not there
pub any_default : (xs : List LevelCandidate) (k : ℕ) (x : LevelCandidate) → k < length xs → x ≡ get_or xs k x → (d : List Charge) → get_or (lists_of_level_candidates xs) k d ≡ get_or (lists_of_level_candidates xs) k []
any_default xs k x lt is d = charges_at xs k x lt is d ∙ sym (charges_at xs k x lt is [])

pub certain_when : (p : Problem) (levels : Interval) (xs : List LevelCandidate) (m : ℤ) (k : ℕ) (x : LevelCandidate) (places : List ℕ) (n : ℕ) → AreCandidates p levels xs → IsIn levels m → k < length xs → x ≡ get_or xs k x → IsIn x.ends.certain m
    → AllWithin (λ j. IsNeverAbove p x.charges (get_or (lists_of_level_candidates xs) j [])) places 0 n → length places ≤ n → IsCertain (at_level p m) (picked xs places) (get_or (lists_of_level_candidates xs) k [])
certain_when p levels xs m k x places n all inside lt is certain above whole =
    let measured = measured_at p levels xs k x all lt is in
    subst (IsCertain (at_level p m) (picked xs places)) (sym (charges_at xs k x lt is [])) (record {
      valid = (certain_in p levels m x inside measured).0 certain;
      least = All-map (IsNeverAbove (at_level p m) x.charges) (λ j. get_or (lists_of_level_candidates xs) j []) places
          (λ i d l. not_above_at p m x.charges (get_or (lists_of_level_candidates xs) (get_or places i d) []) (above i d (omega arith) (omega (arith, l, whole))));
    })

pub certain_of : (p : Problem) (m : ℤ) (xs : List LevelCandidate) (k : ℕ) (x : LevelCandidate) (places : List ℕ) → k < length xs → x ≡ get_or xs k x → IsCertain (at_level p m) (picked xs places) (get_or (lists_of_level_candidates xs) k [])
    → IsCertain (at_level p m) (picked xs places) x.charges
certain_of p m xs k x places lt is h = subst (IsCertain (at_level p m) (picked xs places)) (charges_at xs k x lt is []) h

-- a certain list is not above the one in any place
pub not_above_place : (p : Problem) (m : ℤ) (xs : List LevelCandidate) (places : List ℕ) (i : ℕ) (d : ℕ) (c : List Charge) → i < length places → IsCertain (at_level p m) (picked xs places) c
    → IsNeverAbove p c (get_or (lists_of_level_candidates xs) (get_or places i d) [])
not_above_place p m xs places i d c l h =
    not_above_of p m c (get_or (lists_of_level_candidates xs) (get_or places i d) [])
    (subst (IsNeverAbove (at_level p m) c) (get_or-map (λ j. get_or (lists_of_level_candidates xs) j []) places i d c l)
    (h.least i c (subst (λ n. i < n) (sym (length-map places (λ j. get_or (lists_of_level_candidates xs) j []))) l)))

-- one more place, of a listed candidate, or none
pub places_more : (p : Problem) (levels : Interval) (xs : List LevelCandidate) (m : ℤ) (k : ℕ) (ks : List ℕ) → AreAll (at_level p m) (lists_of_level_candidates xs) → k < length xs
    → Kept (at_level p m) (lists_of_level_candidates xs) k (picked xs ks) → IsListed (at_level p m) (get_or (lists_of_level_candidates xs) k []) → Kept (at_level p m) (lists_of_level_candidates xs) (k + 1) (picked xs (ks ++ k ∷ []))
places_more p levels xs m k ks all lt kept listed =
    let within : k < length (lists_of_level_candidates xs) = subst (λ n. k < n) (sym (length-map xs (λ y. y.charges))) lt in
    subst (Kept (at_level p m) (lists_of_level_candidates xs) (k + 1)) (sym (picked_push xs ks k))
    (kept_push (at_level p m) (lists_of_level_candidates xs) k (picked xs ks) (get_or (lists_of_level_candidates xs) k []) all kept within (λ d. get_or_default (lists_of_level_candidates xs) k d [] within) listed)

pub places_same : (p : Problem) (xs : List LevelCandidate) (m : ℤ) (k : ℕ) (ks : List ℕ) → k < length xs
    → Kept (at_level p m) (lists_of_level_candidates xs) k (picked xs ks) → (IsListed (at_level p m) (get_or (lists_of_level_candidates xs) k []) → ⊥) → Kept (at_level p m) (lists_of_level_candidates xs) (k + 1) (picked xs ks)
places_same p xs m k ks lt kept never =
    let within : k < length (lists_of_level_candidates xs) = subst (λ n. k < n) (sym (length-map xs (λ y. y.charges))) lt in
    kept_skip (at_level p m) (lists_of_level_candidates xs) k (picked xs ks) (get_or (lists_of_level_candidates xs) k []) kept within (λ d. get_or_default (lists_of_level_candidates xs) k d [] within) never

pub places_all : (p : Problem) (xs : List LevelCandidate) (m : ℤ) (n : ℕ) (ks : List ℕ) → AreAll (at_level p m) (lists_of_level_candidates xs) → Kept (at_level p m) (lists_of_level_candidates xs) n (picked xs ks) → length xs ≤ n → IsGroundList (at_level p m) (picked xs ks)
places_all p xs m n ks all kept end = kept_all (at_level p m) (lists_of_level_candidates xs) (picked xs ks) n all kept (omega (arith, end, length-map xs (λ y. y.charges)))

-- one more entry
pub entries_more : (xs : List LevelCandidate) (ks : List ℕ) (i k : ℕ) (os : List Outcome) (o : Outcome) → i < length ks → k ≡ get_or ks i 0 → lists_of_outcomes os ≡ take i (picked xs ks) → o.charges ≡ get_or (lists_of_level_candidates xs) k []
    → lists_of_outcomes (os ++ o ∷ []) ≡ take (i + 1) (picked xs ks)
entries_more xs ks i k os o lt at so same =
    let within : i < length (picked xs ks) = subst (λ n. i < n) (sym (length-map ks (λ j. get_or (lists_of_level_candidates xs) j []))) lt in
    map-append (λ z. z.charges) os (o ∷ []) ∙ ap (λ l. l ++ o.charges ∷ []) so
    ∙ ap (λ z. take i (picked xs ks) ++ z ∷ []) (same ∙ ap (λ j. get_or (lists_of_level_candidates xs) j []) at ∙ sym (get_or-map (λ j. get_or (lists_of_level_candidates xs) j []) ks i 0 [] lt))
    ∙ sym (take_more (picked xs ks) i [] within)
