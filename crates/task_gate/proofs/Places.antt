-- the first place that is no site
use Rattle.std.proofs.Common.{◌≡◌, ◌∙◌, sym, ap, refl, subst, ℕ, suc, ◌+◌, ◌<◌, ◌≤◌, inl, inr, List, [], ◌∷◌, ◌++◌, length, get_or, take, drop, drop-cons, add-one, arith, Option, None, Some}
use Rattle.std.specs.Prelude.{All, IfNone, IfSome, MatchOption}
use Rattle.std.proofs.lemmas.List.Elements.{All-more, All-weaker}
use Rattle.sidb_layout.specs.declared.site.Site.{Site}
use Rattle.gate_model.specs.declared.pairs.PairOf.{PairOf}
use Rattle.gate_model.specs.Logic.{Logic, places_in}
use Rattle.bdl_pairs.specs.Remaining.{IsOn, IsPairOn}
use Rattle.task_gate.specs.GateSite.{ArePlacesBelow, IsFirstFrom, IsGateSite}

-- what is first behind place k is first of all
abbrev pub GoesBack : ℕ → List PairOf → ℕ → Type 0
GoesBack n pairs k = (place : ℕ) → IsFirstFrom n (places_in (drop k pairs)) place → IsFirstFrom n (places_in pairs) place

rest_at : (pairs : List PairOf) (k : ℕ) (d : PairOf) → k < length pairs → places_in (drop k pairs) ≡ (get_or pairs k d).a ∷ (get_or pairs k d).b ∷ places_in (drop (k + 1) pairs)
rest_at pairs k d lt = ap places_in (drop-cons pairs k d lt ∙ ap (λ n. get_or pairs k d ∷ drop n pairs) (sym (add-one k)))

pub goes_on : (n : ℕ) (pairs : List PairOf) (k : ℕ) (d : PairOf) → k < length pairs → (get_or pairs k d).a < n → (get_or pairs k d).b < n → GoesBack n pairs k → GoesBack n pairs (k + 1)
goes_on n pairs k d lt a b back place first =
    back place (subst (λ l. IsFirstFrom n l place) (sym (rest_at pairs k d lt)) (inr (a, inr (b, first))))

pub first_a : (n : ℕ) (pairs : List PairOf) (k : ℕ) (d : PairOf) → k < length pairs → n ≤ (get_or pairs k d).a → GoesBack n pairs k → IsFirstFrom n (places_in pairs) (get_or pairs k d).a
first_a n pairs k d lt a back = back (get_or pairs k d).a (subst (λ l. IsFirstFrom n l (get_or pairs k d).a) (sym (rest_at pairs k d lt)) (inl (a, refl)))

pub first_b : (n : ℕ) (pairs : List PairOf) (k : ℕ) (d : PairOf) → k < length pairs → (get_or pairs k d).a < n → n ≤ (get_or pairs k d).b → GoesBack n pairs k → IsFirstFrom n (places_in pairs) (get_or pairs k d).b
first_b n pairs k d lt a b back = back (get_or pairs k d).b (subst (λ l. IsFirstFrom n l (get_or pairs k d).b) (sym (rest_at pairs k d lt)) (inr (a, inl (b, refl))))

-- one more pair of places
pub more_places : (n : ℕ) (pairs : List PairOf) (k : ℕ) (d : PairOf) → k < length pairs → All (ArePlacesBelow n) (take k pairs) → (get_or pairs k d).a < n → (get_or pairs k d).b < n → All (ArePlacesBelow n) (take (k + 1) pairs)
more_places n pairs k d lt all a b = All-more (ArePlacesBelow n) pairs k d lt all (record { a = a; b = b })

-- first of the inputs, or of the outputs where all inputs are places
pub in_front : (n : ℕ) (xs ys : List ℕ) (place : ℕ) → IsFirstFrom n xs place → IsFirstFrom n (xs ++ ys) place
in_front n [] ys place first = absurd first
in_front n (x ∷ xs) ys place (inl here) = inl here
in_front n (x ∷ xs) ys place (inr later) = inr (later.0, in_front n xs ys place later.1)

pub behind : (n : ℕ) (pairs : List PairOf) (ys : List ℕ) (place : ℕ) → All (ArePlacesBelow n) pairs → IsFirstFrom n ys place → IsFirstFrom n (places_in pairs ++ ys) place
behind n [] ys place all first = first
behind n (x ∷ pairs) ys place all first =
    let here = all 0 x (omega arith) in inr (here.a, inr (here.b, behind n pairs ys place (λ k d lt. all (suc k) d (omega arith)) first))

pub on_sites : (sites : List Site) (n : ℕ) → n ≡ length sites → (pairs : List PairOf) → All (ArePlacesBelow n) pairs → All (IsPairOn sites) pairs
on_sites sites n same pairs all = All-weaker (ArePlacesBelow n) (IsPairOn sites) (λ pair is. record { a = subst (λ m. pair.a < m) same is.a; b = subst (λ m. pair.b < m) same is.b }) pairs all

pub site_of_inputs : (gate : Logic) (sites : List Site) (n place : ℕ) → n ≡ length sites → IsFirstFrom n (places_in gate.inputs) place → IsGateSite gate sites place
site_of_inputs gate sites n place same first = subst (λ m. IsFirstFrom m (places_in gate.inputs ++ places_in gate.outputs) place) same (in_front n (places_in gate.inputs) (places_in gate.outputs) place first)

pub all_on : (gate : Logic) (sites : List Site) (n : ℕ) (r : Option ℕ) → n ≡ length sites → All (ArePlacesBelow n) gate.inputs → MatchOption r (All (ArePlacesBelow n) gate.outputs) (IsFirstFrom n (places_in gate.outputs)) → IfNone r (IsOn gate sites)
all_on gate sites n None same inputs outputs = record { inputs = on_sites sites n same gate.inputs inputs; outputs = on_sites sites n same gate.outputs outputs }
all_on gate sites n (Some place) same inputs outputs = tt

pub site_of_outputs : (gate : Logic) (sites : List Site) (n : ℕ) (r : Option ℕ) → n ≡ length sites → All (ArePlacesBelow n) gate.inputs → MatchOption r (All (ArePlacesBelow n) gate.outputs) (IsFirstFrom n (places_in gate.outputs)) → IfSome r (IsGateSite gate sites)
site_of_outputs gate sites n None same inputs outputs = tt
site_of_outputs gate sites n (Some place) same inputs outputs = subst (λ m. IsFirstFrom m (places_in gate.inputs ++ places_in gate.outputs) place) same (behind n gate.inputs (places_in gate.outputs) place inputs outputs)
