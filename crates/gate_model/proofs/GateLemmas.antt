-- places of pairs, and lists in which no number stands twice
use Rattle.std.proofs.Common.{◌≡◌, ◌∙◌, sym, ap, refl, ℕ, ◌+◌, ◌<◌, List, [], ◌∷◌, ◌++◌, take, length, get_or, arith, append_assoc}
use Rattle.std.proofs.lemmas.List.{take_more, get_or_default}
use Rattle.gate_model.specs.declared.pairs.PairOf.{PairOf}
use Rattle.gate_model.specs.Logic.{AllDiffer, StandsBefore, places_in}

-- no number before place n stands twice
abbrev pub DifferBelow : List ℕ → ℕ → Type 0
DifferBelow places n = (j : ℕ) → j < n → StandsBefore places j → ⊥

pub all_differ_below : (places : List ℕ) → DifferBelow places (length places) → AllDiffer places
unfolding AllDiffer
all_differ_below places below i j d before within same =
    let first : get_or places i d ≡ get_or places i 0 = get_or_default places i d 0 (omega arith) in
    let second : get_or places j d ≡ get_or places j 0 = get_or_default places j d 0 within in
    below j within (i, before, sym first ∙ same ∙ second)

pub not_all_differ : (places : List ℕ) (j : ℕ) → j < length places → StandsBefore places j → AllDiffer places → ⊥
unfolding AllDiffer
not_all_differ places j within (i, before, same) differ = differ i j 0 before within same

-- the places of one more pair
pub places_append : (xs ys : List PairOf) → places_in (xs ++ ys) ≡ places_in xs ++ places_in ys
places_append [] ys = refl
places_append (x ∷ xs) ys = ap (λ l. x.a ∷ x.b ∷ l) (places_append xs ys)

pub places_more : (xs : List PairOf) (i : ℕ) (d : PairOf) → i < length xs → places_in (take (i + 1) xs) ≡ places_in (take i xs) ++ (get_or xs i d).a ∷ (get_or xs i d).b ∷ []
places_more xs i d lt = ap places_in (take_more xs i d lt) ∙ places_append (take i xs) (get_or xs i d ∷ [])

-- two numbers that are added
pub both_added : (base front old mid new whole : List ℕ) (a b : ℕ) → old ≡ base ++ front → mid ≡ old ++ a ∷ [] → new ≡ mid ++ b ∷ [] → whole ≡ front ++ a ∷ b ∷ [] → new ≡ base ++ whole
both_added base front old mid new whole a b first second third last =
    let joined : ((base ++ front) ++ a ∷ []) ++ b ∷ [] ≡ base ++ (front ++ a ∷ b ∷ []) = simp append_assoc in
    third ∙ ap (λ l. l ++ b ∷ []) (second ∙ ap (λ l. l ++ a ∷ []) first) ∙ joined ∙ ap (λ l. base ++ l) (sym last)
