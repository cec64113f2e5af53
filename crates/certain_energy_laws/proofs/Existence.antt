-- the least certain energy, by going through all charge lists
use Rattle.std.proofs.Common.{◌≡◌, ℕ, zero, suc, ◌+◌, ◌<◌, List, [], ◌∷◌, ◌++◌, length, ℤ, pos, ◌*ℤ◌, ◌≤ℤ◌, refl, sym, ap, subst, ◌∙◌, arith, Bool, true, false, ◌⊎◌, inl, inr, Some, append_assoc, length-append}
use Rattle.std.specs.Prelude.{int_le, Option, None}
use Rattle.std.proofs.lemmas.Int.{ints}
use Rattle.std.proofs.lemmas.List.{append-nil}
use Rattle.charge_model.specs.declared.charge.Charge.{Charge}
use Rattle.charge_model.specs.declared.charge.Charge.TheVariants.{Neg, Neutral, Pos}
use Rattle.charge_model.specs.Charges.{IsOfBase}
use Rattle.charge_model.specs.Problem.{Problem, IsProblem, IsGreatest}
use Rattle.charge_model.specs.Rules.{IsChargeList, IsCertainlyValid, energy}
use Rattle.charge_model.specs.Tree.{IsGreatestOf, IsAttained, IsLeastCertain}
use Rattle.certain_energy_laws.proofs.Extremes.{greatest_energy}
use Rattle.certain_energy_laws.proofs.Decisions.{Decided, certain_decided}
use Rattle.certain_energy_laws.proofs.Lists.{of_base_decided}

-- no list of a set is certainly valid
abbrev NoneIn : Problem → (List Charge → Type 0) → Type 0
NoneIn p S = (c : List Charge) → S c → IsChargeList p c → IsCertainlyValid p c → ⊥

-- an energy that is attained, at most that of each certainly valid list of a set
record IsLeastOf (p : Problem) (S : List Charge → Type 0) (bound : ℤ) : Type 0 where
  attained : IsAttained p bound
  least : (c : List Charge) (e : ℤ) → S c → IsGreatestOf p c e → bound ≤ℤ e

abbrev IsSettled : Problem → (List Charge → Type 0) → Type 0
IsSettled p S = NoneIn p S ⊎ ((bound : ℤ) × IsLeastOf p S bound)

-- a list begins with a prefix
abbrev Begins : List Charge → List Charge → Type 0
Begins q c = (rest : List Charge) × (c ≡ q ++ rest)

-- two greatest values of one quantity
same_greatest : (p : Problem) (c : List Charge) (a b : ℤ) → IsGreatest p (λ t. energy p t c) a → IsGreatest p (λ t. energy p t c) b → a ≤ℤ b
same_greatest p c a b x y =
    let at = x.reached in
    let bound = subst (λ s. energy p at.0 c ≤ℤ (pos s *ℤ b)) at.2.0 (y.bounds at.0 at.1) in
    let same = at.2.1 in omega (arith, ints, bound, same)

-- the one list that begins with a full prefix
settled_full : (p : Problem) (q : List Charge) → IsProblem p → length q ≡ p.sites → IsSettled p (Begins q)
settled_full p q is whole = by (of_base_decided p.base q) (certain_decided p q is)
  where
    same : (c rest : List Charge) → c ≡ q ++ rest → length c ≡ p.sites → c ≡ q
    same c [] begins full = begins ∙ append-nil q
    same c (x ∷ rest) begins full = absurd (omega (arith, length-append q (x ∷ rest), ap length begins, whole, full))

    by : Decided (IsOfBase p.base q) → Decided (IsCertainlyValid p q) → IsSettled p (Begins q)
    by (inr never) certain = inl (λ c b list valid. never (subst (IsOfBase p.base) (same c b.0 b.1 list.whole) list.of_base))
    by (inl of_base) (inr never) = inl (λ c b list valid. never (subst (IsCertainlyValid p) (same c b.0 b.1 list.whole) valid))
    by (inl of_base) (inl certain) =
        let greatest = greatest_energy p q is in
        inr (
          greatest.0,
          record {
            attained = (q, record { is_list = record { whole = whole; of_base = of_base }; valid = certain; reached = greatest.1 });
            least = λ c e b at. same_greatest p q greatest.0 e greatest.1 (subst (λ z. IsGreatest p (λ t. energy p t z) e) (same c b.0 b.1 at.is_list.whole) at.reached);
          },
        )

-- the lesser of the least of two sets
settled_two : (p : Problem) (S T : List Charge → Type 0) → IsSettled p S → IsSettled p T → IsSettled p (λ c. S c ⊎ T c)
settled_two p S T (inl a) (inl b) = inl none
  where
    none : (c : List Charge) → S c ⊎ T c → IsChargeList p c → IsCertainlyValid p c → ⊥
    none c (inl s) list valid = a c s list valid
    none c (inr t) list valid = b c t list valid
settled_two p S T (inr a) (inl b) = inr (a.0, record { attained = a.1.attained; least = least })
  where
    least : (c : List Charge) (e : ℤ) → S c ⊎ T c → IsGreatestOf p c e → a.0 ≤ℤ e
    least c e (inl s) at = a.1.least c e s at
    least c e (inr t) at = absurd (b c t at.is_list at.valid)
settled_two p S T (inl a) (inr b) = inr (b.0, record { attained = b.1.attained; least = least })
  where
    least : (c : List Charge) (e : ℤ) → S c ⊎ T c → IsGreatestOf p c e → b.0 ≤ℤ e
    least c e (inl s) at = absurd (a c s at.is_list at.valid)
    least c e (inr t) at = b.1.least c e t at
settled_two p S T (inr a) (inr b) = by (int_le a.0 b.0) refl
  where
    by : (r : Bool) → int_le a.0 b.0 ≡ r → IsSettled p (λ c. S c ⊎ T c)
    by true h = inr (a.0, record { attained = a.1.attained; least = least })
      where
        least : (c : List Charge) (e : ℤ) → S c ⊎ T c → IsGreatestOf p c e → a.0 ≤ℤ e
        least c e (inl s) at = a.1.least c e s at
        least c e (inr t) at = let most = b.1.least c e t at in omega (arith, ints, most, h)
    by false h = inr (b.0, record { attained = b.1.attained; least = least })
      where
        least : (c : List Charge) (e : ℤ) → S c ⊎ T c → IsGreatestOf p c e → b.0 ≤ℤ e
        least c e (inl s) at = let most = a.1.least c e s at in omega (arith, ints, most, h)
        least c e (inr t) at = b.1.least c e t at

-- a smaller set
settled_part : (p : Problem) (S T : List Charge → Type 0) → ((c : List Charge) → IsChargeList p c → T c → S c) → IsSettled p S → IsSettled p T
settled_part p S T part (inl none) = inl (λ c t list valid. none c (part c list t) list valid)
settled_part p S T part (inr a) = inr (a.0, record { attained = a.1.attained; least = λ c e t at. a.1.least c e (part c at.is_list t) at })

-- a list that begins with a prefix begins with one of its children
abbrev BeginsLonger : List Charge → List Charge → Type 0
BeginsLonger q c = (Begins (q ++ Neg ∷ []) c ⊎ Begins (q ++ Neutral ∷ []) c) ⊎ Begins (q ++ Pos ∷ []) c

longer : (p : Problem) (q : List Charge) → length q < p.sites → (c : List Charge) → IsChargeList p c → Begins q c → BeginsLonger q c
longer p q room c list b = by b.0 b.1
  where
    by : (rest : List Charge) → c ≡ q ++ rest → BeginsLonger q c
    by [] begins = absurd (omega (arith, ap length (begins ∙ append-nil q), list.whole, room))
    by (Neg ∷ rest) begins = inl (inl (rest, begins ∙ sym (append_assoc q (Neg ∷ []) rest)))
    by (Neutral ∷ rest) begins = inl (inr (rest, begins ∙ sym (append_assoc q (Neutral ∷ []) rest)))
    by (Pos ∷ rest) begins = inr (rest, begins ∙ sym (append_assoc q (Pos ∷ []) rest))

settled : (p : Problem) (more : ℕ) (q : List Charge) → IsProblem p → length q + more ≡ p.sites → IsSettled p (Begins q)
settled p zero q is whole = settled_full p q is (omega (arith, whole))
settled p (suc more) q is whole =
    let child = λ (x : Charge). settled p more (q ++ x ∷ []) is (omega (arith, length-append q (x ∷ []), whole)) in
    settled_part p (BeginsLonger q) (Begins q) (longer p q (omega (arith, whole)))
    (settled_two p (λ c. Begins (q ++ Neg ∷ []) c ⊎ Begins (q ++ Neutral ∷ []) c) (Begins (q ++ Pos ∷ []))
    (settled_two p (Begins (q ++ Neg ∷ [])) (Begins (q ++ Neutral ∷ [])) (child Neg) (child Neutral)) (child Pos))

pub least_certain : (p : Problem) → IsProblem p → (bound : Option ℤ) × IsLeastCertain p bound
least_certain p is = by (settled p p.sites [] is (omega arith))
  where
    by : IsSettled p (Begins []) → (bound : Option ℤ) × IsLeastCertain p bound
    by (inl none) = (None, λ c list valid. none c (c, refl) list valid)
    by (inr a) = (Some a.0, record { attained = a.1.attained; least = λ e at. a.1.least at.0 e (at.0, refl) at.1 })
