-- a charge that the next site can't have closes the prefix
use Rattle.std.proofs.Common.{◌≡◌, ℕ, ◌+◌, ◌<◌, List, [], ◌∷◌, ◌++◌, length, ℤ, ◌+ℤ◌, refl, sym, ap, ◌∙◌, arith, ◌⊎◌, inl, inr, Bool, true, false, ◌&&◌, Option, Some, None, length-append}
use Rattle.std.proofs.lemmas.Bool.{cases_order, eq-eqb, ne_eqb, lt-ltb, le-ltb}
use Rattle.std.proofs.lemmas.List.{get_or_append_left}
use Rattle.charge_model.specs.declared.charge.Charge.{Charge}
use Rattle.charge_model.specs.declared.charge.Charge.TheVariants.{Neg, Neutral, Pos}
use Rattle.charge_model.specs.Charges.{charge_at}
use Rattle.charge_model.specs.Problem.{Problem}
use Rattle.charge_model.specs.Prefixes.{least_fixed, greatest_fixed, least_from, greatest_from, least_potential, greatest_potential, can_be, IsOpen}
use Rattle.charge_model.specs.Tree.{is_open, is_node}
use Rattle.charge_model.proofs.Sums.{sum_below-same}
use Rattle.prefix_laws.proofs.NodeLemmas.{opens}

-- the charge of a site of the prefix, and of the next one
charge_before : (q : List Charge) (c : Charge) (j : ℕ) → j < length q → charge_at (q ++ c ∷ []) j ≡ charge_at q j
charge_before q c j h = get_or_append_left q (c ∷ []) Neutral j h

charge_added : (q : List Charge) (c : Charge) → charge_at (q ++ c ∷ []) (length q) ≡ c
charge_added [] c = refl
charge_added (x ∷ q) c = charge_added q c

longer : (q : List Charge) (c : Charge) → length (q ++ c ∷ []) ≡ length q + 1
longer q c = length-append q (c ∷ [])

-- the charge of a site adds nothing to its own potential
least_same : (p : Problem) (q : List Charge) (c : Charge) (j : ℕ) → (j ≡ length q) ⊎ ((j < length q) ⊎ (length q < j)) → least_from p (q ++ c ∷ []) (length q) j ≡ least_from p q (length q) j
least_same p q c j (inl e) = rw (eq-eqb j (length q) e) refl
least_same p q c j (inr (inl l)) =
    rw (ne_eqb j (length q) (omega (arith, l)), lt-ltb j (length q) l, lt-ltb j (length (q ++ c ∷ [])) (omega (arith, l, longer q c)), charge_before q c j l) refl
least_same p q c j (inr (inr g)) =
    rw (ne_eqb j (length q) (omega (arith, g)), le-ltb j (length q) (omega (arith, g)), le-ltb j (length (q ++ c ∷ [])) (omega (arith, g, longer q c))) refl

greatest_same : (p : Problem) (q : List Charge) (c : Charge) (j : ℕ) → (j ≡ length q) ⊎ ((j < length q) ⊎ (length q < j)) → greatest_from p (q ++ c ∷ []) (length q) j ≡ greatest_from p q (length q) j
greatest_same p q c j (inl e) = rw (eq-eqb j (length q) e) refl
greatest_same p q c j (inr (inl l)) =
    rw (ne_eqb j (length q) (omega (arith, l)), lt-ltb j (length q) l, lt-ltb j (length (q ++ c ∷ [])) (omega (arith, l, longer q c)), charge_before q c j l) refl
greatest_same p q c j (inr (inr g)) =
    rw (ne_eqb j (length q) (omega (arith, g)), le-ltb j (length q) (omega (arith, g)), le-ltb j (length (q ++ c ∷ [])) (omega (arith, g, longer q c))) refl

least_kept : (p : Problem) (q : List Charge) (c : Charge) → least_potential p (q ++ c ∷ []) (length q) ≡ least_potential p q (length q)
unfolding least_potential
least_kept p q c = ap (λ z. least_fixed p (length q) +ℤ z)
    (sum_below-same p.sites (least_from p (q ++ c ∷ []) (length q)) (least_from p q (length q)) (λ j l. least_same p q c j (cases_order j (length q))))

greatest_kept : (p : Problem) (q : List Charge) (c : Charge) → greatest_potential p (q ++ c ∷ []) (length q) ≡ greatest_potential p q (length q)
unfolding greatest_potential
greatest_kept p q c = ap (λ z. greatest_fixed p (length q) +ℤ z)
    (sum_below-same p.sites (greatest_from p (q ++ c ∷ []) (length q)) (greatest_from p q (length q)) (λ j l. greatest_same p q c j (cases_order j (length q))))

can_kept : (p : Problem) (q : List Charge) (c a : Charge) → can_be p (q ++ c ∷ []) (length q) a ≡ can_be p q (length q) a
unfolding can_be
can_kept p q c Neg = rw (greatest_kept p q c) refl
can_kept p q c Neutral = rw (greatest_kept p q c, least_kept p q c) refl
can_kept p q c Pos = rw (least_kept p q c) refl

pub own_kept : (p : Problem) (q : List Charge) (c : Charge) → can_be p (q ++ c ∷ []) (length q) c ≡ can_be p q (length q) c
own_kept p q c = can_kept p q c c

both_ways : (b : Bool) → b ≡ true → b ≡ false → ⊥
both_ways true e f = cc
both_ways false e f = cc

not_true : (b : Bool) → (b ≡ true → ⊥) → b ≡ false
not_true true none = absurd (none refl)
not_true false none = refl

pub refused_closes : (p : Problem) (q : List Charge) (c : Charge) → length q < p.sites → can_be p q (length q) c ≡ false → is_open p (q ++ c ∷ []) ≡ false
refused_closes p q c room refused = not_true (is_open p (q ++ c ∷ [])) (λ all.
    let open_at : IsOpen p (q ++ c ∷ []) = opens p (q ++ c ∷ []) (omega (arith, room, longer q c)) all in
    let own = open_at.assigned (length q) (omega (arith, longer q c)) in
    let turned = ap (can_be p (q ++ c ∷ []) (length q)) (charge_added q c) ∙ can_kept p q c c in
    both_ways (can_be p q (length q) c) (sym turned ∙ own) refused)

false_and : (a b : Bool) → a ≡ false → (a && b) ≡ false
false_and a b e = rw e refl

pub refused_is_no_node : (p : Problem) (threshold : Option ℤ) (q : List Charge) (c : Charge) → length q < p.sites → can_be p q (length q) c ≡ false → is_node p threshold (q ++ c ∷ []) ≡ false
unfolding is_node
refused_is_no_node p None q c room refused = refused_closes p q c room refused
refused_is_no_node p (Some b) q c room refused = false_and _ _ (refused_closes p q c room refused)
