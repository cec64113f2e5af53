-- a site can have a charge where the extremes of its potential are within the limits
use Rattle.std.proofs.Common.{◌≡◌, ℕ, zero, suc, ◌<◌, ◌≤◌, ◌*◌, ◌^◌, List, [], length, ℤ, neg_ℤ, ◌∷◌, ◌++◌, refl, sym, ap, subst, ◌∙◌, arith, unsigned_abs, Bool, true, false, cond, eqb, ◌&&◌, ◌⊎◌, inl, inr, ◌≢◌, length-append}
use Rattle.std.specs.Prelude.{int_le}
use Rattle.std.proofs.lemmas.Int.{ints}
use Rattle.std.proofs.lemmas.Bool.{cases_eq, lt-ltb}
use Rattle.charge_model.specs.declared.charge.Charge.{Charge}
use Rattle.charge_model.specs.declared.charge.Charge.TheVariants.{Neg, Neutral, Pos}
use Rattle.charge_model.specs.Charges.{charge_at}
use Rattle.charge_model.specs.Problem.{Problem}
use Rattle.charge_model.specs.Prefixes.{can_be, least_potential, greatest_potential}
use Rattle.charge_model.specs.Tree.{all_below, is_open}
use Rattle.prefix_extremes.specs.Closed.{keeps_open}
use Rattle.prefix_extremes.specs.Known.{AreExtremes}
use Rattle.prefix_extremes.specs.declared.extremes.Extremes.{Extremes}
use Rattle.prefix_rows.specs.declared.row.Row.{Row}
use Rattle.prefix_rows.specs.Rows.{IsRowWritten, extremes_at}
use Rattle.prefix_rows.specs.Limits.{beyond_extremes, least_limit, greatest_limit, IsLimit, AreLimitsOf}
use Rattle.prefix_rows.proofs.Written.{charge_before, charge_pushed}

and_comm : (a b : Bool) → (a && b) ≡ (b && a)
and_comm true true = refl
and_comm true false = refl
and_comm false true = refl
and_comm false false = refl

and_true : (a : Bool) → (a && true) ≡ a
and_true true = refl
and_true false = refl

-- no extreme is far
below_far : (x : ℤ) → unsigned_abs x ≤ 152 * 10 ^ 13 → int_le x beyond_extremes ≡ true
below_far x small = grind (arith, ints)

above_far : (x : ℤ) → unsigned_abs x ≤ 152 * 10 ^ 13 → int_le (neg_ℤ beyond_extremes) x ≡ true
above_far x small = grind (arith, ints)

not_below_far : (x : ℤ) → unsigned_abs x ≤ 152 * 10 ^ 13 → int_le x (neg_ℤ beyond_extremes) ≡ false
not_below_far x small = grind (arith, ints)

positive_limit : (b : Bool) (x level : ℤ) → unsigned_abs x ≤ 152 * 10 ^ 13 → int_le x (cond b level (neg_ℤ beyond_extremes)) ≡ (b && int_le x level)
positive_limit true x level small = refl
positive_limit false x level small = not_below_far x small

can_limits : (p : Problem) (q : List Charge) (k : ℕ) (c : Charge) → unsigned_abs (least_potential p q k) ≤ 152 * 10 ^ 13 → unsigned_abs (greatest_potential p q k) ≤ 152 * 10 ^ 13
    → (int_le (least_potential p q k) (least_limit p c) && int_le (greatest_limit p c) (greatest_potential p q k)) ≡ can_be p q k c
unfolding can_be
can_limits p q k Neg least greatest = rw (below_far (least_potential p q k) least) refl
can_limits p q k Neutral least greatest = and_comm (int_le (least_potential p q k) p.mu_minus) (int_le p.mu_plus (greatest_potential p q k))
can_limits p q k Pos least greatest = rw (above_far (greatest_potential p q k) greatest) (and_true _ ∙ positive_limit (eqb p.base 3) (least_potential p q k) p.mu_plus least)

pub limits_keep : (p : Problem) (q : List Charge) (k : ℕ) (whole limit : Extremes) → k < length q → AreExtremes p q k whole → IsLimit p (charge_at q k) limit
    → (int_le whole.least.value limit.least.value && int_le limit.greatest.value whole.greatest.value) ≡ keeps_open p q k
limits_keep p q k whole limit l are is =
    let least = subst (λ x. unsigned_abs x ≤ 152 * 10 ^ 13) are.least are.small.least in
    let greatest = subst (λ x. unsigned_abs x ≤ 152 * 10 ^ 13) are.greatest are.small.greatest in
    rw (lt-ltb k (length q) l, are.least, are.greatest, is.least, is.greatest) (can_limits p q k (charge_at q k) least greatest)

-- sites that all pass leave what those before them say
pub all_passed : (n d : ℕ) (f : ℕ → Bool) → d ≤ n → ((k : ℕ) → d ≤ k → k < n → f k ≡ true) → all_below d f ≡ all_below n f
all_passed zero d f h passed = let none : d ≡ 0 = omega (arith, h) in ap (λ m. all_below m f) none
all_passed (suc n) d f h passed = by (cases_eq d (suc n)) (λ l. all_passed n d f l (λ k g m. passed k g (omega (arith, m))))
  where
    by : (d ≡ suc n) ⊎ (d ≢ suc n) → (d ≤ n → all_below d f ≡ all_below n f) → all_below d f ≡ all_below (suc n) f
    by (inl e) before = ap (λ m. all_below m f) e
    by (inr ne) before =
        let rest = before (omega (arith, h, ne)) in
        rest ∙ sym (and_true (all_below n f)) ∙ ap (λ b. all_below n f && b) (sym (passed n (omega (arith, h, ne)) (omega arith)))

pub opens_where_all : (p : Problem) (q : List Charge) → all_below p.sites (keeps_open p q) ≡ is_open p q
unfolding is_open
opens_where_all p q = refl

-- the limits after one more charge, and of a shorter prefix
pub limits_pushed : (p : Problem) (q : List Charge) (c : Charge) (old new : Row) (d : ℕ) (limit : Extremes) → d ≡ length q
    → IsRowWritten old d limit new → IsLimit p c limit → AreLimitsOf p q old → AreLimitsOf p (q ++ c ∷ []) new
limits_pushed p q c old new d limit depth written is are k l = by (omega (arith, l, length-append q (c ∷ []))) (cases_eq k d)
  where
    by : k ≤ length q → (k ≡ d) ⊎ (k ≢ d) → IsLimit p (charge_at (q ++ c ∷ []) k) (extremes_at new k)
    by h (inl same) =
        let own : charge_at (q ++ c ∷ []) k ≡ c = ap (charge_at (q ++ c ∷ [])) (same ∙ depth) ∙ charge_pushed q c in
        let here : extremes_at new k ≡ limit = ap (extremes_at new) same ∙ written.here in
        subst (λ a. IsLimit p a (extremes_at new k)) (sym own) (subst (IsLimit p c) (sym here) is)
    by h (inr ne) =
        let inside : k < length q = omega (arith, h, ne, depth) in
        subst (λ a. IsLimit p a (extremes_at new k)) (sym (charge_before q c k inside)) (subst (IsLimit p (charge_at q k)) (sym (written.others k ne)) (are k inside))

pub limits_popped : (p : Problem) (q : List Charge) (c : Charge) (limits : Row) → AreLimitsOf p (q ++ c ∷ []) limits → AreLimitsOf p q limits
limits_popped p q c limits are k l =
    subst (λ a. IsLimit p a (extremes_at limits k)) (charge_before q c k l) (are k (omega (arith, l, length-append q (c ∷ []))))
