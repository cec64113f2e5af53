-- quantities that are linear in the numbers of a table
use Rattle.std.proofs.Common.{◌≡◌, ℕ, zero, suc, ◌<◌, List, length, ℤ, pos, neg_ℤ, ◌+ℤ◌, ◌-ℤ◌, ◌*ℤ◌, refl, sym, ap, ◌∙◌, arith, Bool, true, false, cond, eqb}
use Rattle.std.proofs.lemmas.Int.{ints}
use Rattle.std.proofs.lemmas.Bool.{eq-eqb, ne_eqb}
use Rattle.std.proofs.Math.IntN.{*ℤ_comm}
use Rattle.charge_model.specs.declared.charge.Charge.{Charge}
use Rattle.charge_model.specs.declared.charge.Test.{Test}
use Rattle.charge_model.specs.declared.charge.Test.TheVariants.{AboveMinus, AbovePlus, BelowMinus, BelowPlus}
use Rattle.charge_model.specs.Charges.{number_at, hopped}
use Rattle.charge_model.specs.Problem.{Problem, Table, IsProblem, class_of, near_class_of, fixed_count, fixed_at}
use Rattle.charge_model.specs.Rules.{sum_below, energy, energy_below, fixed_energy_below, pair_energy, near_energy, potential_at, potential_below, potential_from, fixed_potential, slack, test_slack, Inequality, at_site, by_hop, IsInequalityOf}
use Rattle.charge_model.proofs.Pairs.{class_below, near_below}
use Rattle.charge_model.proofs.Sums.{mul-add, add-mul, mul_assoc, sum_below-same, sum_below-add, sum_below-mul, sum_below-change}

-- the scale times a constant, and the numbers times their weights
pub record IsLinear (p : Problem) (f : Table → ℤ) : Type 0 where
  pub constant : ℤ
  pub weight : ℕ → ℤ
  pub value : (t : Table) → f t ≡ pos t.scale *ℤ constant +ℤ sum_below (length p.spans) (λ c. t.potential c *ℤ weight c)

zero_sum : (n : ℕ) (u : ℕ → ℤ) → sum_below n (λ c. u c *ℤ pos 0) ≡ pos 0
zero_sum zero u = refl
zero_sum (suc n) u = let rest = zero_sum n u in omega (arith, ints, rest)

pub linear_scale : (p : Problem) (k : ℤ) → IsLinear p (λ t. pos t.scale *ℤ k)
linear_scale p k = record {
  constant = k;
  weight = λ c. pos 0;
  value = λ t. let none = zero_sum (length p.spans) t.potential in omega (arith, ints, none);
}

pub linear_zero : (p : Problem) → IsLinear p (λ t. pos 0)
linear_zero p = record {
  constant = pos 0;
  weight = λ c. pos 0;
  value = λ t. let none = zero_sum (length p.spans) t.potential in omega (arith, ints, none);
}

one_term : (n k : ℕ) (u : ℕ → ℤ) → k < n → u k ≡ sum_below n (λ c. u c *ℤ cond (eqb c k) (pos 1) (pos 0))
one_term n k u l =
    let none = zero_sum n u in
    let change = sum_below-change n k (λ c. u c *ℤ pos 0) (λ c. u c *ℤ cond (eqb c k) (pos 1) (pos 0)) l (λ j m ne. rw (ne_eqb j k ne) refl) in
    let here : u k *ℤ cond (eqb k k) (pos 1) (pos 0) ≡ u k = rw (eq-eqb k k refl) (omega (arith, ints)) in
    omega (arith, ints, none, change, here)

pub linear_number : (p : Problem) (k : ℕ) → k < length p.spans → IsLinear p (λ t. t.potential k)
linear_number p k l = record {
  constant = pos 0;
  weight = λ c. cond (eqb c k) (pos 1) (pos 0);
  value = λ t. let term = one_term (length p.spans) k t.potential l in omega (arith, ints, term);
}

pub linear_add : (p : Problem) (f g : Table → ℤ) → IsLinear p f → IsLinear p g → IsLinear p (λ t. f t +ℤ g t)
linear_add p f g a b = record {
  constant = a.constant +ℤ b.constant;
  weight = λ c. a.weight c +ℤ b.weight c;
  value = λ t.
      let scaled = mul-add (pos t.scale) a.constant b.constant in
      let spread = sum_below-same (length p.spans) (λ c. t.potential c *ℤ (a.weight c +ℤ b.weight c)) (λ c. t.potential c *ℤ a.weight c +ℤ t.potential c *ℤ b.weight c) (λ c l. mul-add (t.potential c) (a.weight c) (b.weight c)) in
      let sums = sum_below-add (length p.spans) (λ c. t.potential c *ℤ a.weight c) (λ c. t.potential c *ℤ b.weight c) in
      omega (arith, ints, a.value t, b.value t, scaled, spread, sums);
}

pub linear_times : (p : Problem) (f : Table → ℤ) (n : ℤ) → IsLinear p f → IsLinear p (λ t. f t *ℤ n)
linear_times p f n a = record {
  constant = a.constant *ℤ n;
  weight = λ c. a.weight c *ℤ n;
  value = λ t.
      let whole = sum_below (length p.spans) (λ c. t.potential c *ℤ a.weight c) in
      let spread = ap (λ z. z *ℤ n) (a.value t) ∙ add-mul (pos t.scale *ℤ a.constant) whole n in
      let scaled = mul_assoc (pos t.scale) a.constant n in
      let turned = *ℤ_comm whole n in
      let sums = sum_below-mul (length p.spans) n (λ c. t.potential c *ℤ a.weight c) in
      let terms = sum_below-same (length p.spans) (λ c. n *ℤ (t.potential c *ℤ a.weight c)) (λ c. t.potential c *ℤ (a.weight c *ℤ n))
      (λ c l. *ℤ_comm n (t.potential c *ℤ a.weight c) ∙ mul_assoc (t.potential c) (a.weight c) n) in
      omega (arith, ints, spread, scaled, turned, sums, terms);
}

pub linear_same : (p : Problem) (f g : Table → ℤ) → ((t : Table) → g t ≡ f t) → IsLinear p f → IsLinear p g
linear_same p f g same a = record { constant = a.constant; weight = a.weight; value = λ t. same t ∙ a.value t }

pub linear_minus : (p : Problem) (f g : Table → ℤ) → IsLinear p f → IsLinear p g → IsLinear p (λ t. f t -ℤ g t)
linear_minus p f g a b = linear_same p (λ t. f t +ℤ g t *ℤ neg_ℤ (pos 1)) (λ t. f t -ℤ g t) (λ t. omega (arith, ints)) (linear_add p f (λ t. g t *ℤ neg_ℤ (pos 1)) a (linear_times p g (neg_ℤ (pos 1)) b))

pub linear_sum : (p : Problem) (n : ℕ) (f : ℕ → Table → ℤ) → ((k : ℕ) → k < n → IsLinear p (f k)) → IsLinear p (λ t. sum_below n (λ k. f k t))
linear_sum p zero f each = linear_zero p
linear_sum p (suc n) f each = linear_add p (λ t. sum_below n (λ k. f k t)) (f n) (linear_sum p n f (λ k l. each k (omega arith))) (each n (omega arith))

product : (p : Problem) (k : ℕ) (a b : ℤ) → k < length p.spans → IsLinear p (λ t. t.potential k *ℤ a *ℤ b)
product p k a b l = linear_times p (λ t. t.potential k *ℤ a) b (linear_times p (λ t. t.potential k) a (linear_number p k l))

pub energy_linear : (p : Problem) (c : List Charge) → IsProblem p → IsLinear p (λ t. energy p t c)
unfolding energy
energy_linear p c is = linear_add p (λ t. energy_below p t c p.sites) (λ t. fixed_energy_below p t c p.sites)
    (linear_sum p p.sites (λ j t. sum_below j (λ i. pair_energy p t c i j)) (λ j l. linear_sum p j (λ i t. pair_energy p t c i j)
    (λ i m. product p (class_of p i j) (number_at c i) (number_at c j) (class_below p i j is (omega arith) (omega arith) l))))
    (linear_sum p p.sites (λ i t. sum_below (fixed_count p) (near_energy p t c i)) (λ i l. linear_sum p (fixed_count p) (λ a t. near_energy p t c i a)
    (λ a m. product p (near_class_of p i a) (number_at c i) (fixed_at p a) (near_below p i a is l m))))

from_site : (p : Problem) (c : List Charge) (i j : ℕ) → IsProblem p → i < p.sites → j < p.sites → (r : Bool) → eqb j i ≡ r → IsLinear p (λ t. cond r (pos 0) (potential_from p t c i j))
from_site p c i j is l m true e = linear_zero p
from_site p c i j is l m false e = linear_times p (λ t. t.potential (class_of p i j)) (number_at c j) (linear_number p (class_of p i j) (class_below p i j is (λ same. false_true (sym e ∙ eq-eqb j i (sym same))) l m))
  where
    false_true : false ≡ true → ⊥
    false_true h = absurd (cc)

pub potential_linear : (p : Problem) (c : List Charge) (i : ℕ) → IsProblem p → i < p.sites → IsLinear p (λ t. potential_at p t c i)
unfolding potential_at
potential_linear p c i is l = linear_add p (λ t. potential_below p t c i p.sites) (λ t. fixed_potential p t i)
    (linear_sum p p.sites (λ j t. cond (eqb j i) (pos 0) (potential_from p t c i j)) (λ j m. from_site p c i j is l m (eqb j i) refl))
    (linear_sum p (fixed_count p) (λ a t. t.potential (near_class_of p i a) *ℤ fixed_at p a)
    (λ a m. linear_times p (λ t. t.potential (near_class_of p i a)) (fixed_at p a) (linear_number p (near_class_of p i a) (near_below p i a is l m))))

test_linear : (p : Problem) (c : List Charge) (i : ℕ) (k : Test) → IsLinear p (λ t. potential_at p t c i) → IsLinear p (test_slack p c i k)
test_linear p c i AboveMinus v = linear_minus p (λ t. potential_at p t c i) (λ t. pos t.scale *ℤ p.mu_minus) v (linear_scale p p.mu_minus)
test_linear p c i AbovePlus v = linear_minus p (λ t. potential_at p t c i) (λ t. pos t.scale *ℤ p.mu_plus) v (linear_scale p p.mu_plus)
test_linear p c i BelowMinus v = linear_minus p (λ t. pos t.scale *ℤ p.mu_minus) (λ t. potential_at p t c i) (linear_scale p p.mu_minus) v
test_linear p c i BelowPlus v = linear_minus p (λ t. pos t.scale *ℤ p.mu_plus) (λ t. potential_at p t c i) (linear_scale p p.mu_plus) v

pub slack_linear : (p : Problem) (c : List Charge) (q : Inequality) → IsProblem p → IsInequalityOf p c q → IsLinear p (slack p c q)
slack_linear p c (at_site i k) is of_list = test_linear p c i k (potential_linear p c i is of_list.0)
slack_linear p c (by_hop i j) is of_list = linear_minus p (λ t. energy p t (hopped c i j)) (λ t. energy p t c) (energy_linear p (hopped c i j) is) (energy_linear p c is)
