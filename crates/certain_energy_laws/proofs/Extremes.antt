-- the least and the greatest value of a linear quantity
use Rattle.std.proofs.Common.{◌≡◌, ℕ, List, length, ℤ, pos, ◌+ℤ◌, ◌-ℤ◌, ◌*ℤ◌, ◌≤ℤ◌, refl, arith, Bool, true, false, cond}
use Rattle.std.specs.Prelude.{int_le}
use Rattle.std.proofs.lemmas.Int.{ints}
use Rattle.std.proofs.Math.IntN.{*ℤ_comm}
use Rattle.charge_model.specs.declared.charge.Charge.{Charge}
use Rattle.charge_model.specs.Problem.{Problem, Table, IsTable, IsProblem, IsLeast, IsGreatest, lo_in, hi_in}
use Rattle.charge_model.specs.Rules.{sum_below, energy, slack, Inequality, IsInequalityOf}
use Rattle.charge_model.specs.Prefixes.{least_product, greatest_product}
use Rattle.charge_model.proofs.Sums.{mul-add, sum_below-same}
use Rattle.charge_model.proofs.Products.{least_product-le, le-greatest_product, scaled_sum-le, le-scaled_sum}
use Rattle.certain_energy_laws.proofs.Linear.{IsLinear, linear_minus, energy_linear, slack_linear}

-- one of the two ends of a class's span
end_of : Problem → (ℕ → Bool) → ℕ → ℤ
end_of p low c = cond (low c) (lo_in p.spans c) (hi_in p.spans c)

-- a table of scale 1 with an end for each class
ends : Problem → (ℕ → Bool) → Table
ends p low = record { scale = 1; potential = end_of p low }

ends_are_table : (p : Problem) (low : ℕ → Bool) → IsProblem p → IsTable p (ends p low)
unfolding ends end_of
ends_are_table p low is = record {
  positive = omega arith;
  above = λ c l. over (low c) (lo_in p.spans c) (hi_in p.spans c) (is.spans c l).1;
  below = λ c l. under (low c) (lo_in p.spans c) (hi_in p.spans c) (is.spans c l).1;
}
  where
    over : (b : Bool) (x y : ℤ) → x ≤ℤ y → (pos 1 *ℤ x) ≤ℤ cond b x y
    over true x y h = omega (arith, ints)
    over false x y h = omega (arith, ints, h)

    under : (b : Bool) (x y : ℤ) → x ≤ℤ y → cond b x y ≤ℤ (pos 1 *ℤ y)
    under true x y h = omega (arith, ints, h)
    under false x y h = omega (arith, ints)

-- which end makes a product least, and greatest
low_end : Problem → (ℕ → ℤ) → ℕ → Bool
low_end p w c = int_le (w c *ℤ lo_in p.spans c) (w c *ℤ hi_in p.spans c)

high_end : Problem → (ℕ → ℤ) → ℕ → Bool
high_end p w c = cond (int_le (w c *ℤ lo_in p.spans c) (w c *ℤ hi_in p.spans c)) false true

least_at_end : (b : Bool) (n x y : ℤ) → cond b x y *ℤ n ≡ cond b (n *ℤ x) (n *ℤ y)
least_at_end true n x y = *ℤ_comm x n
least_at_end false n x y = *ℤ_comm y n

greatest_at_end : (b : Bool) (n x y : ℤ) → cond (cond b false true) x y *ℤ n ≡ cond b (n *ℤ y) (n *ℤ x)
greatest_at_end true n x y = *ℤ_comm y n
greatest_at_end false n x y = *ℤ_comm x n

pub least_of_linear : (p : Problem) (f : Table → ℤ) → IsProblem p → IsLinear p f → (least : ℤ) × IsLeast p f least
unfolding ends end_of low_end
least_of_linear p f is a = (
  a.constant +ℤ sum_below (length p.spans) term,
  record {
    bounds = λ t table.
        let sums = scaled_sum-le (length p.spans) t.scale term (λ c. t.potential c *ℤ a.weight c) (λ c l. least_product-le p t c (a.weight c) table l) in
        let spread = mul-add (pos t.scale) a.constant (sum_below (length p.spans) term) in
        omega (arith, ints, a.value t, sums, spread);
    reached = (
      ends p (low_end p a.weight),
      ends_are_table p (low_end p a.weight) is,
      (
        refl,
        (let sums = sum_below-same (length p.spans) (λ c. end_of p (low_end p a.weight) c *ℤ a.weight c) term
            (λ c l. least_at_end (low_end p a.weight c) (a.weight c) (lo_in p.spans c) (hi_in p.spans c)) in
            let whole = a.value (ends p (low_end p a.weight)) in omega (arith, ints, sums, whole)),
      ),
    );
  },
)
  where
    term : ℕ → ℤ
    term c = least_product p c (a.weight c)

pub greatest_of_linear : (p : Problem) (f : Table → ℤ) → IsProblem p → IsLinear p f → (greatest : ℤ) × IsGreatest p f greatest
unfolding ends end_of high_end
greatest_of_linear p f is a = (
  a.constant +ℤ sum_below (length p.spans) term,
  record {
    bounds = λ t table.
        let sums = le-scaled_sum (length p.spans) t.scale term (λ c. t.potential c *ℤ a.weight c) (λ c l. le-greatest_product p t c (a.weight c) table l) in
        let spread = mul-add (pos t.scale) a.constant (sum_below (length p.spans) term) in
        omega (arith, ints, a.value t, sums, spread);
    reached = (
      ends p (high_end p a.weight),
      ends_are_table p (high_end p a.weight) is,
      (
        refl,
        (let sums = sum_below-same (length p.spans) (λ c. end_of p (high_end p a.weight) c *ℤ a.weight c) term
            (λ c l. greatest_at_end (int_le (a.weight c *ℤ lo_in p.spans c) (a.weight c *ℤ hi_in p.spans c)) (a.weight c) (lo_in p.spans c) (hi_in p.spans c)) in
            let whole = a.value (ends p (high_end p a.weight)) in omega (arith, ints, sums, whole)),
      ),
    );
  },
)
  where
    term : ℕ → ℤ
    term c = greatest_product p c (a.weight c)

pub greatest_energy : (p : Problem) (c : List Charge) → IsProblem p → (greatest : ℤ) × IsGreatest p (λ t. energy p t c) greatest
greatest_energy p c is = greatest_of_linear p (λ t. energy p t c) is (energy_linear p c is)

-- energies have a least value too
pub least_energy : (p : Problem) (c : List Charge) → IsProblem p → (least : ℤ) × IsLeast p (λ t. energy p t c) least
least_energy p c is = least_of_linear p (λ t. energy p t c) is (energy_linear p c is)

-- slacks have a least and a greatest value
pub least_slack : (p : Problem) (c : List Charge) (q : Inequality) → IsProblem p → IsInequalityOf p c q → (least : ℤ) × IsLeast p (slack p c q) least
least_slack p c q is of_list = least_of_linear p (slack p c q) is (slack_linear p c q is of_list)

pub greatest_slack : (p : Problem) (c : List Charge) (q : Inequality) → IsProblem p → IsInequalityOf p c q → (greatest : ℤ) × IsGreatest p (slack p c q) greatest
greatest_slack p c q is of_list = greatest_of_linear p (slack p c q) is (slack_linear p c q is of_list)

-- the energy of one list less that of another
difference_linear : (p : Problem) (w c : List Charge) → IsProblem p → IsLinear p (λ t. energy p t w -ℤ energy p t c)
difference_linear p w c is = linear_minus p (λ t. energy p t w) (λ t. energy p t c) (energy_linear p w is) (energy_linear p c is)

-- differences have a least and a greatest value
pub least_difference : (p : Problem) (w c : List Charge) → IsProblem p → (least : ℤ) × IsLeast p (λ t. energy p t w -ℤ energy p t c) least
least_difference p w c is = least_of_linear p (λ t. energy p t w -ℤ energy p t c) is (difference_linear p w c is)

pub greatest_difference : (p : Problem) (w c : List Charge) → IsProblem p → (greatest : ℤ) × IsGreatest p (λ t. energy p t w -ℤ energy p t c) greatest
greatest_difference p w c is = greatest_of_linear p (λ t. energy p t w -ℤ energy p t c) is (difference_linear p w c is)
