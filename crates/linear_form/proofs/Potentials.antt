-- the steps of the sum of a potential, and the form of no terms
use Rattle.std.proofs.Common.{◌≡◌, ◌≢◌, ℕ, zero, suc, ◌+◌, ◌*◌, ◌≤◌, ◌<◌, List, [], ◌∷◌, length, replicate, ℤ, pos, ◌+ℤ◌, ◌*ℤ◌, refl, sym, ap, ◌∙◌, arith, add-one, unsigned_abs, min, max, cond, eqb}
use Rattle.std.specs.Prelude.{All}
use Rattle.std.proofs.lemmas.Int.{ints}
use Rattle.std.proofs.lemmas.List.Elements.{All-head, All-tail}
use Rattle.std.proofs.lemmas.List.Sums.{sum_by-append}
use Rattle.std.proofs.lemmas.Bool.{ne_eqb, eq-eqb}
use Rattle.std.proofs.lemmas.List.{length-replicate, get_or-replicate}
use Rattle.std.proofs.lemmas.List.Folds.{sum_by-replicate}
use Rattle.charge_model.specs.declared.charge.Charge.{Charge}
use Rattle.charge_model.specs.Problem.{Problem, Table, IsProblem, IsFixedCharge, class_of, near_class_of, fixed_count, fixed_at}
use Rattle.charge_model.specs.Charges.{number_at}
use Rattle.charge_model.proofs.Sums.{mul_assoc, mul-add, sum_below-same, sum_below-mul}
use Rattle.std.proofs.Math.IntN.{*ℤ_comm, +ℤ_idr}
use Rattle.charge_model.specs.Rules.{sum_below, potential_below, potential_from, energy_below, near_energy, fixed_potential, fixed_energy_below}
use Rattle.linear_form.specs.Forms.{weighed, weight_of}

-- one more site under a sign
pub potential_other : (p : Problem) (t : Table) (cs : List Charge) (i j : ℕ) (sign start total : ℤ) → j ≢ i
    → total ≡ start +ℤ sign *ℤ potential_below p t cs i j
    → total +ℤ (sign *ℤ number_at cs j) *ℤ t.potential (class_of p i j) ≡ start +ℤ sign *ℤ potential_below p t cs i (j + 1)
potential_other p t cs i j sign start total ne before =
    let n = number_at cs j in
    let u = t.potential (class_of p i j) in
    let turned : (sign *ℤ n) *ℤ u ≡ sign *ℤ (u *ℤ n) = mul_assoc sign n u ∙ ap (λ z. sign *ℤ z) (*ℤ_comm n u) in
    let spread = mul-add sign (potential_below p t cs i j) (u *ℤ n) in
    rw (add-one, ne_eqb j i ne) (omega (arith, ints, before, turned, spread))

pub potential_same : (p : Problem) (t : Table) (cs : List Charge) (i j : ℕ) (sign start total : ℤ) → j ≡ i
    → total ≡ start +ℤ sign *ℤ potential_below p t cs i j
    → total ≡ start +ℤ sign *ℤ potential_below p t cs i (j + 1)
potential_same p t cs i j sign start total e before =
    rw (add-one, eq-eqb j i e) (before ∙ ap (λ z. start +ℤ sign *ℤ z) (sym (+ℤ_idr (potential_below p t cs i j))))

sum_below-zero : (n : ℕ) (f : ℕ → ℤ) → ((k : ℕ) → k < n → f k ≡ pos 0) → sum_below n f ≡ pos 0
sum_below-zero zero f none = refl
sum_below-zero (suc n) f none =
    let rest = sum_below-zero n f (λ k h. none k (omega arith)) in
    let here = none n (omega arith) in omega (arith, ints, rest, here)

pub weighed-zeros : (n : ℕ) (u : ℕ → ℤ) → weighed (replicate n (pos 0)) u ≡ pos 0
weighed-zeros n u = rw length-replicate (sum_below-zero n _ (λ k h. rw (get_or-replicate n k (pos 0) (pos 0) h) (omega (arith, ints))))

pub weight_of-zeros : (n : ℕ) → weight_of (replicate n (pos 0)) ≡ 0
weight_of-zeros n = sum_by-replicate unsigned_abs n (pos 0) ∙ omega arith

pub class_of-turned : (p : Problem) (i j : ℕ) → class_of p i j ≡ class_of p j i
unfolding class_of
class_of-turned p i j =
    let less : min i j ≡ min j i = omega arith in
    let more : max i j ≡ max j i = omega arith in rw (less, more) refl

-- the pairs of site j with the sites below it, by the potential of j from them
pub energy_row : (p : Problem) (t : Table) (cs : List Charge) (j : ℕ)
    → sum_below j (λ i. t.potential (class_of p i j) *ℤ number_at cs i *ℤ number_at cs j) ≡ number_at cs j *ℤ potential_below p t cs j j
energy_row p t cs j =
    let n = number_at cs j in
    let part = λ (k : ℕ). cond (eqb k j) (pos 0) (potential_from p t cs j k) in
    sum_below-same j (λ i. t.potential (class_of p i j) *ℤ number_at cs i *ℤ n) (λ i. n *ℤ part i)
    (λ k h. let ne : k ≢ j = omega arith in rw (ne_eqb k j ne, class_of-turned p k j) (*ℤ_comm (t.potential (class_of p j k) *ℤ number_at cs k) n))
    ∙ sum_below-mul j n part

-- the fixed charges of site i in the energy, by the potential of i from them
pub fixed_row : (p : Problem) (t : Table) (cs : List Charge) (i : ℕ) → sum_below (fixed_count p) (near_energy p t cs i) ≡ number_at cs i *ℤ fixed_potential p t i
fixed_row p t cs i =
    let n = number_at cs i in
    let part = λ (a : ℕ). t.potential (near_class_of p i a) *ℤ fixed_at p a in
    sum_below-same (fixed_count p) (near_energy p t cs i) (λ a. n *ℤ part a)
    (λ a h. ap (λ z. z *ℤ fixed_at p a) (*ℤ_comm (t.potential (near_class_of p i a)) n) ∙ mul_assoc n (t.potential (near_class_of p i a)) (fixed_at p a))
    ∙ sum_below-mul (fixed_count p) n part

-- one more site in the energy: its number times its potential from the sites below it
-- and from the fixed charges
pub energy_more : (p : Problem) (t : Table) (cs : List Charge) (j : ℕ) (start total middle end row : ℤ)
    → row ≡ number_at cs j
    → total ≡ start +ℤ (energy_below p t cs j +ℤ fixed_energy_below p t cs j)
    → middle ≡ total +ℤ row *ℤ potential_below p t cs j j
    → end ≡ middle +ℤ row *ℤ fixed_potential p t j
    → end ≡ start +ℤ (energy_below p t cs (j + 1) +ℤ fixed_energy_below p t cs (j + 1))
energy_more p t cs j start total middle end row is before pairs fixed =
    let pair_row = energy_row p t cs j in
    let near_row = fixed_row p t cs j in
    let by_sites = ap (λ z. z *ℤ potential_below p t cs j j) is in
    let by_fixed = ap (λ z. z *ℤ fixed_potential p t j) is in
    rw add-one (omega (arith, ints, before, pairs, fixed, pair_row, near_row, by_sites, by_fixed))

-- one more fixed charge under a sign
pub fixed_more : (p : Problem) (t : Table) (i a : ℕ) (sign start total end term : ℤ)
    → term ≡ sign *ℤ fixed_at p a
    → total ≡ start +ℤ sign *ℤ sum_below a (λ b. t.potential (near_class_of p i b) *ℤ fixed_at p b)
    → end ≡ total +ℤ term *ℤ t.potential (near_class_of p i a)
    → end ≡ start +ℤ sign *ℤ sum_below (a + 1) (λ b. t.potential (near_class_of p i b) *ℤ fixed_at p b)
fixed_more p t i a sign start total end term is before added =
    let u = t.potential (near_class_of p i a) in
    let q = fixed_at p a in
    let turned : term *ℤ u ≡ sign *ℤ (u *ℤ q) = rw is (mul_assoc sign q u ∙ ap (λ z. sign *ℤ z) (*ℤ_comm q u)) in
    let spread = mul-add sign (sum_below a (λ b. t.potential (near_class_of p i b) *ℤ fixed_at p b)) (u *ℤ q) in
    rw add-one (omega (arith, ints, before, added, turned, spread))

charges_size : (qs : List ℤ) → All IsFixedCharge qs → weight_of qs ≤ 3 * length qs
charges_size [] all = omega arith
charges_size (q ∷ qs) all =
    let first = All-head IsFixedCharge q qs all in
    let least = first.least in
    let greatest = first.greatest in
    let step : weight_of (q ∷ qs) ≡ weight_of (q ∷ []) + weight_of qs = sum_by-append unsigned_abs (q ∷ []) qs in
    let one : weight_of (q ∷ []) ≡ 0 + unsigned_abs q = refl in
    let rest = charges_size qs (All-tail IsFixedCharge q qs all) in omega (arith, ints, least, greatest, rest, step, one)

-- the sizes of at most 8 fixed charges of at most 3
pub few_charges : (p : Problem) → IsProblem p → weight_of p.fixed_charges ≤ 24
few_charges p is = let size = charges_size p.fixed_charges is.fixed in omega (arith, is.few_fixed, size)
