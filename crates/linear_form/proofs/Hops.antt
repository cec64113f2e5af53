-- how the energy and the potentials change when one site's charge does, and what a hop costs
use Rattle.std.proofs.Common.{◌≡◌, ◌≢◌, ℕ, zero, suc, ◌<◌, ◌≤◌, List, length, set, ℤ, pos, negsuc, neg_ℤ, ◌+ℤ◌, ◌-ℤ◌, ◌*ℤ◌, refl, sym, ap, subst, ◌∙◌, arith, cond, eqb, ◌⊎◌, inl, inr}
use Rattle.std.proofs.Math.IntN.{*ℤ_comm}
use Rattle.std.proofs.lemmas.Int.{ints}
use Rattle.std.proofs.lemmas.Bool.{ne_eqb, eq-eqb, cases_eq}
use Rattle.std.proofs.lemmas.List.{length-set, get_or-set_same, get_or-set_other}
use Rattle.charge_model.specs.declared.charge.Charge.{Charge}
use Rattle.charge_model.specs.declared.charge.Charge.TheVariants.{Neg, Neutral, Pos}
use Rattle.charge_model.specs.Charges.{number_of, number_at, charge_at, rank_of, raised, lowered}
use Rattle.charge_model.specs.Problem.{Problem, Table, class_of, near_class_of, fixed_count, fixed_at}
use Rattle.charge_model.specs.Rules.{sum_below, potential_below, potential_from, potential_at, energy, energy_below, hop_slack, near_energy, fixed_potential, fixed_energy_below}
use Rattle.charge_model.proofs.Sums.{mul_assoc, mul-add, add-mul, neg-mul, sum_below-same, sum_below-change}
use Rattle.linear_form.proofs.Potentials.{energy_row, fixed_row, class_of-turned}

-- a hop raises the one site's number by 1 and lowers the other's by 1
raised-number : (c d : Charge) → rank_of c < rank_of d → number_of (raised c) ≡ number_of c +ℤ pos 1
raised-number Neg d h = refl
raised-number Neutral d h = refl
raised-number Pos Neg h = absurd (omega arith)
raised-number Pos Neutral h = absurd (omega arith)
raised-number Pos Pos h = absurd (omega arith)

lowered-number : (c d : Charge) → rank_of c < rank_of d → number_of (lowered d) ≡ number_of d -ℤ pos 1
lowered-number c Neg h = absurd (omega arith)
lowered-number c Neutral h = refl
lowered-number c Pos h = refl

-- the number at a place after a change
number_same : (cs : List Charge) (i : ℕ) (d : Charge) → i < length cs → number_at (set cs i d) i ≡ number_of d
number_same cs i d l = ap number_of (get_or-set_same cs i d Neutral l)

number_other : (cs : List Charge) (i k : ℕ) (d : Charge) → k ≢ i → number_at (set cs i d) k ≡ number_at cs k
number_other cs i k d ne = ap number_of (get_or-set_other cs i k d Neutral ne)

-- the potential of the changed site itself
own_potential : (p : Problem) (t : Table) (cs : List Charge) (i n : ℕ) (d : Charge) → potential_below p t (set cs i d) i n ≡ potential_below p t cs i n
own_potential p t cs i n d = sum_below-same n _ _ (λ k h. at k (cases_eq k i))
  where
    at : (k : ℕ) → (k ≡ i) ⊎ (k ≢ i) → cond (eqb k i) (pos 0) (potential_from p t (set cs i d) i k) ≡ cond (eqb k i) (pos 0) (potential_from p t cs i k)
    at k (inl e) = rw (eq-eqb k i e) refl
    at k (inr ne) = ap (λ z. cond (eqb k i) (pos 0) (t.potential (class_of p i k) *ℤ z)) (number_other cs i k d ne)

-- the potential of another site, from the sites below n, where the changed one is among them
other_potential : (p : Problem) (t : Table) (cs : List Charge) (i j n : ℕ) (d : Charge) → i < length cs → i ≢ j → i < n
    → potential_below p t (set cs i d) j n ≡ potential_below p t cs j n +ℤ (number_of d -ℤ number_at cs i) *ℤ t.potential (class_of p j i)
other_potential p t cs i j n d l ne h =
    let u = t.potential (class_of p j i) in
    let f = λ (k : ℕ). cond (eqb k j) (pos 0) (potential_from p t cs j k) in
    let g = λ (k : ℕ). cond (eqb k j) (pos 0) (potential_from p t (set cs i d) j k) in
    let same = λ (k : ℕ) (m : k < n) (other : k ≢ i). ap (λ z. cond (eqb k j) (pos 0) (t.potential (class_of p j k) *ℤ z)) (number_other cs i k d other) in
    let change = sum_below-change n i f g h same in
    let before : f i ≡ number_at cs i *ℤ u = rw (ne_eqb i j ne) (*ℤ_comm u (number_at cs i)) in
    let after : g i ≡ number_of d *ℤ u = rw (ne_eqb i j ne, number_same cs i d l) (*ℤ_comm u (number_of d)) in
    let spread = add-mul (number_of d) (neg_ℤ (number_at cs i)) u in
    let negated = neg-mul (number_at cs i) u in
    omega (arith, ints, change, before, after, spread, negated)

-- the row of site k in the energy
abbrev row : Problem → Table → List Charge → ℕ → ℤ
row p t cs k = sum_below k (λ i. t.potential (class_of p i k) *ℤ number_at cs i *ℤ number_at cs k)

-- the pairs below the changed site are as they were
energy_before : (p : Problem) (t : Table) (cs : List Charge) (i m : ℕ) (d : Charge) → m ≤ i → energy_below p t (set cs i d) m ≡ energy_below p t cs m
energy_before p t cs i m d h = sum_below-same m (row p t (set cs i d)) (row p t cs) (λ k l.
    sum_below-same k _ _ (λ a b.
    let first = number_other cs i a d (omega arith) in
    let second = number_other cs i k d (omega arith) in
    ap (λ z. t.potential (class_of p a k) *ℤ z *ℤ number_at (set cs i d) k) first ∙ ap (λ z. t.potential (class_of p a k) *ℤ number_at cs a *ℤ z) second))

-- the row of the changed site
row_at : (p : Problem) (t : Table) (cs : List Charge) (i : ℕ) (d : Charge) → i < length cs
    → row p t (set cs i d) i ≡ row p t cs i +ℤ (number_of d -ℤ number_at cs i) *ℤ potential_below p t cs i (suc i)
row_at p t cs i d l =
    let v = potential_below p t cs i i in
    let after : row p t (set cs i d) i ≡ number_of d *ℤ v =
    energy_row p t (set cs i d) i ∙ ap (λ z. z *ℤ potential_below p t (set cs i d) i i) (number_same cs i d l) ∙ ap (λ z. number_of d *ℤ z) (own_potential p t cs i i d) in
    let before = energy_row p t cs i in
    let whole : potential_below p t cs i (suc i) ≡ v = rw (eq-eqb i i refl) (omega (arith, ints)) in
    let spread = add-mul (number_of d) (neg_ℤ (number_at cs i)) v in
    let negated = neg-mul (number_at cs i) v in
    rw whole (omega (arith, ints, after, before, spread, negated))

-- the row of a later site
row_after : (p : Problem) (t : Table) (cs : List Charge) (i k : ℕ) (d : Charge) → i < length cs → i < k
    → row p t (set cs i d) k ≡ row p t cs k +ℤ (number_of d -ℤ number_at cs i) *ℤ potential_from p t cs i k
row_after p t cs i k d l h =
    let change = number_of d -ℤ number_at cs i in
    let u = t.potential (class_of p k i) in
    let n = number_at cs k in
    let v = potential_below p t cs k k in
    let after : row p t (set cs i d) k ≡ n *ℤ (v +ℤ change *ℤ u) =
    energy_row p t (set cs i d) k ∙ ap (λ z. z *ℤ potential_below p t (set cs i d) k k) (number_other cs i k d (omega arith)) ∙ ap (λ z. n *ℤ z) (other_potential p t cs i k k d l (omega arith) h) in
    let before = energy_row p t cs k in
    let spread = mul-add n v (change *ℤ u) in
    let turned : n *ℤ (change *ℤ u) ≡ change *ℤ (t.potential (class_of p i k) *ℤ n) =
    rw (class_of-turned p k i) (*ℤ_comm n (change *ℤ t.potential (class_of p i k)) ∙ mul_assoc change (t.potential (class_of p i k)) n) in
    omega (arith, ints, after, before, spread, turned)

-- the energy after a change of one site's charge: the change of its number times its potential
energy_change : (p : Problem) (t : Table) (cs : List Charge) (i m : ℕ) (d : Charge) → i < length cs → i < m
    → energy_below p t (set cs i d) m ≡ energy_below p t cs m +ℤ (number_of d -ℤ number_at cs i) *ℤ potential_below p t cs i m
energy_change p t cs i zero d l h = absurd (omega arith)
energy_change p t cs i (suc k) d l h = by (cases_eq i k) (λ h'. energy_change p t cs i k d l h')
  where
    by : (i ≡ k) ⊎ (i ≢ k)
        → (i < k → energy_below p t (set cs i d) k ≡ energy_below p t cs k +ℤ (number_of d -ℤ number_at cs i) *ℤ potential_below p t cs i k)
        → energy_below p t (set cs i d) (suc k) ≡ energy_below p t cs (suc k) +ℤ (number_of d -ℤ number_at cs i) *ℤ potential_below p t cs i (suc k)
    by (inl e) ih =
        let before = energy_before p t cs i i d (omega arith) in
        let here = row_at p t cs i d l in
        let whole : energy_below p t (set cs i d) (suc i) ≡ energy_below p t cs (suc i) +ℤ (number_of d -ℤ number_at cs i) *ℤ potential_below p t cs i (suc i) =
        omega (arith, ints, before, here) in
        subst (λ a. energy_below p t (set cs i d) (suc a) ≡ energy_below p t cs (suc a) +ℤ (number_of d -ℤ number_at cs i) *ℤ potential_below p t cs i (suc a)) e whole
    by (inr ne) ih =
        let change = number_of d -ℤ number_at cs i in
        let before = ih (omega arith) in
        let here = row_after p t cs i k d l (omega arith) in
        let step : potential_below p t cs i (suc k) ≡ potential_below p t cs i k +ℤ potential_from p t cs i k = rw (ne_eqb k i (λ e. ne (sym e))) refl in
        let spread = mul-add change (potential_below p t cs i k) (potential_from p t cs i k) in
        rw step (omega (arith, ints, before, here, spread))

-- the fixed charges' part of the energy after a change of one site's charge
fixed_change : (p : Problem) (t : Table) (cs : List Charge) (i m : ℕ) (d : Charge) → i < length cs → i < m
    → fixed_energy_below p t (set cs i d) m ≡ fixed_energy_below p t cs m +ℤ (number_of d -ℤ number_at cs i) *ℤ fixed_potential p t i
fixed_change p t cs i m d l h =
    let v = fixed_potential p t i in
    let f = λ (k : ℕ). sum_below (fixed_count p) (near_energy p t cs k) in
    let g = λ (k : ℕ). sum_below (fixed_count p) (near_energy p t (set cs i d) k) in
    let same = λ (k : ℕ) (below : k < m) (other : k ≢ i).
    sum_below-same (fixed_count p) (near_energy p t (set cs i d) k) (near_energy p t cs k)
    (λ a under. ap (λ z. t.potential (near_class_of p k a) *ℤ z *ℤ fixed_at p a) (number_other cs i k d other)) in
    let change = sum_below-change m i f g h same in
    let after : g i ≡ number_of d *ℤ v = fixed_row p t (set cs i d) i ∙ ap (λ z. z *ℤ v) (number_same cs i d l) in
    let before = fixed_row p t cs i in
    let spread = add-mul (number_of d) (neg_ℤ (number_at cs i)) v in
    let negated = neg-mul (number_at cs i) v in
    omega (arith, ints, change, before, after, spread, negated)

-- a hop costs the difference of the two potentials, less the pair's own number
pub hop_law : (p : Problem) (t : Table) (cs : List Charge) (i j : ℕ) → length cs ≡ p.sites → i < p.sites → j < p.sites
    → rank_of (charge_at cs i) < rank_of (charge_at cs j)
    → hop_slack p cs i j t ≡ potential_at p t cs i -ℤ potential_at p t cs j -ℤ t.potential (class_of p i j)
unfolding energy potential_at
hop_law p t cs i j whole hi hj lower =
    let n = p.sites in
    let up_i = raised (charge_at cs i) in
    let down_j = lowered (charge_at cs j) in
    let middle = set cs i up_i in
    let apart : i ≢ j = λ e. not_lower (rank_of (charge_at cs i)) (rank_of (charge_at cs j)) lower (ap (λ k. rank_of (charge_at cs k)) e) in
    let li : i < length cs = omega arith in
    let lj : j < length middle = rw length-set (omega arith) in
    let first = energy_change p t cs i n up_i li hi in
    let second = energy_change p t middle j n down_j lj hj in
    let first_near = fixed_change p t cs i n up_i li hi in
    let second_near = fixed_change p t middle j n down_j lj hj in
    let at_j = number_other cs i j up_i (λ e. apart (sym e)) in
    let rise = raised-number (charge_at cs i) (charge_at cs j) lower in
    let fall = lowered-number (charge_at cs i) (charge_at cs j) lower in
    let moved = other_potential p t cs i j n up_i li apart hi in
    let one : number_of up_i -ℤ number_at cs i ≡ pos 1 = omega (arith, ints, rise) in
    let minus_one : number_of down_j -ℤ number_at middle j ≡ negsuc 0 = omega (arith, ints, fall, at_j) in
    let first_by = ap (λ z. z *ℤ potential_below p t cs i n) one in
    let second_by = ap (λ z. z *ℤ potential_below p t middle j n) minus_one in
    let moved_by = ap (λ z. z *ℤ t.potential (class_of p j i)) one in
    let first_near_by = ap (λ z. z *ℤ fixed_potential p t i) one in
    let second_near_by = ap (λ z. z *ℤ fixed_potential p t j) minus_one in
    let turned = ap t.potential (class_of-turned p i j) in
    omega (arith, ints, first, second, moved, first_by, second_by, moved_by, first_near, second_near, first_near_by, second_near_by, turned)
  where
    not_lower : (a b : ℕ) → a < b → a ≡ b → ⊥
    not_lower a b h e = omega arith
