-- the values of forms under a table
use Rattle.std.proofs.Common.{◌≡◌, ℕ, List, length, ℤ, pos, ◌+ℤ◌, ◌*ℤ◌, ◌-ℤ◌, neg_ℤ, ap, ◌∙◌, arith, Vec, Global, vec_len}
use Rattle.std.specs.Vec.{with_items}
use Rattle.std.proofs.lemmas.Int.{ints}
use Rattle.std.proofs.lemmas.List.{with_items_is}
use Rattle.charge_model.specs.declared.charge.Charge.{Charge}
use Rattle.charge_model.specs.declared.charge.Test.{Test}
use Rattle.charge_model.specs.declared.charge.Test.TheVariants.{AboveMinus, AbovePlus, BelowMinus, BelowPlus}
use Rattle.charge_model.specs.Problem.{Problem, Table}
use Rattle.charge_model.specs.Rules.{test_slack, potential_at}
use Rattle.charge_model.proofs.Sums.{mul-neg, mul-add}
use Rattle.linear_form.specs.Forms.{Linear, value_of, weighed}
use Rattle.linear_form.specs.Parts.{sign_of, constant_of}

pub test_value : (p : Problem) (t : Table) (cs : List Charge) (i : ℕ) (test : Test) → pos t.scale *ℤ constant_of p test +ℤ sign_of test *ℤ potential_at p t cs i ≡ test_slack p cs i test t
test_value p t cs i AboveMinus = omega (arith, ints, mul-neg (pos t.scale) p.mu_minus)
test_value p t cs i AbovePlus = omega (arith, ints, mul-neg (pos t.scale) p.mu_plus)
test_value p t cs i BelowMinus = omega (arith, ints)
test_value p t cs i BelowPlus = omega (arith, ints)

-- the value of a form made from no terms and one sum
pub value_of-made : (f : Linear) (k x : ℤ) (v : Vec ℤ Global) (old new : List ℤ) (t : Table)
    → f ≡ record { constant = k; coefficients = (with_items v new).items } → length new ≡ vec_len v → old ≡ v.items
    → ((u : ℕ → ℤ) → weighed v.items u ≡ pos 0) → weighed new t.potential ≡ weighed old t.potential +ℤ x
    → value_of f t ≡ pos t.scale *ℤ k +ℤ x
unfolding value_of
value_of-made f k x v old new t is same start none made =
    let begun = ap (λ z. weighed z t.potential) start in
    let zero = none t.potential in
    ap (λ (z : Linear). pos t.scale *ℤ z.constant +ℤ weighed z.coefficients t.potential) is
    ∙ ap (λ z. pos t.scale *ℤ k +ℤ weighed z t.potential) (with_items_is v new same) ∙ omega (arith, ints, made, begun, zero)

-- the value of a form made by taking another's coefficients away
pub value_of-minus : (f a b : Linear) (k : ℤ) (v : Vec ℤ Global) (old new others : List ℤ) (t : Table)
    → f ≡ record { constant = k; coefficients = (with_items v new).items } → k ≡ a.constant -ℤ b.constant → length new ≡ vec_len v
    → old ≡ v.items → v.items ≡ a.coefficients → others ≡ b.coefficients
    → weighed new t.potential ≡ weighed old t.potential -ℤ weighed others t.potential
    → value_of f t ≡ value_of a t -ℤ value_of b t
unfolding value_of
value_of-minus f a b k v old new others t is difference same start own other made =
    let begun = ap (λ z. weighed z t.potential) (start ∙ own) in
    let taken = ap (λ z. weighed z t.potential) other in
    let scaled = ap (λ z. pos t.scale *ℤ z) difference in
    let spread = mul-add (pos t.scale) a.constant (neg_ℤ b.constant) in
    let negated = mul-neg (pos t.scale) b.constant in
    ap (λ (z : Linear). pos t.scale *ℤ z.constant +ℤ weighed z.coefficients t.potential) is
    ∙ ap (λ z. pos t.scale *ℤ k +ℤ weighed z t.potential) (with_items_is v new same)
    ∙ omega (arith, ints, made, begun, taken, scaled, spread, negated)
