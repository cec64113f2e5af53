-- what forms are made of, and where their extremes lie
use Rattle.std.specs.Prelude.{ℕ, ◌+◌, ◌*◌, unsigned_abs, ℤ, pos, negsuc, ◌*ℤ◌, neg_ℤ, List}
use Rattle.charge_model.specs.declared.charge.Test.{Test}
use Rattle.charge_model.specs.declared.charge.Test.TheVariants.{AboveMinus, AbovePlus, BelowMinus, BelowPlus}
use Rattle.charge_model.specs.declared.TheConstants.{MAX_SITES, MAX_FIXED, MAX_FIXED_CHARGE}
use Rattle.charge_model.specs.Problem.{Problem}
use Rattle.charge_model.specs.Rules.{sum_below}
use Rattle.linear_form.specs.Forms.{coefficient_at}

-- with which sign the potential stands in a test's slack
abbrev pub sign_of : Test → ℤ
sign_of AboveMinus = pos 1
sign_of AbovePlus = pos 1
sign_of BelowMinus = negsuc 0
sign_of BelowPlus = negsuc 0

-- the level of a test, with the sign that it has in the slack
abbrev pub constant_of : Problem → Test → ℤ
constant_of p AboveMinus = neg_ℤ p.mu_minus
constant_of p AbovePlus = neg_ℤ p.mu_plus
constant_of p BelowMinus = p.mu_minus
constant_of p BelowPlus = p.mu_plus

-- of two ends, the first for a coefficient of at least 0, and the second for one below 0
abbrev pub pick : ℤ → ℤ → ℤ → ℤ
pick (pos k) x y = x
pick (negsuc k) x y = y

-- the sum over the classes below n of the coefficient times the end that it picks
abbrev pub picked_below : ℕ → List ℤ → (ℕ → ℤ) → (ℕ → ℤ) → ℤ
picked_below n ks x y =
    sum_below n (λ c. coefficient_at ks c *ℤ pick (coefficient_at ks c) (x c) (y c))

-- the greatest weight of a potential: each site once, and each fixed charge as often as its size
abbrev pub potential_weight : ℕ
potential_weight = MAX_SITES + MAX_FIXED * unsigned_abs MAX_FIXED_CHARGE
