-- the arithmetic and the geometric mean, over sums of a number for each pair of entries
use Rattle.std.proofs.Common.{◌≡◌, ℕ, zero, suc, ◌+◌, ◌-◌, ◌*◌, ◌<◌, ◌≤◌, ◌⊎◌, inl, inr, List, [], ◌∷◌, refl, subst, arith}
use Rattle.std.proofs.lemmas.Bool.{cases_lt}
use Rattle.std.proofs.Math.Nat.{mul-le-mul, mul-le-mul_right}
use Rattle.charge_model.specs.declared.charge.Charge.{Charge}
use Rattle.occupation.proofs.FactorLemmas.{cancel}

four_below : (P d : ℕ) → 4 * (P * (P + d)) ≤ (P + (P + d)) * (P + (P + d))
four_below P d = omega arith

four_products : (P Q : ℕ) → 4 * (P * Q) ≤ (P + Q) * (P + Q)
four_products P Q = by (cases_lt P Q) where
  by : (P < Q) ⊎ (Q ≤ P) → 4 * (P * Q) ≤ (P + Q) * (P + Q)
  by (inl less) =
      let same : P + (Q - P) ≡ Q = omega (arith, less) in
      subst (λ (q : ℕ). 4 * (P * q) ≤ (P + q) * (P + q)) same (four_below P (Q - P))
  by (inr more) =
      let same : Q + (P - Q) ≡ P = omega (arith, more) in
      let turned = four_below Q (P - Q) in
      subst (λ (q : ℕ). 4 * (q * Q) ≤ (q + Q) * (q + Q)) same (omega (arith, turned))

pub root_below : (u v : ℕ) → u * u ≤ v * v → u ≤ v
root_below u v squares = by (cases_lt v u) where
  by : (v < u) ⊎ (u ≤ v) → u ≤ v
  by (inl less) =
      let greater : suc v * suc v ≤ u * u = mul-le-mul less less in
      absurd (omega (arith, greater, squares))
  by (inr is) = is

squares_of : (a b x y : ℕ) → (a * (x * x)) * (b * (y * y)) ≡ a * b * ((x * y) * (x * y))
squares_of a b x y = omega arith

doubled : (o k : ℕ) → (2 * o * k) * (2 * o * k) ≡ 4 * (o * o * (k * k))
doubled o k = omega arith

-- factors whose product is at least 1 weigh the squares of two numbers to at least twice their product
means : (o a b x y : ℕ) → o * o ≤ a * b → 2 * o * (x * y) ≤ a * (x * x) + b * (y * y)
means o a b x y product =
    let P = a * (x * x) in
    let Q = b * (y * y) in
    let k = (x * y) * (x * y) in
    let more : o * o * k ≤ a * b * k = mul-le-mul_right k product in
    let four = four_products P Q in
    root_below (2 * o * (x * y)) (P + Q) (omega (arith, more, four, squares_of a b x y, doubled o (x * y)))

-- h is a number for each pair of entries, x one for each entry
module _ (h : List Charge → List Charge → ℕ) (x : List Charge → ℕ) where
  abbrev weight : List Charge → List Charge → ℕ
  weight c e = h c e * (x c * x c)

  abbrev pub numbers : List (List Charge) → ℕ
  numbers [] = 0
  numbers (e ∷ es) = x e + numbers es

  abbrev pub row : List Charge → List (List Charge) → ℕ
  row c [] = 0
  row c (e ∷ es) = weight c e + row c es

  abbrev column : List Charge → List (List Charge) → ℕ
  column e [] = 0
  column e (c ∷ cs) = weight c e + column e cs

  abbrev pub total : List (List Charge) → List (List Charge) → ℕ
  total [] es = 0
  total (c ∷ cs) es = row c es + total cs es

  columns : (cs es : List (List Charge)) (e : List Charge) → total cs (e ∷ es) ≡ column e cs + total cs es
  columns [] es e = refl
  columns (c ∷ cs) es e = let rest = columns cs es e in omega (arith, rest)

  module _ (o : ℕ) (product : (c e : List Charge) → o * o ≤ h c e * h e c) (own : (c : List Charge) → o ≤ h c c) where
    pair : (c e : List Charge) → 2 * o * (x c * x e) ≤ weight c e + weight e c
    pair c e = means o (h c e) (h e c) (x c) (x e) (product c e)

    both : (c : List Charge) (es : List (List Charge)) → 2 * o * (x c * numbers es) ≤ row c es + column c es
    both c [] = omega arith
    both c (e ∷ es) = let rest = both c es in let first = pair c e in omega (arith, rest, first)

    pub square : (es : List (List Charge)) → o * (numbers es * numbers es) ≤ total es es
    square [] = omega arith
    square (e ∷ es) =
        let rest = square es in
        let cross = both e es in
        let corner : o * (x e * x e) ≤ weight e e = mul-le-mul_right (x e * x e) (own e) in
        let split = columns es es e in
        omega (arith, rest, cross, corner, split)

-- a number whose square is at most a multiple of it
pub at_most_whole : (o w n : ℕ) → 1 ≤ o → o * (n * n) ≤ w * o * n → n ≤ w
at_most_whole o w zero some product = omega arith
at_most_whole o w (suc n) some product =
    let one : 1 ≤ suc n = omega arith in
    let positive : 1 * 1 ≤ o * suc n = mul-le-mul some one in
    cancel (o * suc n) (suc n) w positive (omega (arith, product))
