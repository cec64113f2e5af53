-- The value, where the code keeps it below a cap.
use Rattle.std.proofs.Common.{◌≡◌, ◌∙◌, ℕ, ◌+◌, ◌-◌, ◌*◌, ◌^◌, ◌<◌, ◌≤◌, ◌⊎◌, List, [], ◌∷◌, ◌++◌, length, take, drop, fold, min, sym, ap, inl, inr, arith, rules, Option, Some, None, Result, IfOk, IfErr, IfSome, IfNone, ok_or, length-drop}
use Rattle.std.proofs.lemmas.List.{take_all, drop_all}
use Rattle.std.proofs.lemmas.List.Sums.{fold-append}
use Rattle.std.proofs.lemmas.Bool.{cases_lt}
use Rattle.std.proofs.Math.Nat.{mul-le-mul_left, mul-le-mul_right, one-le-pow}
use Rattle.sidb_units.specs.Decimal.{next_digit}

abbrev pub cap : ℕ
cap = 2 ^ 64

pub capped : (ds : List ℕ) (n : ℕ) → min (fold next_digit (min n cap) ds) cap ≡ min (fold next_digit n ds) cap
capped [] n = omega arith
capped (b ∷ ds) n =
    let e : min (next_digit (min n cap) b) cap ≡ min (next_digit n b) cap = omega arith in
    sym (capped ds (next_digit (min n cap) b)) ∙ ap (λ (m : ℕ). min (fold next_digit m ds) cap) e ∙ capped ds (next_digit n b)

pub joined : (xs ys : List ℕ) (a b : ℕ) → a ≡ min (fold next_digit 0 xs) cap → b ≡ min (fold next_digit a ys) cap → b ≡ min (fold next_digit 0 (xs ++ ys)) cap
joined xs ys a b is at = rw fold-append (at ∙ ap (λ (m : ℕ). min (fold next_digit m ys) cap) is ∙ capped ys (fold next_digit 0 xs))

ten_positive : (k : ℕ) → 1 ≤ 10 ^ k
ten_positive k = search (rules, one-le-pow)

-- a value that times a power is below the cap is the number itself
pub uncapped : (n v k : ℕ) → v ≡ min n cap → v * 10 ^ k < cap → n * 10 ^ k ≡ v * 10 ^ k
uncapped n v k is small = elim (cases_lt n cap) [
  | inl h ↦ let e : n ≡ v = omega arith in ap (λ (m : ℕ). m * 10 ^ k) e
  | inr h ↦ absurd (let e : v ≡ cap = omega arith in omega (arith, mul-le-mul_left cap (ten_positive k), ap (λ (m : ℕ). m * 10 ^ k) e))
]

capped_le : (n v : ℕ) → v ≡ min n cap → v ≤ n
capped_le n v is = omega arith

-- a number outside the range is outside where it is capped, and the other way round
pub outside : (n v k least greatest : ℕ) → v ≡ min n cap → least < cap → greatest < cap → (v * 10 ^ k < least) ⊎ (greatest < v * 10 ^ k) → (n * 10 ^ k < least) ⊎ (greatest < n * 10 ^ k)
outside n v k least greatest is low high (inl h) = let exact = uncapped n v k is (omega arith) in inl (omega arith)
outside n v k least greatest is low high (inr h) = inr (omega (arith, mul-le-mul_right (10 ^ k) (capped_le n v is)))

pub either_end : {E : Type 0} (o : Option ℕ) (r : Result ℕ E) (e : E) (A P : ℕ → Type 0) (B : Type 0) (Q : E → Type 0) → r ≡ ok_or o e → IfSome o A → IfNone o B → ((v : ℕ) → A v → P v) → (B → Q e) → IfOk r P × IfErr r Q
either_end (Some v) r e A P B Q is some none good bad = rw is (good v some, tt)
either_end None r e A P B Q is some none good bad = rw is (tt, bad none)

dropped : (text : List ℕ) (m k : ℕ) → m ≡ min k (length text) → drop m text ≡ drop k text
dropped text m k is = elim (cases_lt k (length text)) [
  | inl h ↦ let e : m ≡ k = omega arith in ap (λ (i : ℕ). drop i text) e
  | inr h ↦ drop_all m text (omega arith) ∙ sym (drop_all k text h)
]

pub tail_is : (text : List ℕ) (m w : ℕ) → m ≡ min (w + 1) (length text) → take (length text - m) (drop m text) ≡ drop (w + 1) text
tail_is text m w is = take_all (length text - m) (drop m text) (simp length-drop (omega arith)) ∙ dropped text m (w + 1) is
