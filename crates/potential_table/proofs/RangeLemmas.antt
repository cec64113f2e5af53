-- The numbers of a problem are few.
use Rattle.std.proofs.Common.{◌≡◌, ◌∙◌, ap, ℕ, ℤ, pos, ◌≤ℤ◌, to_z, zero, suc, ◌+◌, ◌*◌, ◌<◌, ◌≤◌, length, w64, arith}
use Rattle.std.specs.Int.RustNames.{FitsSigned}
use Rattle.std.proofs.Math.Nat.{mul-le-mul_right}
use Rattle.charge_model.specs.Problem.{Problem, IsProblem, pairs_before, fixed_count}
use Rattle.std.proofs.lemmas.Int.{ints, to_z_pos}
use Rattle.charge_model.specs.declared.TheConstants.{MAX_POTENTIAL}
use Rattle.text_rows.specs.Rows.{IsShort}
use Rattle.text_rows.proofs.Numbers.{short_fits}
use Rattle.table_lines.specs.declared.line.TableLine.TheVariants.{Pair, Near}

pairs_few : (n i : ℕ) → pairs_before n i ≤ i * n
pairs_few n zero = omega arith
pairs_few n (suc i) = omega (arith, pairs_few n i)

-- there are few classes
classes_few : (n f : ℕ) → n ≤ 64 → f ≤ 8 → pairs_before n n + n * f ≤ 4608
classes_few n f h k =
    let square = mul-le-mul_right n h in
    let near = mul-le-mul_right n k in
    let turned : n * f ≡ f * n = omega arith in
    omega (arith, pairs_few n n, square, near, turned)

pub class_few : (p : Problem) (c : ℕ) → IsProblem p → c < length p.spans → c < 4608
class_few p c is h = omega (arith, h, is.few_classes, classes_few p.sites (fixed_count p) is.few_sites is.few_fixed)

pub few_fits : (n : ℕ) → n < 4608 → FitsSigned w64 (pos n)
few_fits n h = short_fits (pos n) (omega (arith, h))

few_same : (n : ℕ) → n < 4608 → to_z w64 n ≡ pos n
few_same n h = to_z_pos w64 n (omega (arith, h))

-- the line of a pair, and of a site and a fixed charge, as the code makes it
pub pair_is : (i j c d : ℕ) → i < 64 → j < 64 → c < 4608 → c ≡ d → Pair (to_z w64 i) (to_z w64 j) (to_z w64 c) ≡ Pair (pos i) (pos j) (pos d)
pair_is i j c d h k few same =
    ap (λ z. Pair z (to_z w64 j) (to_z w64 c)) (few_same i (omega (arith, h))) ∙ ap (λ z. Pair (pos i) z (to_z w64 c)) (few_same j (omega (arith, k))) ∙ ap (λ z. Pair (pos i) (pos j) z) (few_same c few ∙ ap pos same)

pub near_is : (i a c d : ℕ) → i < 64 → a < 8 → c < 4608 → c ≡ d → Near (to_z w64 i) (to_z w64 a) (to_z w64 c) ≡ Near (pos i) (pos a) (pos d)
near_is i a c d h k few same =
    ap (λ z. Near z (to_z w64 a) (to_z w64 c)) (few_same i (omega (arith, h))) ∙ ap (λ z. Near (pos i) z (to_z w64 c)) (few_same a (omega (arith, k))) ∙ ap (λ z. Near (pos i) (pos a) z) (few_same c few ∙ ap pos same)

-- a potential is a short number
pub short_potential : (z : ℤ) → pos 0 ≤ℤ z → z ≤ℤ MAX_POTENTIAL → IsShort z
short_potential z h k = omega (arith, ints, h, k)
