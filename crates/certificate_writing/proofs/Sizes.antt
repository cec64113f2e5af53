-- how large potentials and slacks are under a table of scale 1
use Rattle.std.proofs.Common.{◌≡◌, ◌≢◌, ap, sym, subst, ℕ, zero, suc, ◌<◌, ◌≤◌, ◌*◌, ◌^◌, ◌⊎◌, inl, inr, List, length, ℤ, pos, negsuc, neg_ℤ, ◌+ℤ◌, ◌-ℤ◌, ◌*ℤ◌, ◌≤ℤ◌, Bool, if◌then◌else◌, ◌==◌, arith}
use Rattle.std.specs.Prelude.{unsigned_abs}
use Rattle.std.proofs.lemmas.Int.{ints}
use Rattle.std.proofs.lemmas.Bool.{cases_eq, eq-eqb, ne_eqb}
use Rattle.std.proofs.lemmas.List.Elements.{All-get_or}
use Rattle.charge_model.specs.declared.charge.Charge.{Charge}
use Rattle.charge_model.specs.declared.charge.Charge.TheVariants.{Neg, Neutral, Pos}
use Rattle.charge_model.specs.declared.charge.Test.{Test}
use Rattle.charge_model.specs.declared.charge.Test.TheVariants.{AboveMinus, AbovePlus, BelowMinus, BelowPlus}
use Rattle.charge_model.specs.Charges.{charge_at, number_at, number_of, hopped}
use Rattle.charge_model.specs.Problem.{Problem, Table, IsTable, IsProblem, IsFixedCharge, lo_in, hi_in, class_of, near_class_of, fixed_count, fixed_at}
use Rattle.charge_model.specs.Rules.{sum_below, energy, potential_from, potential_below, fixed_potential, potential_at, test_slack, hop_slack, slack, Inequality, at_site, by_hop, IsInequalityOf}
use Rattle.charge_model.proofs.Pairs.{class_below, near_below}
use Rattle.text_rows.specs.Rows.{IsShort}

-- x is from -n to n
abbrev pub IsUpTo : ℕ → ℤ → Type 0
IsUpTo n x = (neg_ℤ (pos n) ≤ℤ x) × (x ≤ℤ pos n)

charged : (n : ℕ) (u : ℤ) (a : Charge) → pos 0 ≤ℤ u → u ≤ℤ pos n → IsUpTo n (u *ℤ number_of a)
charged n u Neg low high = (omega (arith, ints, low, high), omega (arith, ints, low, high))
charged n u Neutral low high = (omega (arith, ints), omega (arith, ints))
charged n u Pos low high = (omega (arith, ints, low, high), omega (arith, ints, low, high))

fixed_by : (n : ℕ) (u q : ℤ) → pos 0 ≤ℤ u → u ≤ℤ pos n → neg_ℤ (pos 3) ≤ℤ q → q ≤ℤ pos 3 → IsUpTo (3 * n) (u *ℤ q)
fixed_by n u (pos zero) low high least most = (omega (arith, ints, low, high), omega (arith, ints, low, high))
fixed_by n u (pos (suc zero)) low high least most = (omega (arith, ints, low, high), omega (arith, ints, low, high))
fixed_by n u (pos (suc (suc zero))) low high least most = (omega (arith, ints, low, high), omega (arith, ints, low, high))
fixed_by n u (pos (suc (suc (suc zero)))) low high least most = (omega (arith, ints, low, high), omega (arith, ints, low, high))
fixed_by n u (pos (suc (suc (suc (suc k))))) low high least most = absurd (omega (arith, ints, most))
fixed_by n u (negsuc zero) low high least most = (omega (arith, ints, low, high), omega (arith, ints, low, high))
fixed_by n u (negsuc (suc zero)) low high least most = (omega (arith, ints, low, high), omega (arith, ints, low, high))
fixed_by n u (negsuc (suc (suc zero))) low high least most = (omega (arith, ints, low, high), omega (arith, ints, low, high))
fixed_by n u (negsuc (suc (suc (suc k)))) low high least most = absurd (omega (arith, ints, least))

summed : (many n : ℕ) (f : ℕ → ℤ) → ((k : ℕ) → k < many → IsUpTo n (f k)) → IsUpTo (many * n) (sum_below many f)
summed zero n f each = (omega (arith, ints), omega (arith, ints))
summed (suc many) n f each =
    let rest = summed many n f (λ k l. each k (omega (arith, l))) in
    let here = each many (omega arith) in (omega (arith, ints, rest, here), omega (arith, ints, rest, here))

-- short numbers
pub short : (n : ℕ) (x : ℤ) → IsUpTo n x → n < 10 ^ 17 → IsShort x
short n x h few = omega (arith, ints, h, few)

module _ (p : Problem) (is : IsProblem p) (t : Table) (table : IsTable p t) (one : t.scale ≡ 1) where
  number_low : (k : ℕ) → k < length p.spans → pos 0 ≤ℤ t.potential k
  number_low k l =
      let above = subst (λ s. (pos s *ℤ lo_in p.spans k) ≤ℤ t.potential k) one (table.above k l) in
      let least = (is.spans k l).0 in omega (arith, ints, above, least)

  number_high : (k : ℕ) → k < length p.spans → t.potential k ≤ℤ pos (10 ^ 13)
  number_high k l =
      let below = subst (λ s. t.potential k ≤ℤ (pos s *ℤ hi_in p.spans k)) one (table.below k l) in
      let most = (is.spans k l).2 in omega (arith, ints, below, most)

  from_site : (cs : List Charge) (i j : ℕ) → i < p.sites → j < p.sites → IsUpTo (10 ^ 13) (if j == i then pos 0 else potential_from p t cs i j)
  from_site cs i j l m = by (cases_eq j i)
    where
      by : (j ≡ i) ⊎ (j ≢ i) → IsUpTo (10 ^ 13) (if j == i then pos 0 else potential_from p t cs i j)
      by (inl same) = rw (eq-eqb j i same) (omega (arith, ints), omega (arith, ints))
      by (inr other) =
          let k = class_of p i j in
          let within = class_below p i j is (λ e. other (sym e)) l m in
          rw (ne_eqb j i other) (charged (10 ^ 13) (t.potential k) (charge_at cs j) (number_low k within) (number_high k within))

  from_fixed : (i a : ℕ) → i < p.sites → a < fixed_count p → IsUpTo (3 * 10 ^ 13) (t.potential (near_class_of p i a) *ℤ fixed_at p a)
  from_fixed i a l m =
      let k = near_class_of p i a in
      let within = near_below p i a is l m in
      let charge = All-get_or IsFixedCharge p.fixed_charges a (pos 0) m is.fixed in
      fixed_by (10 ^ 13) (t.potential k) (fixed_at p a) (number_low k within) (number_high k within) charge.least charge.greatest

  potential_size : (cs : List Charge) (i : ℕ) → i < p.sites → IsUpTo (88 * 10 ^ 13) (potential_at p t cs i)
  unfolding potential_at
  potential_size cs i l =
      let sites = summed p.sites (10 ^ 13) (λ j. if j == i then pos 0 else potential_from p t cs i j) (λ j m. from_site cs i j l m) in
      let fixed = summed (fixed_count p) (3 * 10 ^ 13) (λ a. t.potential (near_class_of p i a) *ℤ fixed_at p a) (λ a m. from_fixed i a l m) in
      let few = is.few_sites in
      let few_fixed = is.few_fixed in (omega (arith, ints, sites, fixed, few, few_fixed), omega (arith, ints, sites, fixed, few, few_fixed))

  test_size : (cs : List Charge) (i : ℕ) (k : Test) → i < p.sites → IsUpTo (89 * 10 ^ 13) (test_slack p cs i k t)
  test_size cs i k l = by k
    where
      size : IsUpTo (88 * 10 ^ 13) (potential_at p t cs i)
      size = potential_size cs i l

      minus : pos t.scale *ℤ p.mu_minus ≡ pos 1 *ℤ p.mu_minus
      minus = ap (λ n. pos n *ℤ p.mu_minus) one

      plus : pos t.scale *ℤ p.mu_plus ≡ pos 1 *ℤ p.mu_plus
      plus = ap (λ n. pos n *ℤ p.mu_plus) one

      by : (k : Test) → IsUpTo (89 * 10 ^ 13) (test_slack p cs i k t)
      by AboveMinus = let levels = is.levels in let least = is.least_level in let most = is.greatest_level in let v = size in (omega (arith, ints, v, minus, levels, least, most), omega (arith, ints, v, minus, levels, least, most))
      by AbovePlus = let levels = is.levels in let least = is.least_level in let most = is.greatest_level in let v = size in (omega (arith, ints, v, plus, levels, least, most), omega (arith, ints, v, plus, levels, least, most))
      by BelowMinus = let levels = is.levels in let least = is.least_level in let most = is.greatest_level in let v = size in (omega (arith, ints, v, minus, levels, least, most), omega (arith, ints, v, minus, levels, least, most))
      by BelowPlus = let levels = is.levels in let least = is.least_level in let most = is.greatest_level in let v = size in (omega (arith, ints, v, plus, levels, least, most), omega (arith, ints, v, plus, levels, least, most))

  module _ (small : (cs : List Charge) → unsigned_abs (energy p t cs) ≤ t.scale * (4096 * 10 ^ 13)) where
    pub short_difference : (a b : List Charge) → IsShort (energy p t a -ℤ energy p t b)
    short_difference a b =
        let first = subst (λ s. unsigned_abs (energy p t a) ≤ s * (4096 * 10 ^ 13)) one (small a) in
        let second = subst (λ s. unsigned_abs (energy p t b) ≤ s * (4096 * 10 ^ 13)) one (small b) in omega (arith, ints, first, second)

    pub short_slack : (cs : List Charge) (q : Inequality) → IsInequalityOf p cs q → IsShort (slack p cs q t)
    short_slack cs (at_site i k) of = short (89 * 10 ^ 13) (test_slack p cs i k t) (test_size cs i k of.0) (omega arith)
    short_slack cs (by_hop i j) of = short_difference (hopped cs i j) cs
