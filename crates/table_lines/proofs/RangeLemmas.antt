-- The numbers that the code tests, against those of the lines.
use Rattle.std.proofs.Common.{◌≡◌, sym, subst, ℕ, ℤ, pos, negsuc, zero, suc, ◌+◌, ◌-◌, ◌*◌, ◌/◌, ◌<◌, ◌≤◌, ◌^◌, ◌≤ℤ◌, ◌<ℤ◌, [], true, not, ◌&&◌, arith, int_lt, w64, to_z, of_z}
use lib.Signed.{mag}
use Rattle.std.proofs.lemmas.Int.{ints, to_z-of_z}
use Rattle.charge_model.specs.Problem.{pairs_before}
use Rattle.charge_model.specs.declared.TheConstants.{MAX_SITES, MAX_FIXED}
use Rattle.table_lines.specs.declared.line.TableLine.{TableLine}
use Rattle.table_lines.specs.declared.line.TableLine.TheVariants.{Pair, Near}
use Rattle.table_lines.specs.declared.seen.Seen.{Seen}
use Rattle.table_lines.specs.Kinds.{site_count_in, fixed_of}
use Rattle.table_lines.specs.Ranges.{is_below, is_pair, is_table_line_in_range}
use Rattle.table_lines.specs.FineLines.{AreFineTableLines}
use Rattle.table_lines.specs.Seen.{IsCounted}
use Rattle.table_lines.proofs.Sound.{sound}
use Rattle.table_lines.proofs.PlaceLemmas.{below, from_zero, less}
use Rattle.text_rows.proofs.RowLemmas.{and_parts}

pub twice_pairs : (n i : ℕ) → i ≤ n → 2 * pairs_before n i + i * (i + 1) ≡ 2 * (i * n)
twice_pairs n zero h = omega arith
twice_pairs n (suc i) h = omega (arith, twice_pairs n i (omega arith))

-- the pairs of n sites
pub pairs_of : (n : ℕ) → (n * n - n) / 2 ≡ pairs_before n n
pairs_of n = omega (arith, twice_pairs n n (omega arith))

small_mag : (z : ℤ) → pos 0 ≤ℤ z → z ≤ℤ pos 64 → mag z < 2 ^ 63
small_mag (pos n) h k = omega (arith, ints, k)
small_mag (negsuc n) h k = absurd (omega (arith, ints, h))

-- a small number is an i64
pub small : (z : ℤ) → pos 0 ≤ℤ z → z ≤ℤ pos 64 → to_z w64 (of_z w64 z) ≡ z
small z h k = to_z-of_z w64 z (record { sfits = small_mag z h k })

-- the numbers of sites and of fixed charges that the code keeps
pub record AreKept (s : Seen) : Type 0 where
  pub sites_fit : to_z w64 (of_z w64 s.sites) ≡ s.sites
  pub fixed_fit : to_z w64 (of_z w64 s.fixed) ≡ s.fixed
  pub sites_low : pos 0 ≤ℤ s.sites
  pub sites_high : s.sites ≤ℤ pos MAX_SITES
  pub fixed_low : pos 0 ≤ℤ s.fixed
  pub fixed_high : s.fixed ≤ℤ pos MAX_FIXED

pub kept : (s : Seen) → IsCounted s → AreFineTableLines [] s.lines.items → AreKept s
kept s counted fine =
    let is = sound s.lines.items fine in
    let low : pos 0 ≤ℤ s.sites = subst (λ n. pos 0 ≤ℤ n) (sym counted.sites) is.sites_low in
    let high : s.sites ≤ℤ pos MAX_SITES = subst (λ n. n ≤ℤ pos MAX_SITES) (sym counted.sites) is.sites_high in
    let fixed_low : pos 0 ≤ℤ s.fixed = subst (λ n. pos 0 ≤ℤ n) (sym counted.fixed) is.fixed_low in
    let fixed_high : s.fixed ≤ℤ pos MAX_FIXED = subst (λ n. n ≤ℤ pos MAX_FIXED) (sym counted.fixed) is.fixed_high in
    record { sites_fit = small s.sites low high; fixed_fit = small s.fixed fixed_low (omega (arith, ints, fixed_high)); sites_low = low; sites_high = high; fixed_low = fixed_low; fixed_high = fixed_high }

-- a pair in range
pub record IsPairInRange (i j : ℤ) : Type 0 where
  pub i_fits : to_z w64 (of_z w64 i) ≡ i
  pub j_fits : to_z w64 (of_z w64 j) ≡ j
  pub i_low : pos 0 ≤ℤ i
  pub i_high : i <ℤ pos MAX_SITES
  pub j_low : pos 0 ≤ℤ j
  pub j_high : j <ℤ pos MAX_SITES

pub pair_in_range : (s : Seen) (line : TableLine) (i j c : ℤ) → AreFineTableLines [] s.lines.items → is_table_line_in_range s.lines.items line ≡ true → line ≡ Pair i j c → IsPairInRange i j
pair_in_range s line i j c fine range is =
    let here : is_table_line_in_range s.lines.items (Pair i j c) ≡ true = subst (λ l. is_table_line_in_range s.lines.items l ≡ true) is range in
    let few = (sound s.lines.items fine).sites_high in
    let a = and_parts (is_pair (site_count_in s.lines.items) i j) _ here in
    let b = and_parts (not (int_lt i (pos 0)) && int_lt i j) _ a.0 in
    let d = and_parts (not (int_lt i (pos 0))) _ b.0 in
    let i_low = from_zero i d.0 in
    let order = less i j d.1 in
    let under : j <ℤ site_count_in s.lines.items = less j (site_count_in s.lines.items) b.1 in
    let i_high : i <ℤ pos MAX_SITES = omega (arith, ints, order, under, few) in
    let j_high : j <ℤ pos MAX_SITES = omega (arith, ints, under, few) in
    let j_low : pos 0 ≤ℤ j = omega (arith, ints, i_low, order) in
    record { i_fits = small i i_low (omega (arith, ints, i_high)); j_fits = small j j_low (omega (arith, ints, j_high)); i_low = i_low; i_high = i_high; j_low = j_low; j_high = j_high }

-- a site and a fixed charge in range
pub record IsNearInRange (i a : ℤ) : Type 0 where
  pub i_fits : to_z w64 (of_z w64 i) ≡ i
  pub a_fits : to_z w64 (of_z w64 a) ≡ a
  pub i_low : pos 0 ≤ℤ i
  pub i_high : i <ℤ pos MAX_SITES
  pub a_low : pos 0 ≤ℤ a
  pub a_high : a <ℤ pos MAX_FIXED

pub near_in_range : (s : Seen) (line : TableLine) (i a c : ℤ) → AreFineTableLines [] s.lines.items → is_table_line_in_range s.lines.items line ≡ true → line ≡ Near i a c → IsNearInRange i a
near_in_range s line i a c fine range is =
    let here : is_table_line_in_range s.lines.items (Near i a c) ≡ true = subst (λ l. is_table_line_in_range s.lines.items l ≡ true) is range in
    let few = sound s.lines.items fine in
    let h = and_parts (is_below (site_count_in s.lines.items) i && is_below (fixed_of s.lines.items) a) _ here in
    let k = and_parts (is_below (site_count_in s.lines.items) i) _ h.0 in
    let site = below _ _ k.0 in
    let charge = below _ _ k.1 in
    let i_high : i <ℤ pos MAX_SITES = omega (arith, ints, site.1, few.sites_high) in
    let a_high : a <ℤ pos MAX_FIXED = omega (arith, ints, charge.1, few.fixed_high) in
    record { i_fits = small i site.0 (omega (arith, ints, i_high)); a_fits = small a charge.0 (omega (arith, ints, a_high)); i_low = site.0; i_high = i_high; a_low = charge.0; a_high = a_high }
