-- Lines of a pair, and of a site and a fixed charge, in fine lines.
use Rattle.std.proofs.Common.{◌≡◌, ◌∙◌, sym, ap, refl, subst, ℕ, ℤ, pos, negsuc, ◌+◌, ◌*◌, ◌<◌, ◌≤ℤ◌, ◌<ℤ◌, List, [], length, true, not, ◌&&◌, cond, Option, None, Some, arith, int_lt, unsigned_abs, w64, to_z, of_z, set, length-set}
use Rattle.std.specs.Option.{option_or, is_some}
use Rattle.std.specs.Vec.{with_item}
use Rattle.std.proofs.lemmas.Int.{ints}
use Rattle.std.proofs.lemmas.Bool.Decides.{nat_tests}
use Rattle.std.proofs.lemmas.List.{append-nil}
use Rattle.charge_model.specs.declared.TheConstants.{MAX_SITES, MAX_FIXED}
use Rattle.table_lines.specs.declared.fault.TableFault.{TableFault}
use Rattle.table_lines.specs.declared.line.TableLine.{TableLine}
use Rattle.table_lines.specs.declared.line.TableLine.TheVariants.{Class, Pair, Near}
use Rattle.table_lines.specs.declared.seen.Seen.{Seen}
use Rattle.table_lines.specs.Kinds.{site_count_in, fixed_of, spans_of, pair_in, pair_class, near_in, near_class}
use Rattle.table_lines.specs.Ranges.{is_below, is_pair}
use Rattle.table_lines.specs.FineLines.{AreFineTableLines, IsFineTableLine}
use Rattle.table_lines.specs.Seen.{cell_at, IsCounted, Notes, ends_of}
use Rattle.table_lines.proofs.LineLemmas.{fit}
use Rattle.table_lines.proofs.KindLemmas.{or_false, or_none}
use Rattle.table_lines.proofs.GridLemmas.{filled, places_64, places_8}
use Rattle.table_lines.proofs.Sound.{sound, faultless, IsFaultless}
use Rattle.text_rows.proofs.RowLemmas.{and_parts}

pub pos_abs : (z : ℤ) → pos 0 ≤ℤ z → z ≡ pos (unsigned_abs z)
pos_abs (pos n) h = refl
pos_abs (negsuc n) h = absurd (omega (arith, ints, h))

pub below : (n z : ℤ) → is_below n z ≡ true → (pos 0 ≤ℤ z) × (z <ℤ n)
below n z h = grind (arith, ints, nat_tests)

pub from_zero : (z : ℤ) → not (int_lt z (pos 0)) ≡ true → pos 0 ≤ℤ z
from_zero z h = grind (arith, ints, nat_tests)

pub less : (y z : ℤ) → int_lt y z ≡ true → y <ℤ z
less y z h = grind (arith, ints, nat_tests)

none_there : (o : Option ℤ) (x : TableFault) → cond (is_some o) (Some x) None ≡ None → o ≡ None
none_there None x e = refl
none_there (Some c) x e = absurd (cc e)

-- a new pair in range
pub record IsNewPair (ls : List TableLine) (i j c : ℤ) : Type 0 where
  pub i_low : pos 0 ≤ℤ i
  pub order : i <ℤ j
  pub j_high : j <ℤ site_count_in ls
  pub c_low : pos 0 ≤ℤ c
  pub c_high : c <ℤ pos (length (spans_of ls))
  pub none : pair_class ls i j ≡ None

pub new_pair : (ls : List TableLine) (i j c : ℤ) → IsFaultless ls (Pair i j c) → IsNewPair ls i j c
new_pair ls i j c ok =
    let a = and_parts (is_pair (site_count_in ls) i j) _ ok.in_range in
    let b = and_parts (not (int_lt i (pos 0)) && int_lt i j) _ a.0 in
    let d = and_parts (not (int_lt i (pos 0))) _ b.0 in
    let class = below _ _ a.1 in
    record { i_low = from_zero i d.0; order = less i j d.1; j_high = less _ _ b.1; c_low = class.0; c_high = class.1; none = none_there _ _ ok.once }

-- a new site and fixed charge in range
pub record IsNewNear (ls : List TableLine) (i a c : ℤ) : Type 0 where
  pub i_low : pos 0 ≤ℤ i
  pub i_high : i <ℤ site_count_in ls
  pub a_low : pos 0 ≤ℤ a
  pub a_high : a <ℤ fixed_of ls
  pub c_low : pos 0 ≤ℤ c
  pub c_high : c <ℤ pos (length (spans_of ls))
  pub none : near_class ls i a ≡ None

pub new_near : (ls : List TableLine) (i a c : ℤ) → IsFaultless ls (Near i a c) → IsNewNear ls i a c
new_near ls i a c ok =
    let h = and_parts (is_below (site_count_in ls) i && is_below (fixed_of ls) a) _ ok.in_range in
    let k = and_parts (is_below (site_count_in ls) i) _ h.0 in
    let site = below _ _ k.0 in
    let charge = below _ _ k.1 in
    let class = below _ _ h.1 in
    record { i_low = site.0; i_high = site.1; a_low = charge.0; a_high = charge.1; c_low = class.0; c_high = class.1; none = none_there _ _ ok.once }

-- the numbers of the line are those that the code reads
pub record IsPairRead (ls : List TableLine) (i j c : ℤ) : Type 0 where
  pub i_fits : to_z w64 (of_z w64 i) ≡ i
  pub j_fits : to_z w64 (of_z w64 j) ≡ j
  pub c_fits : to_z w64 (of_z w64 c) ≡ c
  pub i_low : pos 0 ≤ℤ i
  pub i_high : i <ℤ pos MAX_SITES
  pub j_low : pos 0 ≤ℤ j
  pub j_high : j <ℤ pos MAX_SITES
  pub none : pair_class ls i j ≡ None

pub pair_read : (ls : List TableLine) (line : TableLine) (i j c : ℤ) → AreFineTableLines [] ls → IsFineTableLine ls line → line ≡ Pair i j c → IsPairRead ls i j c
pair_read ls line i j c fine at is =
    let here : IsFineTableLine ls (Pair i j c) = subst (IsFineTableLine ls) is at in
    let new = new_pair ls i j c (faultless ls _ (Pair i j c) here.faultless) in
    let s = sound ls fine in
    record { i_fits = fit i here.short.0; j_fits = fit j here.short.1; c_fits = fit c here.short.2; i_low = new.i_low; i_high = omega (arith, ints, new.order, new.j_high, s.sites_high); j_low = omega (arith, ints, new.i_low, new.order); j_high = omega (arith, ints, new.j_high, s.sites_high); none = new.none }

pub record IsNearRead (ls : List TableLine) (i a c : ℤ) : Type 0 where
  pub i_fits : to_z w64 (of_z w64 i) ≡ i
  pub a_fits : to_z w64 (of_z w64 a) ≡ a
  pub c_fits : to_z w64 (of_z w64 c) ≡ c
  pub i_low : pos 0 ≤ℤ i
  pub i_high : i <ℤ pos MAX_SITES
  pub a_low : pos 0 ≤ℤ a
  pub a_high : a <ℤ pos MAX_FIXED
  pub none : near_class ls i a ≡ None

pub near_read : (ls : List TableLine) (line : TableLine) (i a c : ℤ) → AreFineTableLines [] ls → IsFineTableLine ls line → line ≡ Near i a c → IsNearRead ls i a c
near_read ls line i a c fine at is =
    let here : IsFineTableLine ls (Near i a c) = subst (IsFineTableLine ls) is at in
    let new = new_near ls i a c (faultless ls _ (Near i a c) here.faultless) in
    let s = sound ls fine in
    record { i_fits = fit i here.short.0; a_fits = fit a here.short.1; c_fits = fit c here.short.2; i_low = new.i_low; i_high = omega (arith, ints, new.i_high, s.sites_high); a_low = new.a_low; a_high = omega (arith, ints, new.a_high, s.fixed_high); none = new.none }

abs_below : (z : ℤ) (n : ℕ) → pos 0 ≤ℤ z → z <ℤ pos n → unsigned_abs z < n
abs_below z n h k = omega (arith, ints)

-- the cell of the pair is filled
pub notes_pair : (old : Seen) (i j c : ℤ) (at : ℕ) → IsCounted old → IsPairRead old.lines.items i j c → at ≡ unsigned_abs i * MAX_SITES + unsigned_abs j → Notes old (record old { pairs = with_item old.pairs at (Some c) }) (Pair i j c)
notes_pair old i j c at counted read place =
    let i_is = pos_abs i read.i_low in
    let j_is = pos_abs j read.j_low in
    let i_below = abs_below i MAX_SITES read.i_low read.i_high in
    let j_below = abs_below j MAX_SITES read.j_low read.j_high in
    let none : cell_at MAX_SITES old.pairs.items (unsigned_abs i) (unsigned_abs j) ≡ None =
    counted.pairs (unsigned_abs i) (unsigned_abs j) i_below j_below ∙ ap (λ x. pair_class old.lines.items x (pos (unsigned_abs j))) (sym i_is) ∙ ap (λ x. pair_class old.lines.items i x) (sym j_is) ∙ read.none in
    let within : unsigned_abs i * MAX_SITES + unsigned_abs j < length old.pairs.items = omega (arith, counted.all_pairs, i_below, j_below) in
    record {
      lines = refl;
      second = sym (or_false old.second);
      sites = refl;
      fixed = refl;
      base = refl;
      minus = refl;
      plus = refl;
      charges = sym (append-nil old.charges.items);
      spans = sym (append-nil (ends_of old.spans.items));
      all_pairs = length-set old.pairs.items at (Some c);
      pairs = λ k l h g.
          ap (λ n. cell_at MAX_SITES (set old.pairs.items n (Some c)) k l) place
          ∙ filled MAX_SITES old.pairs.items (unsigned_abs i) (unsigned_abs j) k l c places_64 j_below g within none
          ∙ ap (λ x. option_or (cell_at MAX_SITES old.pairs.items k l) (pair_in (pos k) (pos l) (Pair x (pos (unsigned_abs j)) c))) (sym i_is)
          ∙ ap (λ x. option_or (cell_at MAX_SITES old.pairs.items k l) (pair_in (pos k) (pos l) (Pair i x c))) (sym j_is);
      all_near = refl;
      near = λ k b h g. sym (or_none (cell_at MAX_FIXED old.near.items k b));
    }

-- the cell of the site and the fixed charge is filled
pub notes_near : (old : Seen) (i a c : ℤ) (at : ℕ) → IsCounted old → IsNearRead old.lines.items i a c → at ≡ unsigned_abs i * MAX_FIXED + unsigned_abs a → Notes old (record old { near = with_item old.near at (Some c) }) (Near i a c)
notes_near old i a c at counted read place =
    let i_is = pos_abs i read.i_low in
    let a_is = pos_abs a read.a_low in
    let i_below = abs_below i MAX_SITES read.i_low read.i_high in
    let a_below = abs_below a MAX_FIXED read.a_low read.a_high in
    let none : cell_at MAX_FIXED old.near.items (unsigned_abs i) (unsigned_abs a) ≡ None =
    counted.near (unsigned_abs i) (unsigned_abs a) i_below a_below ∙ ap (λ x. near_class old.lines.items x (pos (unsigned_abs a))) (sym i_is) ∙ ap (λ x. near_class old.lines.items i x) (sym a_is) ∙ read.none in
    let within : unsigned_abs i * MAX_FIXED + unsigned_abs a < length old.near.items = omega (arith, counted.all_near, i_below, a_below) in
    record {
      lines = refl;
      second = sym (or_false old.second);
      sites = refl;
      fixed = refl;
      base = refl;
      minus = refl;
      plus = refl;
      charges = sym (append-nil old.charges.items);
      spans = sym (append-nil (ends_of old.spans.items));
      all_pairs = refl;
      pairs = λ k l h g. sym (or_none (cell_at MAX_SITES old.pairs.items k l));
      all_near = length-set old.near.items at (Some c);
      near = λ k b h g.
          ap (λ n. cell_at MAX_FIXED (set old.near.items n (Some c)) k b) place
          ∙ filled MAX_FIXED old.near.items (unsigned_abs i) (unsigned_abs a) k b c places_8 a_below g within none
          ∙ ap (λ x. option_or (cell_at MAX_FIXED old.near.items k b) (near_in (pos k) (pos b) (Near x (pos (unsigned_abs a)) c))) (sym i_is)
          ∙ ap (λ x. option_or (cell_at MAX_FIXED old.near.items k b) (near_in (pos k) (pos b) (Near i x c))) (sym a_is);
    }

-- the numbers of a class line are those that the code reads
pub class_read : (ls : List TableLine) (line : TableLine) (lo hi : ℤ) → IsFineTableLine ls line → line ≡ Class lo hi → (to_z w64 (of_z w64 lo) ≡ lo) × (to_z w64 (of_z w64 hi) ≡ hi)
class_read ls line lo hi at is =
    let here : IsFineTableLine ls (Class lo hi) = subst (IsFineTableLine ls) is at in
    (fit lo here.short.0, fit hi here.short.1)
