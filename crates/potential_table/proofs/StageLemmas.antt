-- What the lines so far give, with one more line.
use Rattle.std.proofs.Common.{◌≡◌, ◌∙◌, ap, refl, ℕ, ℤ, pos, ◌<◌, ◌≤ℤ◌, ◌<ℤ◌, List, [], ◌∷◌, ◌++◌, Bool, true, false, not, ◌||◌, cond, int_lt, nat_lt, Some, arith}
use Rattle.std.specs.Prelude.{◌==◌}
use Rattle.std.specs.Ordering.{int_eq}
use Rattle.std.proofs.lemmas.Int.{ints}
use Rattle.std.proofs.lemmas.Bool.Decides.{nat_tests}
use Rattle.charge_model.specs.Problem.{Problem, fixed_count}
use Rattle.table_lines.specs.declared.line.TableLine.{TableLine}
use Rattle.table_lines.specs.Kinds.{is_second, has_fixed_part, sites_after, site_count_in, fixed_after, fixed_of, base_after, base_of, minus_after, minus_of, plus_after, plus_of, fixed_charges_in, spans_of}
use Rattle.table_lines.specs.Order.{may_follow_lines, may_follow_last, ends_or_places, is_class}
use Rattle.table_lines.specs.FineLines.{AreFineTableLines, IsFineTableLine}
use Rattle.table_lines.proofs.KindLemmas.{or_false, last_push, second_push, sites_push, fixed_push, base_push, minus_push, plus_push, charges_push, spans_push}
use Rattle.table_lines.proofs.Sound.{fine_more}

-- the lines are fine, and give the problem's counts and levels, these charges and these spans
pub record AreBegun (p : Problem) (ls : List TableLine) (cs : List ℤ) (ss : List (ℤ × ℤ)) : Type 0 where
  pub fine : AreFineTableLines [] ls
  pub second : has_fixed_part ls ≡ not (fixed_count p == 0)
  pub sites : site_count_in ls ≡ pos p.sites
  pub fixed : fixed_of ls ≡ pos (fixed_count p)
  pub base : base_of ls ≡ pos p.base
  pub minus : minus_of ls ≡ p.mu_minus
  pub plus : plus_of ls ≡ p.mu_plus
  pub charges : fixed_charges_in ls ≡ cs
  pub spans : spans_of ls ≡ ss

-- a line that gives no count and no level
pub record IsPlain (l : TableLine) : Type 0 where
  pub second : is_second l ≡ false
  pub sites : (n : ℤ) → sites_after n l ≡ n
  pub fixed : (n : ℤ) → fixed_after n l ≡ n
  pub base : (n : ℤ) → base_after n l ≡ n
  pub minus : (n : ℤ) → minus_after n l ≡ n
  pub plus : (n : ℤ) → plus_after n l ≡ n

pub begun_more : (p : Problem) (ls : List TableLine) (l : TableLine) (cs ds : List ℤ) (ss ts : List (ℤ × ℤ)) → AreBegun p ls cs ss → IsPlain l → IsFineTableLine ls l → cs ++ fixed_charges_in (l ∷ []) ≡ ds → ss ++ spans_of (l ∷ []) ≡ ts → AreBegun p (ls ++ l ∷ []) ds ts
begun_more p ls l cs ds ss ts b plain fine e f = record {
  fine = fine_more ls l b.fine fine;
  second = second_push ls l ∙ ap (λ s. has_fixed_part ls || s) plain.second ∙ or_false (has_fixed_part ls) ∙ b.second;
  sites = sites_push ls l ∙ plain.sites (site_count_in ls) ∙ b.sites;
  fixed = fixed_push ls l ∙ plain.fixed (fixed_of ls) ∙ b.fixed;
  base = base_push ls l ∙ plain.base (base_of ls) ∙ b.base;
  minus = minus_push ls l ∙ plain.minus (minus_of ls) ∙ b.minus;
  plus = plus_push ls l ∙ plain.plus (plus_of ls) ∙ b.plus;
  charges = charges_push ls l ∙ ap (λ x. x ++ fixed_charges_in (l ∷ [])) b.charges ∙ e;
  spans = spans_push ls l ∙ ap (λ x. x ++ spans_of (l ∷ [])) b.spans ∙ f;
}

-- a line of a place, or the end, may follow
abbrev pub IsOpen : List TableLine → Type 0
IsOpen ls = (l : TableLine) → ends_or_places (has_fixed_part ls) l ≡ true → may_follow_lines ls l ≡ true

-- a class may follow too
abbrev pub IsOpenToClass : List TableLine → Type 0
IsOpenToClass ls = (l : TableLine) → (is_class l || ends_or_places (has_fixed_part ls) l) ≡ true → may_follow_lines ls l ≡ true

pub or_right : (a b : Bool) → b ≡ true → (a || b) ≡ true
or_right true b h = refl
or_right false b h = h

pub cond_true : (b x : Bool) → b ≡ true → cond b true x ≡ true
cond_true true x h = refl
cond_true false x h = absurd (cc h)

pub cond_false : (b x y : Bool) → b ≡ false → y ≡ true → cond b x y ≡ true
cond_false true x y h k = absurd (cc h)
cond_false false x y h k = k

-- the last line says what may follow
pub after_last : (ls : List TableLine) (l m : TableLine) → may_follow_lines (ls ++ l ∷ []) m ≡ may_follow_last (ls ++ l ∷ []) (Some l) m
after_last ls l m = ap (λ last. may_follow_last (ls ++ l ∷ []) last m) (last_push ls l)

-- tests of numbers
pub not_below : (x y : ℤ) → y ≤ℤ x → not (int_lt x y) ≡ true
not_below x y h = grind (arith, ints, nat_tests)

pub no_less : (x y : ℤ) → y ≤ℤ x → int_lt x y ≡ false
no_less x y h = grind (arith, ints, nat_tests)

pub is_less : (x y : ℤ) → x <ℤ y → int_lt x y ≡ true
is_less x y h = grind (arith, ints, nat_tests)

pub is_fewer : (m n : ℕ) → m < n → nat_lt m n ≡ true
is_fewer m n h = grind (arith, nat_tests)

pub same_int : (x y : ℤ) → x ≡ y → int_eq x y ≡ true
same_int x y h = grind (arith, ints, nat_tests)

pub other_int : (x y : ℤ) → (x ≡ y → ⊥) → int_eq x y ≡ false
other_int x y h = grind (arith, ints, nat_tests)
