-- The head, the charges and the classes of a problem's lines.
use Rattle.std.proofs.Common.{◌≡◌, ◌∙◌, sym, ap, refl, subst, ℕ, ℤ, pos, suc, ◌+◌, ◌*◌, ◌<◌, ◌≤ℤ◌, ◌<ℤ◌, neg_ℤ, List, [], ◌∷◌, ◌++◌, map, length, Bool, true, false, not, cond, None, arith, append_assoc, length-append, inl, inr, ◌⊎◌, All}
use Rattle.std.specs.Prelude.{◌==◌}
use Rattle.std.specs.Option.{option_or}
use Rattle.std.proofs.lemmas.Int.{ints}
use Rattle.std.proofs.lemmas.Bool.Decides.{nat_tests}
use Rattle.std.proofs.lemmas.List.{append-nil}
use Rattle.std.proofs.lemmas.List.Elements.{All-head, All-tail}
use Rattle.charge_model.specs.declared.span.Span.{Span}
use Rattle.charge_model.specs.declared.TheConstants.{MAX_SITES, MAX_FIXED, MAX_POTENTIAL, MAX_LEVEL}
use Rattle.charge_model.specs.Problem.{Problem, IsProblem, IsFixedCharge, AreSpans, fixed_count, pairs_before}
use Rattle.text_rows.specs.Rows.{IsShort}
use Rattle.text_rows.proofs.RowLemmas.{and_both}
use Rattle.table_lines.specs.declared.line.TableLine.{TableLine}
use Rattle.table_lines.specs.declared.line.TableLine.TheVariants.{FirstVersion, SecondVersion, Sites, Fixed, Base, Levels, Charge, Class}
use Rattle.table_lines.specs.Seen.{ends_of}
use Rattle.table_lines.specs.Kinds.{site_count_in, fixed_of, fixed_charges_in, spans_of, pair_in, pair_class, near_in, near_class, most_classes}
use Rattle.table_lines.specs.Order.{may_follow_lines, may_follow_charges}
use Rattle.table_lines.specs.Ranges.{is_from_to}
use Rattle.table_lines.specs.FineLines.{IsFineTableLine}
use Rattle.table_lines.proofs.KindLemmas.{pair_push, near_push}
use Rattle.table_lines.proofs.Sound.{fault_none}
use Rattle.potential_table.specs.TableRows.{head_lines, charge_lines, class_lines}
use Rattle.potential_table.proofs.StageLemmas.{AreBegun, begun_more, IsOpenToClass, cond_true, cond_false, after_last, not_below, no_less, is_less, is_fewer, other_int}

-- no pair, and no site with a fixed charge, has a line
pub record HasNoPlaces (ls : List TableLine) : Type 0 where
  pub pairs : (k l : ℕ) → pair_class ls (pos k) (pos l) ≡ None
  pub near : (k a : ℕ) → near_class ls (pos k) (pos a) ≡ None

no_place_more : (ls : List TableLine) (l : TableLine) → HasNoPlaces ls → ((i j : ℤ) → pair_in i j l ≡ None) → ((i j : ℤ) → near_in i j l ≡ None) → HasNoPlaces (ls ++ l ∷ [])
no_place_more ls l h f g = record {
  pairs = λ i j. pair_push ls l (pos i) (pos j) ∙ ap (λ o. option_or o (pair_in (pos i) (pos j) l)) (h.pairs i j) ∙ f (pos i) (pos j);
  near = λ i j. near_push ls l (pos i) (pos j) ∙ ap (λ o. option_or o (near_in (pos i) (pos j) l)) (h.near i j) ∙ g (pos i) (pos j);
}

-- the lines with these charges, where a charge may follow until all came
pub record HasCharges (p : Problem) (ls : List TableLine) (cs : List ℤ) : Type 0 where
  pub begun : AreBegun p ls cs []
  pub follow : (l : TableLine) → may_follow_lines ls l ≡ may_follow_charges ls l
  pub no_places : HasNoPlaces ls

base_in : (b : ℕ) → (b ≡ 2) ⊎ (b ≡ 3) → (is_from_to (pos 2) (pos 3) (pos b) ≡ true) × IsShort (pos b)
base_in b (inl h) = (subst (λ n. is_from_to (pos 2) (pos 3) (pos n) ≡ true) (sym h) refl, omega (arith, h))
base_in b (inr h) = (subst (λ n. is_from_to (pos 2) (pos 3) (pos n) ≡ true) (sym h) refl, omega (arith, h))

short_level : (z : ℤ) → neg_ℤ MAX_LEVEL ≤ℤ z → z ≤ℤ MAX_LEVEL → IsShort z
short_level z h k = omega (arith, ints, h, k)

levels_fine : (p : Problem) (ls : List TableLine) → IsProblem p → may_follow_lines ls (Levels p.mu_minus p.mu_plus) ≡ true → IsFineTableLine ls (Levels p.mu_minus p.mu_plus)
levels_fine p ls is follows =
    let high : p.mu_plus ≤ℤ MAX_LEVEL = omega (arith, ints, is.levels, is.greatest_level) in
    let low : neg_ℤ MAX_LEVEL ≤ℤ p.mu_minus = omega (arith, ints, is.levels, is.least_level) in
    record {
      follows = follows;
      faultless = fault_none ls _ (Levels p.mu_minus p.mu_plus) (record { few_sites = refl; few_fixed = refl; in_range = and_both _ _ (and_both _ _ (not_below _ _ is.least_level) (not_below _ _ is.levels)) (not_below _ _ is.greatest_level); in_order = refl; once = refl });
      short = (short_level p.mu_minus low is.greatest_level, short_level p.mu_plus is.least_level high);
    }

base_fine : (p : Problem) (ls : List TableLine) → IsProblem p → may_follow_lines ls (Base (pos p.base)) ≡ true → IsFineTableLine ls (Base (pos p.base))
base_fine p ls is follows =
    let b = base_in p.base is.base_2_or_3 in
    record { follows = follows; faultless = fault_none ls _ (Base (pos p.base)) (record { few_sites = refl; few_fixed = refl; in_range = b.0; in_order = refl; once = refl }); short = b.1 }

sites_fine : (p : Problem) (ls : List TableLine) → IsProblem p → may_follow_lines ls (Sites (pos p.sites)) ≡ true → IsFineTableLine ls (Sites (pos p.sites))
sites_fine p ls is follows =
    let high : pos p.sites ≤ℤ pos MAX_SITES = omega (arith, ints, is.few_sites) in
    let low : pos 0 ≤ℤ pos p.sites = omega (arith, ints) in
    record { follows = follows; faultless = fault_none ls _ (Sites (pos p.sites)) (record { few_sites = no_less _ _ high; few_fixed = refl; in_range = not_below _ _ low; in_order = refl; once = refl }); short = omega (arith, is.few_sites) }

fixed_fine : (p : Problem) (ls : List TableLine) → IsProblem p → may_follow_lines ls (Fixed (pos (fixed_count p))) ≡ true → IsFineTableLine ls (Fixed (pos (fixed_count p)))
fixed_fine p ls is follows =
    let high : pos (fixed_count p) ≤ℤ pos MAX_FIXED = omega (arith, ints, is.few_fixed) in
    let low : pos 0 ≤ℤ pos (fixed_count p) = omega (arith, ints) in
    record { follows = follows; faultless = fault_none ls _ (Fixed (pos (fixed_count p))) (record { few_sites = refl; few_fixed = no_less _ _ high; in_range = not_below _ _ low; in_order = refl; once = refl }); short = omega (arith, is.few_fixed) }

first_head : (p : Problem) → IsProblem p → fixed_count p ≡ 0 → HasCharges p (FirstVersion ∷ Sites (pos p.sites) ∷ Base (pos p.base) ∷ Levels p.mu_minus p.mu_plus ∷ []) []
first_head p is none = record {
  begun = record {
    fine = (record { follows = refl; faultless = refl; short = tt }, (sites_fine p _ is refl, (base_fine p _ is refl, (levels_fine p _ is refl, tt))));
    second = ap (λ n. not (n == 0)) (sym none);
    sites = refl;
    fixed = ap pos (sym none);
    base = refl;
    minus = refl;
    plus = refl;
    charges = refl;
    spans = refl;
  };
  follow = λ l. refl;
  no_places = record { pairs = λ k l. refl; near = λ k a. refl };
}

second_head : (p : Problem) → IsProblem p → (fixed_count p == 0) ≡ false → HasCharges p (SecondVersion ∷ Sites (pos p.sites) ∷ Fixed (pos (fixed_count p)) ∷ Base (pos p.base) ∷ Levels p.mu_minus p.mu_plus ∷ []) []
second_head p is some = record {
  begun = record {
    fine = (record { follows = refl; faultless = refl; short = tt }, (sites_fine p _ is refl, (fixed_fine p _ is refl, (base_fine p _ is refl, (levels_fine p _ is refl, tt)))));
    second = ap not (sym some);
    sites = refl;
    fixed = refl;
    base = refl;
    minus = refl;
    plus = refl;
    charges = refl;
    spans = refl;
  };
  follow = λ l. refl;
  no_places = record { pairs = λ k l. refl; near = λ k a. refl };
}

is_none : (n : ℕ) → (n == 0) ≡ true → n ≡ 0
is_none n h = grind (arith, nat_tests)

-- the head of either version
either_head : (p : Problem) (b : Bool) → (fixed_count p == 0) ≡ b → IsProblem p → HasCharges p (cond b (FirstVersion ∷ Sites (pos p.sites) ∷ Base (pos p.base) ∷ Levels p.mu_minus p.mu_plus ∷ []) (SecondVersion ∷ Sites (pos p.sites) ∷ Fixed (pos (fixed_count p)) ∷ Base (pos p.base) ∷ Levels p.mu_minus p.mu_plus ∷ [])) []
either_head p true e is = first_head p is (is_none (fixed_count p) e)
either_head p false e is = second_head p is e

pub head_stage : (p : Problem) → IsProblem p → HasCharges p (head_lines p) []
head_stage p is = either_head p (fixed_count p == 0) refl is

-- a charge that is not the last
charge_fine : (p : Problem) (ls : List TableLine) (cs rest : List ℤ) (q : ℤ) → HasCharges p ls cs → IsFixedCharge q → cs ++ q ∷ rest ≡ p.fixed_charges → IsFineTableLine ls (Charge q)
charge_fine p ls cs rest q h is whole =
    let count : length cs + suc (length rest) ≡ fixed_count p = sym (length-append cs (q ∷ rest)) ∙ ap length whole in
    let came : length (fixed_charges_in ls) ≡ length cs = ap length h.begun.charges in
    let below : pos (length (fixed_charges_in ls)) <ℤ fixed_of ls = omega (arith, ints, count, came, h.begun.fixed) in
    record {
      follows = h.follow (Charge q) ∙ cond_true _ _ (is_less _ _ below);
      faultless = fault_none ls _ (Charge q) (record { few_sites = refl; few_fixed = refl; in_range = and_both _ _ (and_both _ _ (not_below _ _ is.least) (not_below _ _ is.greatest)) (ap not (other_int q (pos 0) is.charged)); in_order = refl; once = refl });
      short = omega (arith, ints, is.least, is.greatest);
    }

charge_more : (p : Problem) (ls : List TableLine) (cs rest : List ℤ) (q : ℤ) → HasCharges p ls cs → IsFixedCharge q → cs ++ q ∷ rest ≡ p.fixed_charges → HasCharges p (ls ++ Charge q ∷ []) (cs ++ q ∷ [])
charge_more p ls cs rest q h is whole = record {
  begun = begun_more p ls (Charge q) cs _ [] _ h.begun (record { second = refl; sites = λ n. refl; fixed = λ n. refl; base = λ n. refl; minus = λ n. refl; plus = λ n. refl }) (charge_fine p ls cs rest q h is whole) refl refl;
  follow = after_last ls (Charge q);
  no_places = no_place_more ls (Charge q) h.no_places (λ i j. refl) (λ i j. refl);
}

-- with the charges that are left
charges_on : (p : Problem) (ls : List TableLine) (cs rest : List ℤ) → HasCharges p ls cs → All IsFixedCharge rest → cs ++ rest ≡ p.fixed_charges → HasCharges p (ls ++ map Charge rest) p.fixed_charges
charges_on p ls cs [] h all whole =
    let same : cs ≡ p.fixed_charges = sym (append-nil cs) ∙ whole in
    rw (append-nil ls) (subst (HasCharges p ls) same h)
charges_on p ls cs (q ∷ rest) h all whole =
    let next = charge_more p ls cs rest q h (All-head IsFixedCharge q rest all) whole in
    let on = charges_on p (ls ++ Charge q ∷ []) (cs ++ q ∷ []) rest next (All-tail IsFixedCharge q rest all) (append_assoc cs (q ∷ []) rest ∙ whole) in
    subst (λ x. HasCharges p x p.fixed_charges) (append_assoc ls (Charge q ∷ []) (map Charge rest)) on

-- the lines with all charges and these classes
pub record HasClasses (p : Problem) (ls : List TableLine) (ss : List Span) : Type 0 where
  pub begun : AreBegun p ls p.fixed_charges (ends_of ss)
  pub follow : IsOpenToClass ls
  pub no_places : HasNoPlaces ls

all_came : (p : Problem) (ls : List TableLine) → HasCharges p ls p.fixed_charges → HasClasses p ls []
all_came p ls h =
    let came : length (fixed_charges_in ls) ≡ fixed_count p = ap length h.begun.charges in
    let below : fixed_of ls ≤ℤ pos (length (fixed_charges_in ls)) = omega (arith, ints, came, h.begun.fixed) in
    record { begun = h.begun; follow = λ l e. h.follow l ∙ cond_false _ _ _ (no_less _ _ below) e; no_places = h.no_places }

pub ends_count : (spans : List Span) → length (ends_of spans) ≡ length spans
ends_count [] = refl
ends_count (s ∷ spans) = ap suc (ends_count spans)

ends_more : (ss : List Span) (s : Span) → ends_of ss ++ (s.lo, s.hi) ∷ [] ≡ ends_of (ss ++ s ∷ [])
ends_more [] s = refl
ends_more (t ∷ ss) s = ap (λ r. (t.lo, t.hi) ∷ r) (ends_more ss s)

class_fine : (p : Problem) (ls : List TableLine) (ss rest : List Span) (s : Span) → IsProblem p → HasClasses p ls ss → AreSpans (s ∷ rest) → ss ++ s ∷ rest ≡ p.spans → IsFineTableLine ls (Class s.lo s.hi)
class_fine p ls ss rest s is h spans whole =
    let first = spans 0 (omega arith) in
    let count : length ss + suc (length rest) ≡ length p.spans = sym (length-append ss (s ∷ rest)) ∙ ap length whole in
    let came : length (spans_of ls) ≡ length ss = ap length h.begun.spans ∙ ends_count ss in
    let most : most_classes (site_count_in ls) (fixed_of ls) ≡ pairs_before p.sites p.sites + p.sites * fixed_count p = ap (λ n. most_classes n (fixed_of ls)) h.begun.sites ∙ ap (most_classes (pos p.sites)) h.begun.fixed in
    let room : length (spans_of ls) < most_classes (site_count_in ls) (fixed_of ls) = omega (arith, count, came, most, is.few_classes) in
    let low : pos 0 ≤ℤ s.lo = first.0 in
    let order : s.lo ≤ℤ s.hi = first.1 in
    let high : s.hi ≤ℤ MAX_POTENTIAL = first.2 in
    let lo_high : s.lo ≤ℤ MAX_POTENTIAL = omega (arith, ints, order, high) in
    let hi_low : pos 0 ≤ℤ s.hi = omega (arith, ints, order, low) in
    record {
      follows = h.follow (Class s.lo s.hi) refl;
      faultless = fault_none ls _ (Class s.lo s.hi) (record { few_sites = refl; few_fixed = refl; in_range = and_both _ _ (and_both _ _ (and_both _ _ (not_below _ _ low) (not_below _ _ lo_high)) (and_both _ _ (not_below _ _ hi_low) (not_below _ _ high))) (is_fewer _ _ room); in_order = no_less _ _ order; once = refl });
      short = (omega (arith, ints, low, lo_high), omega (arith, ints, hi_low, high));
    }

class_more : (p : Problem) (ls : List TableLine) (ss rest : List Span) (s : Span) → IsProblem p → HasClasses p ls ss → AreSpans (s ∷ rest) → ss ++ s ∷ rest ≡ p.spans → HasClasses p (ls ++ Class s.lo s.hi ∷ []) (ss ++ s ∷ [])
class_more p ls ss rest s is h spans whole = record {
  begun = begun_more p ls (Class s.lo s.hi) p.fixed_charges _ (ends_of ss) _ h.begun (record { second = refl; sites = λ n. refl; fixed = λ n. refl; base = λ n. refl; minus = λ n. refl; plus = λ n. refl }) (class_fine p ls ss rest s is h spans whole) (append-nil p.fixed_charges) (ends_more ss s);
  follow = λ l e. after_last ls (Class s.lo s.hi) l ∙ e;
  no_places = no_place_more ls (Class s.lo s.hi) h.no_places (λ i j. refl) (λ i j. refl);
}

-- with the classes that are left
classes_on : (p : Problem) (ls : List TableLine) (ss rest : List Span) → IsProblem p → HasClasses p ls ss → AreSpans rest → ss ++ rest ≡ p.spans → HasClasses p (ls ++ map (λ s. Class s.lo s.hi) rest) p.spans
classes_on p ls ss [] is h spans whole =
    let same : ss ≡ p.spans = sym (append-nil ss) ∙ whole in
    rw (append-nil ls) (subst (HasClasses p ls) same h)
classes_on p ls ss (s ∷ rest) is h spans whole =
    let next = class_more p ls ss rest s is h spans whole in
    let on = classes_on p (ls ++ Class s.lo s.hi ∷ []) (ss ++ s ∷ []) rest is next (λ c lt. spans (suc c) (omega (arith, lt))) (append_assoc ss (s ∷ []) rest ∙ whole) in
    subst (λ x. HasClasses p x p.spans) (append_assoc ls (Class s.lo s.hi ∷ []) (map (λ t. Class t.lo t.hi) rest)) on

pub class_stage : (p : Problem) → IsProblem p → HasClasses p ((head_lines p ++ charge_lines p) ++ class_lines p) p.spans
class_stage p is =
    let charged = charges_on p (head_lines p) [] p.fixed_charges (head_stage p is) is.fixed refl in
    classes_on p (head_lines p ++ charge_lines p) [] p.spans is (all_came p _ charged) is.spans refl
