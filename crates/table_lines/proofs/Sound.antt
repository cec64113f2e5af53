-- What fine lines give is in range, at each line.
use Rattle.std.proofs.Common.{◌≡◌, ◌≢◌, ◌∙◌, sym, ap, refl, subst, ℕ, ℤ, pos, ◌+◌, ◌≤◌, ◌≤ℤ◌, neg_ℤ, List, [], ◌∷◌, ◌++◌, length, Bool, true, false, not, ◌&&◌, ◌||◌, cond, Option, None, Some, arith, length-append, append_assoc, inl, inr, ◌⊎◌, int_lt, nat_lt, All}
use Rattle.std.specs.Ordering.{int_eq}
use Rattle.std.proofs.lemmas.Int.{ints}
use Rattle.std.proofs.lemmas.Bool.Decides.{nat_tests}
use Rattle.std.proofs.lemmas.List.{append-nil}
use Rattle.std.proofs.lemmas.List.Elements.{All-push, All-nil}
use Rattle.charge_model.specs.Problem.{IsFixedCharge}
use Rattle.charge_model.specs.declared.TheConstants.{MAX_SITES, MAX_FIXED, MAX_FIXED_CHARGE, MAX_POTENTIAL, MAX_LEVEL}
use Rattle.table_lines.specs.declared.fault.TableFault.{TableFault}
use Rattle.table_lines.specs.declared.line.TableLine.{TableLine}
use Rattle.table_lines.specs.declared.line.TableLine.TheVariants.{FirstVersion, SecondVersion, Sites, Fixed, Base, Levels, Charge, Class, Pair, Near, End}
use Rattle.table_lines.specs.Kinds.{last_of, has_fixed_part, sites_after, site_count_in, fixed_after, fixed_of, base_after, base_of, minus_after, minus_of, plus_after, plus_of, fixed_charges_in, spans_of, most_classes}
use Rattle.table_lines.specs.Order.{may_follow_last, may_follow_charges, ends_or_places, is_version, is_sites, is_fixed, is_base, is_levels, is_charge, is_class}
use Rattle.table_lines.specs.Ranges.{is_from_to, has_many_sites, has_many_fixed, has_room, is_table_line_in_range, is_reversed, twice_in, fault_in}
use Rattle.table_lines.specs.FineLines.{AreFineTableLines, IsFineTableLine}
use Rattle.table_lines.proofs.KindLemmas.{last_push, sites_push, fixed_push, base_push, minus_push, plus_push, charges_push, spans_push}
use Rattle.text_rows.proofs.RowLemmas.{and_parts}

-- fine lines, with one more, and along the list
pub fine_onto : (before ls : List TableLine) (l : TableLine) → AreFineTableLines before ls → IsFineTableLine (before ++ ls) l → AreFineTableLines before (ls ++ l ∷ [])
fine_onto before [] l fine at = (subst (λ b. IsFineTableLine b l) (append-nil before) at, tt)
fine_onto before (x ∷ ls) l fine at =
    (fine.0, fine_onto (before ++ x ∷ []) ls l fine.1 (subst (λ b. IsFineTableLine b l) (sym (append_assoc before (x ∷ []) ls)) at))

pub fine_more : (ls : List TableLine) (l : TableLine) → AreFineTableLines [] ls → IsFineTableLine ls l → AreFineTableLines [] (ls ++ l ∷ [])
fine_more ls l fine at = fine_onto [] ls l fine at

pub along : (P : List TableLine → Type 0) → ((ls : List TableLine) (l : TableLine) → P ls → IsFineTableLine ls l → P (ls ++ l ∷ [])) → (before ls : List TableLine) → P before → AreFineTableLines before ls → P (before ++ ls)
along P step before [] is fine = subst P (sym (append-nil before)) is
along P step before (l ∷ ls) is fine =
    subst P (append_assoc before (l ∷ []) ls) (along P step (before ++ l ∷ []) ls (step before l is fine.0) fine.1)

-- what a line without fault is not, and where its numbers are
first_none : (b : Bool) (x : TableFault) (o : Option TableFault) → cond b (Some x) o ≡ None → (b ≡ false) × (o ≡ None)
first_none true x o e = absurd (cc e)
first_none false x o e = (refl, e)

not_false : (b : Bool) → not b ≡ false → b ≡ true
not_false true e = refl
not_false false e = absurd (cc e)

pub record IsFaultless (ls : List TableLine) (l : TableLine) : Type 0 where
  pub few_sites : has_many_sites l ≡ false
  pub few_fixed : has_many_fixed l ≡ false
  pub in_range : is_table_line_in_range ls l ≡ true
  pub in_order : is_reversed l ≡ false
  pub once : twice_in ls l ≡ None

pub faultless : (ls : List TableLine) (k : ℕ) (l : TableLine) → fault_in ls k l ≡ None → IsFaultless ls l
faultless ls k l e =
    let a = first_none (has_many_sites l) _ _ e in
    let b = first_none (has_many_fixed l) _ _ a.1 in
    let c = first_none (not (is_table_line_in_range ls l)) _ _ b.1 in
    let d = first_none (is_reversed l) _ _ c.1 in
    record { few_sites = a.0; few_fixed = b.0; in_range = not_false _ c.0; in_order = d.0; once = d.1 }

pub fault_none : (ls : List TableLine) (k : ℕ) (l : TableLine) → IsFaultless ls l → fault_in ls k l ≡ None
fault_none ls k l h = rw (h.few_sites, h.few_fixed, h.in_range, h.in_order) h.once

-- the lines that stand at the head, and those that stand behind the charges
abbrev pub is_head : TableLine → Bool
is_head FirstVersion = true
is_head SecondVersion = true
is_head (Sites n) = true
is_head (Fixed f) = true
is_head (Base b) = true
is_head (Levels m p) = true
is_head _ = false

abbrev pub is_early : Option TableLine → Bool
is_early None = true
is_early (Some l) = is_head l

abbrev pub is_behind : TableLine → Bool
is_behind (Class lo hi) = true
is_behind (Pair i j c) = true
is_behind (Near i a c) = true
is_behind End = true
is_behind _ = false

abbrev pub is_late : Option TableLine → Bool
is_late None = false
is_late (Some l) = is_behind l

no_choice : (b : Bool) → cond b false false ≡ true → ⊥
no_choice true h = cc h
no_choice false h = cc h

head_is_no : (s : Bool) (l : TableLine) → is_head l ≡ true → (is_charge l ≡ false) × (is_class l ≡ false) × (ends_or_places s l ≡ false)
head_is_no s FirstVersion h = (refl, refl, refl)
head_is_no s SecondVersion h = (refl, refl, refl)
head_is_no s (Sites n) h = (refl, refl, refl)
head_is_no s (Fixed n) h = (refl, refl, refl)
head_is_no s (Base n) h = (refl, refl, refl)
head_is_no s (Levels m p) h = (refl, refl, refl)
head_is_no s _ h = absurd (cc h)

behind_is_no : (l : TableLine) → is_behind l ≡ true → (is_version l ≡ false) × (is_sites l ≡ false) × (is_fixed l ≡ false) × (is_base l ≡ false) × (is_levels l ≡ false) × (is_charge l ≡ false)
behind_is_no (Class lo hi) h = (refl, refl, refl, refl, refl, refl)
behind_is_no (Pair i j c) h = (refl, refl, refl, refl, refl, refl)
behind_is_no (Near i a c) h = (refl, refl, refl, refl, refl, refl)
behind_is_no End h = (refl, refl, refl, refl, refl, refl)
behind_is_no _ h = absurd (cc h)

either_true : (a b : Bool) → a ≡ false → b ≡ false → (a || b) ≡ true → ⊥
either_true a b e f h = absurd (cc (ap (λ x. x || b) e, f, h))

no_head_here : (ls : List TableLine) (l : TableLine) → is_head l ≡ true → may_follow_charges ls l ≡ true → ⊥
no_head_here ls l head h =
    let no = head_is_no (has_fixed_part ls) l head in
    let choice = subst (λ b. cond (int_lt (pos (length (fixed_charges_in ls))) (fixed_of ls)) b (is_class l || ends_or_places (has_fixed_part ls) l) ≡ true) no.0 h in
    let none : (is_class l || ends_or_places (has_fixed_part ls) l) ≡ false = ap (λ b. b || ends_or_places (has_fixed_part ls) l) no.1 ∙ no.2 in
    no_choice _ (subst (λ b. cond (int_lt (pos (length (fixed_charges_in ls))) (fixed_of ls)) false b ≡ true) none choice)

pub early_follow : (ls : List TableLine) (last : Option TableLine) (l : TableLine) → may_follow_last ls last l ≡ true → is_head l ≡ true → is_early last ≡ true
early_follow ls None l h head = refl
early_follow ls (Some FirstVersion) l h head = refl
early_follow ls (Some SecondVersion) l h head = refl
early_follow ls (Some (Sites n)) l h head = refl
early_follow ls (Some (Fixed n)) l h head = refl
early_follow ls (Some (Base n)) l h head = refl
early_follow ls (Some (Levels m p)) l h head = refl
early_follow ls (Some (Charge q)) l h head = absurd (no_head_here ls l head h)
early_follow ls (Some (Class lo hi)) l h head =
    let no = head_is_no (has_fixed_part ls) l head in absurd (either_true _ _ no.1 no.2 h)
early_follow ls (Some (Pair i j c)) l h head =
    let no = head_is_no (has_fixed_part ls) l head in
    let none = no.2 in absurd (cc (none, h))
early_follow ls (Some (Near i j c)) l h head =
    let no = head_is_no (has_fixed_part ls) l head in
    let none = no.2 in absurd (cc (none, h))
early_follow ls (Some End) l h head = absurd (cc h)

-- all fixed charges came
abbrev pub AreAllCharges : List TableLine → Type 0
AreAllCharges ls = int_lt (pos (length (fixed_charges_in ls))) (fixed_of ls) ≡ false

behind_charges : (b : Bool) (l : TableLine) (x : Bool) → is_charge l ≡ false → cond b (is_charge l) x ≡ true → b ≡ false
behind_charges true l x isnt h = absurd (cc (isnt, h))
behind_charges false l x isnt h = refl

no_two : (b x y : Bool) → x ≡ false → y ≡ false → cond b x y ≡ true → ⊥
no_two true x y e f h = absurd (cc (e, h))
no_two false x y e f h = absurd (cc (f, h))

pub late_follow : (ls : List TableLine) (last : Option TableLine) (l : TableLine) → may_follow_last ls last l ≡ true → is_behind l ≡ true → (is_late last ≡ true) ⊎ AreAllCharges ls
late_follow ls None l h late = let no = behind_is_no l late in let none = no.0 in absurd (cc (none, h))
late_follow ls (Some FirstVersion) l h late = let no = behind_is_no l late in let none = no.1 in absurd (cc (none, h))
late_follow ls (Some SecondVersion) l h late = let no = behind_is_no l late in let none = no.1 in absurd (cc (none, h))
late_follow ls (Some (Sites n)) l h late = let no = behind_is_no l late in absurd (no_two _ _ _ no.2 no.3 h)
late_follow ls (Some (Fixed n)) l h late = let no = behind_is_no l late in let none = no.3 in absurd (cc (none, h))
late_follow ls (Some (Base n)) l h late = let no = behind_is_no l late in let none = no.4 in absurd (cc (none, h))
late_follow ls (Some (Levels m p)) l h late = let no = behind_is_no l late in inr (behind_charges _ l _ no.5 h)
late_follow ls (Some (Charge q)) l h late = let no = behind_is_no l late in inr (behind_charges _ l _ no.5 h)
late_follow ls (Some (Class lo hi)) l h late = inl refl
late_follow ls (Some (Pair i j c)) l h late = inl refl
late_follow ls (Some (Near i j c)) l h late = inl refl
late_follow ls (Some End) l h late = inl refl

charge_here : (b x : Bool) → x ≡ false → cond b true x ≡ true → b ≡ true
charge_here true x e h = refl
charge_here false x e h = absurd (cc (e, h))

pub charge_follow : (ls : List TableLine) (last : Option TableLine) (q : ℤ) → may_follow_last ls last (Charge q) ≡ true → int_lt (pos (length (fixed_charges_in ls))) (fixed_of ls) ≡ true
charge_follow ls (Some (Sites n)) q h = absurd (no_choice _ h)
charge_follow ls (Some (Levels m p)) q h = charge_here _ false refl h
charge_follow ls (Some (Charge r)) q h = charge_here _ false refl h
charge_follow ls _ q h = absurd (cc h)

-- the least and the greatest potential of a class
pub record IsSpan (s : ℤ × ℤ) : Type 0 where
  pub low : pos 0 ≤ℤ s.0
  pub order : s.0 ≤ℤ s.1
  pub high : s.1 ≤ℤ MAX_POTENTIAL

pub record AreSound (last : Option TableLine) (n f b m p : ℤ) (charges : List ℤ) (spans : List (ℤ × ℤ)) : Type 0 where
  pub sites_low : pos 0 ≤ℤ n
  pub sites_high : n ≤ℤ pos MAX_SITES
  pub fixed_low : pos 0 ≤ℤ f
  pub fixed_high : f ≤ℤ pos MAX_FIXED
  pub base : (b ≡ pos 2) ⊎ (b ≡ pos 3)
  pub low : neg_ℤ MAX_LEVEL ≤ℤ p
  pub order : p ≤ℤ m
  pub high : m ≤ℤ MAX_LEVEL
  pub charged : All IsFixedCharge charges
  pub spanned : All IsSpan spans
  pub room : length spans ≤ most_classes n f
  pub few : pos (length charges) ≤ℤ f
  pub early : is_early last ≡ true → (charges ≡ []) × (spans ≡ [])
  pub late : is_late last ≡ true → f ≤ℤ pos (length charges)

abbrev pub IsSound : List TableLine → Type 0
IsSound ls = AreSound (last_of ls) (site_count_in ls) (fixed_of ls) (base_of ls) (minus_of ls) (plus_of ls) (fixed_charges_in ls) (spans_of ls)

abbrev pub IsSoundWith : List TableLine → TableLine → Type 0
IsSoundWith ls l = AreSound (Some l) (sites_after (site_count_in ls) l) (fixed_after (fixed_of ls) l) (base_after (base_of ls) l) (minus_after (minus_of ls) l) (plus_after (plus_of ls) l) (fixed_charges_in ls ++ fixed_charges_in (l ∷ [])) (spans_of ls ++ spans_of (l ∷ []))

-- nothing is added to the charges and the classes
still : (last : Option TableLine) (n f b m p : ℤ) (xs : List ℤ) (ys : List (ℤ × ℤ)) → AreSound last n f b m p xs ys → AreSound last n f b m p (xs ++ []) (ys ++ [])
still last n f b m p xs ys s = rw (append-nil xs, append-nil ys) s

from_zero : (n : ℤ) → not (int_lt n (pos 0)) ≡ true → pos 0 ≤ℤ n
from_zero n h = grind (arith, ints, nat_tests)

up_to : (k : ℕ) (n : ℤ) → int_lt (pos k) n ≡ false → n ≤ℤ pos k
up_to k n h = grind (arith, ints, nat_tests)

two_or_three : (b : ℤ) → is_from_to (pos 2) (pos 3) b ≡ true → (b ≡ pos 2) ⊎ (b ≡ pos 3)
two_or_three b h = grind (arith, ints, nat_tests)

levels_in : (m p : ℤ) → (not (int_lt p (neg_ℤ MAX_LEVEL)) && not (int_lt m p) && not (int_lt MAX_LEVEL m)) ≡ true → (neg_ℤ MAX_LEVEL ≤ℤ p) × (p ≤ℤ m) × (m ≤ℤ MAX_LEVEL)
levels_in m p h =
    let a = and_parts (not (int_lt p (neg_ℤ MAX_LEVEL)) && not (int_lt m p)) _ h in
    let b = and_parts (not (int_lt p (neg_ℤ MAX_LEVEL))) _ a.0 in
    (not_below _ _ b.0, not_below _ _ b.1, not_below _ _ a.1)
  where
    not_below : (x y : ℤ) → not (int_lt x y) ≡ true → y ≤ℤ x
    not_below x y e = grind (arith, ints, nat_tests)

not_below : (x y : ℤ) → not (int_lt x y) ≡ true → y ≤ℤ x
not_below x y e = grind (arith, ints, nat_tests)

not_zero : (q : ℤ) → not (int_eq q (pos 0)) ≡ true → q ≢ pos 0
not_zero q e = grind (arith, ints, nat_tests)

charge_in_range : (ls : List TableLine) (q : ℤ) → is_table_line_in_range ls (Charge q) ≡ true → IsFixedCharge q
charge_in_range ls q h =
    let a = and_parts (is_from_to (neg_ℤ MAX_FIXED_CHARGE) MAX_FIXED_CHARGE q) _ h in
    let b = and_parts (not (int_lt q (neg_ℤ MAX_FIXED_CHARGE))) _ a.0 in
    record { least = not_below _ _ b.0; greatest = not_below _ _ b.1; charged = not_zero q a.1 }

span_in_range : (ls : List TableLine) (lo hi : ℤ) → is_table_line_in_range ls (Class lo hi) ≡ true → int_lt hi lo ≡ false → IsSpan (lo, hi) × (has_room ls ≡ true)
span_in_range ls lo hi h order =
    let a = and_parts (is_from_to (pos 0) MAX_POTENTIAL lo && is_from_to (pos 0) MAX_POTENTIAL hi) _ h in
    let b = and_parts (is_from_to (pos 0) MAX_POTENTIAL lo) _ a.0 in
    let low = and_parts (not (int_lt lo (pos 0))) _ b.0 in
    let high = and_parts (not (int_lt hi (pos 0))) _ b.1 in
    (record { low = not_below _ _ low.0; order = not_below _ _ (ap not order); high = not_below _ _ high.1 }, a.1)

one_more : (n k : ℕ) → nat_lt n k ≡ true → n + 1 ≤ k
one_more n k h = grind (arith, nat_tests)

charge_room : (n : ℕ) (f : ℤ) → int_lt (pos n) f ≡ true → pos (n + 1) ≤ℤ f
charge_room n f h = grind (arith, ints, nat_tests)

all_came : (n : ℕ) (f : ℤ) → int_lt (pos n) f ≡ false → f ≤ℤ pos n
all_came n f h = grind (arith, ints, nat_tests)

pushed : {X : Type 0} (xs : List X) (x : X) → length (xs ++ x ∷ []) ≡ length xs + 1
pushed xs x = length-append xs (x ∷ [])

-- all charges came where a line behind them may stand
came : (ls : List TableLine) (l : TableLine) → IsSound ls → IsFineTableLine ls l → is_behind l ≡ true → fixed_of ls ≤ℤ pos (length (fixed_charges_in ls))
came ls l s fine behind = by (late_follow ls (last_of ls) l fine.follows behind)
  where
    by : (is_late (last_of ls) ≡ true) ⊎ AreAllCharges ls → fixed_of ls ≤ℤ pos (length (fixed_charges_in ls))
    by (inl late) = s.late late
    by (inr all) = all_came _ _ all

-- no charge and no class came where a line of the head may stand
none_yet : (ls : List TableLine) (l : TableLine) → IsSound ls → IsFineTableLine ls l → is_head l ≡ true → (fixed_charges_in ls ≡ []) × (spans_of ls ≡ [])
none_yet ls l s fine head = s.early (early_follow ls (last_of ls) l fine.follows head)

plain_more : (ls : List TableLine) (last : Option TableLine) → IsSound ls → (is_early last ≡ true → (fixed_charges_in ls ≡ []) × (spans_of ls ≡ [])) → (is_late last ≡ true → fixed_of ls ≤ℤ pos (length (fixed_charges_in ls))) → AreSound last (site_count_in ls) (fixed_of ls) (base_of ls) (minus_of ls) (plus_of ls) (fixed_charges_in ls) (spans_of ls)
plain_more ls last s early late = record { sites_low = s.sites_low; sites_high = s.sites_high; fixed_low = s.fixed_low; fixed_high = s.fixed_high; base = s.base; low = s.low; order = s.order; high = s.high; charged = s.charged; spanned = s.spanned; room = s.room; few = s.few; early = early; late = late }

sound_with : (ls : List TableLine) (l : TableLine) → IsSound ls → IsFineTableLine ls l → IsFaultless ls l → IsSoundWith ls l
sound_with ls FirstVersion s fine ok = still _ _ _ _ _ _ _ _ (plain_more ls (Some FirstVersion) s (λ _. none_yet ls FirstVersion s fine refl) (λ h. absurd (cc h)))
sound_with ls SecondVersion s fine ok = still _ _ _ _ _ _ _ _ (plain_more ls (Some SecondVersion) s (λ _. none_yet ls SecondVersion s fine refl) (λ h. absurd (cc h)))
sound_with ls (Sites n) s fine ok =
    let none = none_yet ls (Sites n) s fine refl in
    let no_class : length (spans_of ls) ≡ 0 = ap length none.1 in
    still _ _ _ _ _ _ _ _ (record { sites_low = from_zero n ok.in_range; sites_high = up_to MAX_SITES n ok.few_sites; fixed_low = s.fixed_low; fixed_high = s.fixed_high; base = s.base; low = s.low; order = s.order; high = s.high; charged = s.charged; spanned = s.spanned; room = omega (arith, no_class); few = s.few; early = λ _. none; late = λ h. absurd (cc h) })
sound_with ls (Fixed f) s fine ok =
    let none = none_yet ls (Fixed f) s fine refl in
    let no_class : length (spans_of ls) ≡ 0 = ap length none.1 in
    let no_charge : length (fixed_charges_in ls) ≡ 0 = ap length none.0 in
    let low = from_zero f ok.in_range in
    still _ _ _ _ _ _ _ _ (record { sites_low = s.sites_low; sites_high = s.sites_high; fixed_low = low; fixed_high = up_to MAX_FIXED f ok.few_fixed; base = s.base; low = s.low; order = s.order; high = s.high; charged = s.charged; spanned = s.spanned; room = omega (arith, no_class); few = subst (λ k. pos k ≤ℤ f) (sym no_charge) low; early = λ _. none; late = λ h. absurd (cc h) })
sound_with ls (Base b) s fine ok =
    let none = none_yet ls (Base b) s fine refl in
    still _ _ _ _ _ _ _ _ (record { sites_low = s.sites_low; sites_high = s.sites_high; fixed_low = s.fixed_low; fixed_high = s.fixed_high; base = two_or_three b ok.in_range; low = s.low; order = s.order; high = s.high; charged = s.charged; spanned = s.spanned; room = s.room; few = s.few; early = λ _. none; late = λ h. absurd (cc h) })
sound_with ls (Levels m p) s fine ok =
    let none = none_yet ls (Levels m p) s fine refl in
    let levels = levels_in m p ok.in_range in
    still _ _ _ _ _ _ _ _ (record { sites_low = s.sites_low; sites_high = s.sites_high; fixed_low = s.fixed_low; fixed_high = s.fixed_high; base = s.base; low = levels.0; order = levels.1; high = levels.2; charged = s.charged; spanned = s.spanned; room = s.room; few = s.few; early = λ _. none; late = λ h. absurd (cc h) })
sound_with ls (Charge q) s fine ok =
    let room = charge_room _ _ (charge_follow ls (last_of ls) q fine.follows) in
    rw (append-nil (spans_of ls)) (record { sites_low = s.sites_low; sites_high = s.sites_high; fixed_low = s.fixed_low; fixed_high = s.fixed_high; base = s.base; low = s.low; order = s.order; high = s.high; charged = All-push IsFixedCharge (fixed_charges_in ls) q s.charged (charge_in_range ls q ok.in_range); spanned = s.spanned; room = s.room; few = subst (λ k. pos k ≤ℤ fixed_of ls) (sym (pushed (fixed_charges_in ls) q)) room; early = λ h. absurd (cc h); late = λ h. absurd (cc h) })
sound_with ls (Class lo hi) s fine ok =
    let span = span_in_range ls lo hi ok.in_range ok.in_order in
    let room = one_more _ _ span.1 in
    rw (append-nil (fixed_charges_in ls)) (record { sites_low = s.sites_low; sites_high = s.sites_high; fixed_low = s.fixed_low; fixed_high = s.fixed_high; base = s.base; low = s.low; order = s.order; high = s.high; charged = s.charged; spanned = All-push IsSpan (spans_of ls) (lo, hi) s.spanned span.0; room = subst (λ k. k ≤ most_classes (site_count_in ls) (fixed_of ls)) (sym (pushed (spans_of ls) (lo, hi))) room; few = s.few; early = λ h. absurd (cc h); late = λ _. came ls (Class lo hi) s fine refl })
sound_with ls (Pair i j c) s fine ok = still _ _ _ _ _ _ _ _ (plain_more ls (Some (Pair i j c)) s (λ h. absurd (cc h)) (λ _. came ls (Pair i j c) s fine refl))
sound_with ls (Near i j c) s fine ok = still _ _ _ _ _ _ _ _ (plain_more ls (Some (Near i j c)) s (λ h. absurd (cc h)) (λ _. came ls (Near i j c) s fine refl))
sound_with ls End s fine ok = still _ _ _ _ _ _ _ _ (plain_more ls (Some End) s (λ h. absurd (cc h)) (λ _. came ls End s fine refl))

sound_more : (ls : List TableLine) (l : TableLine) → IsSound ls → IsFineTableLine ls l → IsSound (ls ++ l ∷ [])
sound_more ls l s fine =
    rw (last_push ls l, sites_push ls l, fixed_push ls l, base_push ls l, minus_push ls l, plus_push ls l, charges_push ls l, spans_push ls l) (sound_with ls l s fine (faultless ls _ l fine.faultless))

none_sound : IsSound []
none_sound = record { sites_low = omega (arith, ints); sites_high = omega (arith, ints); fixed_low = omega (arith, ints); fixed_high = omega (arith, ints); base = inl refl; low = omega (arith, ints); order = omega (arith, ints); high = omega (arith, ints); charged = All-nil IsFixedCharge; spanned = All-nil IsSpan; room = omega arith; few = omega (arith, ints); early = λ _. (refl, refl); late = λ h. absurd (cc h) }

-- fine lines give numbers in range
pub sound : (ls : List TableLine) → AreFineTableLines [] ls → IsSound ls
sound ls fine = along IsSound sound_more [] ls none_sound fine
