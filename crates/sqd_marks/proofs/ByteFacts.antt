-- Kinds of bytes, and bytes that pass a test.
use Rattle.std.proofs.Common.{◌≡◌, sym, ap, refl, subst, ℕ, ◌+◌, ◌<◌, List, [], ◌∷◌, ◌++◌, Bool, true, false, cond, ◌⊎◌, inl, inr, eqb, leb, ◌&&◌, ◌||◌, length, take, get_or}
use Rattle.std.proofs.lemmas.Bool.{eqb-true}
use Rattle.std.proofs.lemmas.List.{take_more}
use Rattle.sqd_marks.specs.Bytes.{is_blank, begins_name, is_in_name, Each}

-- the two ways of a choice
pub tells : (t : Bool) → (t ≡ true) ⊎ (t ≡ false)
tells true = inl refl
tells false = inr refl

pub cond_true : {X : Type 0} (t : Bool) (x y : X) → t ≡ true → cond t x y ≡ x
cond_true true x y e = refl
cond_true false x y e = absurd (cc)

pub cond_false : {X : Type 0} (t : Bool) (x y : X) → t ≡ false → cond t x y ≡ y
cond_false true x y e = absurd (cc)
cond_false false x y e = refl

pub or_true : (a b : Bool) → (a || b) ≡ true → (a ≡ true) ⊎ (b ≡ true)
or_true true b e = inl refl
or_true false b e = inr e

-- a blank is none of the bytes of names
pub blank_not_name : (b : ℕ) → is_blank b ≡ true → is_in_name b ≡ false
blank_not_name b h = elim (or_true (eqb b 32 || eqb b 9 || eqb b 13) (eqb b 10) h) [
  | inl e ↦ elim (or_true (eqb b 32 || eqb b 9) (eqb b 13) e) [
    | inl f ↦ elim (or_true (eqb b 32) (eqb b 9) f) [
      | inl g ↦ subst (λ n. is_in_name n ≡ false) (sym (eqb-true b 32 g)) refl
      | inr g ↦ subst (λ n. is_in_name n ≡ false) (sym (eqb-true b 9 g)) refl
    ]
    | inr f ↦ subst (λ n. is_in_name n ≡ false) (sym (eqb-true b 13 f)) refl
  ]
  | inr e ↦ subst (λ n. is_in_name n ≡ false) (sym (eqb-true b 10 e)) refl
]

pub begins_in_name : (b : ℕ) → begins_name b ≡ true → is_in_name b ≡ true
begins_in_name b h = ap (λ t. t || leb 48 b && leb b 57 || eqb b 45 || eqb b 46) h

pub name_not_blank : (b : ℕ) → is_in_name b ≡ true → is_blank b ≡ false
name_not_blank b h = elim (tells (is_blank b)) [
  | inl e ↦ let no = blank_not_name b e in absurd (cc (no, h))
  | inr e ↦ e
]

-- more bytes of a kind
pub each_more : (p : ℕ → Bool) (w : List ℕ) (b : ℕ) → Each p w → p b ≡ true → Each p (w ++ b ∷ [])
each_more p [] b h e = (e, tt)
each_more p (x ∷ w) b h e = (h.0, each_more p w b h.1 e)

-- one byte more that passes
pub each_taken : (p : ℕ → Bool) (xs : List ℕ) (i : ℕ) → i < length xs → Each p (take i xs) → p (get_or xs i 0) ≡ true → Each p (take (i + 1) xs)
each_taken p xs i l h e = subst (Each p) (sym (take_more xs i 0 l)) (each_more p (take i xs) (get_or xs i 0) h e)
