-- what a sink took of texts that were given to it one after another
use Rattle.std.proofs.Common.{◌≡◌, ◌∙◌, sym, ap, refl, subst, arith, ℕ, ◌+◌, ◌<◌, ◌≤◌, ◌⊎◌, inl, inr, List, [], ◌++◌, length, take, append_assoc, Option, Some, None}
use Rattle.std.specs.Io.KnownBytes.{append_known}
use Rattle.std.proofs.lemmas.Bool.{cases_lt}
use Rattle.std.proofs.lemmas.List.{append-nil, take_all, take-append-le}
use Rattle.std.proofs.Math.Seq.{take-append_seam, take-append-add}
use Rattle.sidb_io.specs.Outside.{Took, TookFront}

took_none : (a : Option (List ℕ)) → Took a [] a
took_none None = refl
took_none (Some xs) = ap Some (sym (append-nil xs))

-- all of one text, and then of another
pub took_then : (a b c : Option (List ℕ)) (x y : List ℕ) → Took a x b → Took b y c → Took a (x ++ y) c
took_then None b c x y first second = second ∙ ap (λ o. append_known o y) first
took_then (Some xs) b c x y first second = second ∙ ap (λ o. append_known o y) first ∙ ap Some (append_assoc xs x y)

pub front_none : (a : Option (List ℕ)) (x : List ℕ) → TookFront a x a
front_none a x = (0, took_none a)

-- a front of a text is a front of what begins with it
pub front_more : (a b : Option (List ℕ)) (x y : List ℕ) → TookFront a x b → TookFront a (x ++ y) b
front_more a b x y (n, took) = by (cases_lt (length x) n)
  where
    by : (length x < n) ⊎ (n ≤ length x) → TookFront a (x ++ y) b
    by (inl longer) =
        let same : take n x ≡ take (length x) (x ++ y) = take_all n x (omega (arith, longer)) ∙ sym (take-append_seam x y) in
        (length x, subst (λ z. Took a z b) same took)
    by (inr within) = (n, subst (λ z. Took a z b) (sym (take-append-le n x y within)) took)

-- all of one text, and then a front of another
pub front_then : (a b c : Option (List ℕ)) (x y : List ℕ) → Took a x b → TookFront b y c → TookFront a (x ++ y) c
front_then a b c x y first (n, took) = (length x + n, subst (λ z. Took a z c) (sym (take-append-add x y n)) (took_then a b c x (take n y) first took))

-- a text in three parts, written one after another
module _ (text head lines tail : List ℕ) (whole : text ≡ head ++ (lines ++ tail)) (a b c d : Option (List ℕ)) where
  pub cut_in_head : TookFront a head b → TookFront a text b
  cut_in_head first = subst (λ z. TookFront a z b) (sym whole) (front_more a b head (lines ++ tail) first)

  pub cut_in_lines : Took a head b → TookFront b lines c → TookFront a text c
  cut_in_lines first second = subst (λ z. TookFront a z c) (sym whole) (front_then a b c head (lines ++ tail) first (front_more b c lines tail second))

  pub cut_in_tail : Took a head b → Took b lines c → TookFront c tail d → TookFront a text d
  cut_in_tail first second third = subst (λ z. TookFront a z d) (sym whole) (front_then a b d head (lines ++ tail) first (front_then b c d lines tail second third))

  pub uncut : Took a head b → Took b lines c → Took c tail d → Took a text d
  uncut first second third = subst (λ z. Took a z d) (sym whole) (took_then a b d head (lines ++ tail) first (took_then b c d lines tail second third))
