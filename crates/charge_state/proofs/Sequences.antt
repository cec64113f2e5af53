-- going through all charge lists of one length and base
use Rattle.std.proofs.Common.{◌≡◌, ℕ, zero, suc, ◌+◌, ◌^◌, ◌≤◌, List, [], ◌∷◌, ◌++◌, length, replicate, Some, None, ◌⊎◌, inl, inr, refl, sym, ap, subst, ◌∙◌, arith, Option}
use Rattle.std.specs.Prelude.{All, AllPairs, Contains}
use Rattle.std.proofs.lemmas.List.{length-replicate}
use Rattle.std.proofs.lemmas.List.Elements.{All-nil, All-cons}
use Rattle.std.proofs.lemmas.List.Kept.{AllPairs-cons}
use Rattle.charge_model.specs.declared.charge.Charge.{Charge}
use Rattle.charge_model.specs.declared.charge.Charge.TheVariants.{Neg}
use Rattle.charge_model.specs.Charges.{IsBefore, IsOfBase, IsNext, IsLast}
use Rattle.charge_state.specs.Order.{successor_of, GoesOnFrom, IsRun, IsListOf, HoldsEach}
use Rattle.charge_state.proofs.Numerals.{AllLast, none_after_last, first-least, fill_of_base, next_is, numeral, numeral-lt, numeral-mono}
use Rattle.charge_model.proofs.Order.{IsBefore-trans}

contains_later : (x : List Charge) (xs : List (List Charge)) (e : List Charge) → Contains xs e → Contains (x ∷ xs) e
contains_later x xs e (k, lt, at) = (suc k, omega (arith, lt), at)

-- each list from c on is met
run_each : (b : ℕ) (c : List Charge) (rest : List (List Charge)) → GoesOnFrom b c rest
    → (e : List Charge) → length e ≡ length c → IsOfBase b e → (e ≡ c) ⊎ IsBefore c e → Contains (c ∷ rest) e
run_each b c [] goes e same of (inl eq) = (0, omega arith, sym eq)
run_each b c [] goes e same of (inr before) = absurd (goes e same of before)
run_each b c (d ∷ rest) goes e same of (inl eq) = (0, omega arith, sym eq)
run_each b c (d ∷ rest) goes e same of (inr before) =
    let next = goes.0 in
    contains_later c (d ∷ rest) e (run_each b d rest goes.1 e (same ∙ sym next.whole) of (next.none_between e same of before))

run_only : (b n : ℕ) (c : List Charge) (rest : List (List Charge)) → GoesOnFrom b c rest → IsListOf b n c → All (IsListOf b n) (c ∷ rest)
run_only b n c [] goes is = All-cons (IsListOf b n) c [] is (All-nil (IsListOf b n))
run_only b n c (d ∷ rest) goes is =
    let next = goes.0 in
    All-cons (IsListOf b n) c (d ∷ rest) is (run_only b n d rest goes.1 (record { whole = next.whole ∙ is.whole; of_base = next.of_base }))

run_above : (b : ℕ) (c : List Charge) (rest : List (List Charge)) (a : List Charge) → GoesOnFrom b c rest → IsBefore a c → All (IsBefore a) (c ∷ rest)
run_above b c [] a goes before = All-cons (IsBefore a) c [] before (All-nil (IsBefore a))
run_above b c (d ∷ rest) a goes before =
    let next = goes.0 in
    All-cons (IsBefore a) c (d ∷ rest) before (run_above b d rest a goes.1 (IsBefore-trans a c d before next.after))

run_in_order : (b : ℕ) (c : List Charge) (rest : List (List Charge)) → GoesOnFrom b c rest → AllPairs IsBefore (c ∷ rest)
run_in_order b c [] goes = AllPairs-cons IsBefore c [] (All-nil (IsBefore c)) (λ i j d lt within. absurd (omega (arith, within)))
run_in_order b c (d ∷ rest) goes =
    let next = goes.0 in
    AllPairs-cons IsBefore c (d ∷ rest) (run_above b d rest c goes.1 next.after) (run_in_order b d rest goes.1)

pub run_holds_each : (b n : ℕ) (lists : List (List Charge)) → IsRun b n lists → HoldsEach b n lists
run_holds_each b n [] run = absurd run
run_holds_each b n (c ∷ rest) run =
    let whole : length c ≡ n = ap length run.0 ∙ length-replicate n Neg in
    let of_base : IsOfBase b c = subst (IsOfBase b) (sym run.0) (fill_of_base b n) in
    record {
      in_order = run_in_order b c rest run.1;
      only = run_only b n c rest run.1 (record { whole = whole; of_base = of_base });
      each = λ e of. run_each b c rest run.1 e (of.whole ∙ sym whole) of.of_base
          (subst (λ z. (e ≡ z) ⊎ IsBefore z e) (sym run.0) (first-least n e of.whole));
    }

-- a list has a last place whose charge can be raised
abbrev IsSplit : ℕ → List Charge → Type 0
IsSplit b cs = (pre : List Charge) × (x : Charge) × (rest : List Charge) × (d : Charge)
    × (cs ≡ pre ++ x ∷ rest) × (successor_of b x ≡ Some d) × AllLast b rest

-- a list has a next one, or is the last
next_or_last : (b : ℕ) (c : List Charge) → IsOfBase b c → ((d : List Charge) × IsNext b c d) ⊎ IsLast b c
next_or_last b c of = by (split c)
  where
    from : (x : Charge) (xs : List Charge) → AllLast b xs → (o : Option Charge) → successor_of b x ≡ o → AllLast b (x ∷ xs) ⊎ IsSplit b (x ∷ xs)
    from x xs all None is = inl (is, all)
    from x xs all (Some d) is = inr ([], x, xs, d, refl, is, all)

    onto : (x : Charge) (xs : List Charge) → AllLast b xs ⊎ IsSplit b xs → AllLast b (x ∷ xs) ⊎ IsSplit b (x ∷ xs)
    onto x xs (inl all) = from x xs all (successor_of b x) refl
    onto x xs (inr (pre, y, rest, d, is, up, all)) = inr (x ∷ pre, y, rest, d, ap (λ z. x ∷ z) is, up, all)

    split : (cs : List Charge) → AllLast b cs ⊎ IsSplit b cs
    split [] = inl tt
    split (x ∷ xs) = onto x xs (split xs)

    by : AllLast b c ⊎ IsSplit b c → ((d : List Charge) × IsNext b c d) ⊎ IsLast b c
    by (inl all) = inr (none_after_last b c all)
    by (inr (pre, x, rest, d, is, up, all)) =
        let next = next_is b pre x d rest up all (subst (IsOfBase b) is of) in
        inl (pre ++ d ∷ replicate (length rest) Neg, subst (λ z. IsNext b z (pre ++ d ∷ replicate (length rest) Neg)) (sym is) next)

-- going on from c ends
goes_on : (fuel b : ℕ) (c : List Charge) → IsOfBase b c → 3 ^ length c ≤ numeral c + fuel → (rest : List (List Charge)) × GoesOnFrom b c rest
goes_on zero b c of enough = absurd (omega (arith, enough, numeral-lt c))
goes_on (suc fuel) b c of enough = by (next_or_last b c of) (goes_on fuel b)
  where
    by : ((d : List Charge) × IsNext b c d) ⊎ IsLast b c
        → ((d : List Charge) → IsOfBase b d → 3 ^ length d ≤ numeral d + fuel → (rest : List (List Charge)) × GoesOnFrom b d rest)
        → (rest : List (List Charge)) × GoesOnFrom b c rest
    by (inl (d, next)) from =
        let above = numeral-mono c d next.whole next.after in
        let power : 3 ^ length d ≡ 3 ^ length c = ap (λ z. 3 ^ z) next.whole in
        let tail = from d next.of_base (omega (arith, enough, above, power)) in
        (d ∷ tail.0, (next, tail.1))
    by (inr last) from = ([], last)

pub run_ends : (b n : ℕ) → (lists : List (List Charge)) × IsRun b n lists
run_ends b n =
    let c : List Charge = replicate n Neg in
    let tail = goes_on (3 ^ length c) b c (fill_of_base b n) (omega arith) in
    (c ∷ tail.0, (refl, tail.1))
