use Rattle.std.proofs.Common.{◌≡◌, ◌≢◌, ◌∙◌, sym, subst, ap, ◌+◌, ◌-◌, [], length, take, drop, inl, true, false, refl}
use Rattle.std.proofs.lemmas.List.{take_rest}
use Rattle.std.proofs.lemmas.Result.{err_from_is_err_and}
use Rattle.sqd_scan.specs.Fronts.{IsFaultOf}
use Rattle.sqd_nesting.specs.Faults.{IsStray}
use Rattle.sqd_nesting.specs.Texts.{Nest}
use Rattle.sqd_nesting.specs.Views.{nest_of}
use Rattle.sqd_scan.specs.declared.fault.SqdFault.TheVariants.{BadMark}
use Rattle.std.specs.Prelude.{◌==◌}
use Rattle.std.proofs.Common.{Bool, ℕ}
use Rattle.sqd_nesting.proofs.Betweens.{loud, behind, scanned, some_ahead}
use Rattle.sqd_nesting.proofs.ahead.next_mark.Goals as goal

not_both : {b : Bool} → b ≡ true → b ≡ false → ⊥
not_both t f = cc (t, f)

pub returns-in-Some-clause-fault : goal.returns-in-Some-clause-fault
returns-in-Some-clause-fault c =
    let n : Nest = nest_of c.args.nesting.now in
    let h = c.in-Some.ensures in
    loud c.args.at n c.args.left.now c.text_len-gap.result c.in-Some.k h.outside c.text_len-gap.ensures.within c.text_len-gap.ensures.text h.within h.before h.found

pub returns-then-is_stray-clause-fault : goal.returns-then-is_stray-clause-fault
returns-then-is_stray-clause-fault c =
    let n : Nest = nest_of c.args.nesting.now in
    let is_stray : IsStray n (take (length c.args.left.now - c.text_len-gap.result) (drop c.text_len-gap.result c.args.left.now)) = c.is_stray.ensures.0 c.if-is_stray.true in
    let stray = subst (IsStray n) (take_rest c.args.left.now c.text_len-gap.result) is_stray in
    behind c.args.at n c.args.left.now c.text_len-gap.result (c.args.at + c.text_len-gap.result) (BadMark (c.args.at + c.text_len-gap.result)) refl c.text_len-gap.ensures.within c.text_len-gap.ensures.text c.in_default.ensures.none c.text_len-gap.ensures.next (inl (refl, stray))

pub returns-clause-ahead : goal.returns-clause-ahead
returns-clause-ahead c =
    let n : Nest = nest_of c.args.nesting.now in
    some_ahead n c.args.left.now (take (length c.args.left.now - c.text_len-gap.result) (drop c.text_len-gap.result c.args.left.now)) c.text_len-gap.result c.in_ok-whole.whole (take_rest c.args.left.now c.text_len-gap.result) c.text_len-gap.ensures.within c.in_ok-whole.ensures.within c.in_ok-whole.ensures.some c.text_len-gap.ensures.text c.in_default.ensures.none c.in_ok-whole.ensures.whole (λ s. not_both (c.is_stray.ensures.1 s) c.if-is_stray.false)

pub returns-in_err-whole-clause-fault : goal.returns-in_err-whole-clause-fault
returns-in_err-whole-clause-fault c =
    let n : Nest = nest_of c.args.nesting.now in
    let at : ℕ = c.args.at + c.text_len-gap.result in
    let same = take_rest c.args.left.now c.text_len-gap.result in
    let some : drop c.text_len-gap.result c.args.left.now ≢ [] = λ e.
    let yes : c.is_empty.result ≡ true = c.is_empty.ensures ∙ ap (λ r. length r == 0) (same ∙ e) in
    not_both yes c.if-is_empty.false in
    let calm : IsStray n (drop c.text_len-gap.result c.args.left.now) → ⊥ = λ s. not_both (c.is_stray.ensures.1 (subst (IsStray n) (sym same) s)) c.if-is_stray.false in
    let returned = err_from_is_err_and c.from_residual.result c.from_residual.ensures.1 in
    let fault = c.in_err-whole.field-0.0 in
    let scan = subst (λ r. IsFaultOf at r fault) same c.in_err-whole.ensures.fault in
    rw (returned.1, returned.2) (behind c.args.at n c.args.left.now c.text_len-gap.result at fault refl c.text_len-gap.ensures.within c.text_len-gap.ensures.text c.in_default.ensures.none c.text_len-gap.ensures.next (scanned at n (drop c.text_len-gap.result c.args.left.now) fault some calm scan))
