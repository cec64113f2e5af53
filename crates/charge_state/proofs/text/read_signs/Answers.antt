use Rattle.std.proofs.Common.{◌∷◌, [], ◌++◌, refl, ◌∙◌, arith}
use Rattle.charge_state.proofs.Readings.{other_breaks, sign_more, sign_kept, sign_lost}
use Rattle.charge_state.proofs.text.read_signs.Goals as goal
use Rattle.charge_state.proofs.text.read_signs.Goals.{then-len-lt-MAX_SITES, else-len-lt-MAX_SITES}

pub returns-in_default : goal.returns-in_default
returns-in_default c =
    other_breaks c.args.text.now c.loop-i.i _ c.loop-i.invariant.0 c.loop-i-test.true c.loop-i.invariant.1 refl c.requires.no_point c.in_default.ensures.none

pub loop-i-preserved : goal.loop-i-preserved
loop-i-preserved c =
    let read = c.loop-i.invariant.0 in
    let kept = c.loop-i.invariant.2 in
    let more = sign_more c.args.text.now c.loop-i.i _ read c.in-Some.charge c.loop-i-test.true c.loop-i.invariant.1 refl c.in-Some.ensures.found in (
      read ++ c.in-Some.charge ∷ [],
      more,
      λ small. elim c.if-len-lt-MAX_SITES.branch [
        | then-len-lt-MAX_SITES w ↦ sign_kept read c.loop-i.charges c.if-len-lt-MAX_SITES.charges c.in-Some.charge kept small (w.charges-is ∙ w.push.ensures)
        | else-len-lt-MAX_SITES w ↦ absurd (sign_lost read c.loop-i.charges c.in-Some.charge kept small (omega (arith, w.if-len-lt-MAX_SITES.false, c.len.ensures.value)))
      ],
    )
