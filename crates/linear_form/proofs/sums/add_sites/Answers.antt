use Rattle.std.proofs.Common.{◌≡◌, ◌+ℤ◌, ◌*ℤ◌, FitsSigned, w64, arith, ap, ◌∙◌, refl}
use Rattle.std.proofs.lemmas.Int.{to_z-of_z}
use Rattle.charge_model.specs.Charges.{number_at}
use Rattle.charge_model.specs.Problem.{class_of}
use Rattle.linear_form.specs.Forms.{weighed}
use Rattle.linear_form.proofs.Potentials.{potential_other, potential_same}
use Rattle.linear_form.proofs.sums.add_sites.Goals as goal
use Rattle.linear_form.proofs.sums.add_sites.Goals.{then-j-i, else-j-i}

pub loop-j-preserved : goal.loop-j-preserved
loop-j-preserved c =
    let p = c.args.problem.now in
    let cs = c.args.charges.now in
    let i = c.args.i in
    let j = c.loop-j.j in
    elim c.if-j-i.branch [
      | then-j-i w ↦
          let fits : FitsSigned w64 w.signed-term.result = record { sfits = w.signed-term.type_inv } in
          let sign_fits : FitsSigned w64 c.args.sign = c.ranges.sign in
          let weight = simp to_z-of_z at w.add_term.ensures.weight in
          let sign_is = simp to_z-of_z at w.signed-term.ensures.value in
          record {
            weight = rw w.coefficients-is (omega (arith, weight, w.signed-term.ensures.small));
            value = λ t.
                let before = simp to_z-of_z at (c.loop-j.invariant.value t) in
                let added = simp to_z-of_z at (w.add_term.ensures.value t.potential) in
                let term : w.signed-term.result *ℤ t.potential w.class.result ≡ (c.args.sign *ℤ number_at cs j) *ℤ t.potential (class_of p i j) =
                rw (sign_is, w.at.ensures, w.class.ensures.value) refl in
                rw w.coefficients-is (simp to_z-of_z (added ∙ ap (λ z. weighed c.loop-j.coefficients t.potential +ℤ z) term ∙ potential_other p t cs i j c.args.sign _ _ w.if-j-i.true before));
          }
      | else-j-i w ↦ record {
        weight = rw w.coefficients-is (omega (arith, c.loop-j.invariant.weight));
        value = λ t.
            let sign_fits : FitsSigned w64 c.args.sign = c.ranges.sign in
            let before = simp to_z-of_z at (c.loop-j.invariant.value t) in
            rw w.coefficients-is (simp to_z-of_z (potential_same p t cs i j c.args.sign _ _ w.if-j-i.false before));
      }
    ]
