use Rattle.std.proofs.Common.{w64, subst, arith}
use Rattle.std.specs.Prelude.{ℤ, ◌<◌, ◌^◌, unsigned_abs, OnOk, IfErr}
use Rattle.std.proofs.lemmas.Int.{ints, to_z-of_z, fits_signed_from_abs}
use Rattle.window_model.specs.Windows.{IsWindow, IsMarkedWindowList}
use Rattle.certificate_model.specs.Certificates.{IsSound}
use Rattle.certificate_check.specs.Checking.{IsNoCertificate}
use Rattle.energy_window.proofs.checking.check_window.Goals as goal

small : (window : ℤ) → IsWindow window → unsigned_abs window < 2 ^ 63
small window is = let least = is.least in let greatest = is.greatest in omega (arith, ints, least, greatest)

pub returns-clause-sound : goal.returns-clause-sound
returns-clause-sound c =
    let of = c.args.certificate.now in
    let fits = fits_signed_from_abs w64 of.window (small of.window c.requires.window) in
    let same = simp to_z-of_z at c.window_of.ensures in
    subst (λ w. OnOk c.check_within.result (IsSound of.problem w of.list of.tokens)) same c.check_within.ensures.sound

pub returns-clause-within : goal.returns-clause-within
returns-clause-within c =
    let of = c.args.certificate.now in
    let fits = fits_signed_from_abs w64 of.window (small of.window c.requires.window) in
    let same = simp to_z-of_z at c.window_of.ensures in
    subst (λ w. OnOk c.check_within.result (IsMarkedWindowList of.problem w of.list)) same c.check_within.ensures.within

pub returns-clause-refused : goal.returns-clause-refused
returns-clause-refused c =
    let of = c.args.certificate.now in
    let fits = fits_signed_from_abs w64 of.window (small of.window c.requires.window) in
    let same = simp to_z-of_z at c.window_of.ensures in
    subst (λ w. IfErr c.check_within.result (IsNoCertificate of.problem w of.list of.tokens)) same c.check_within.ensures.refused
