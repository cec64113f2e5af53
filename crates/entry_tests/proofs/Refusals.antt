-- a rival's gap that forgets the window, a rival that the window leaves none, and entries whose marks the window changes
use Rattle.std.proofs.Common.{pos, negsuc, [], refl, arith}
use Rattle.std.proofs.lemmas.Int.{ints}
use Rattle.charge_model.proofs.StandardFacts.{span}
use Rattle.certificate_model.specs.declared.refusal.EntryWhy.TheVariants.{Mark}
use Rattle.certificate_model.proofs.FourLists.{outer, inner}
use Rattle.certificate_model.proofs.FourRivals.{four_rivals, outer_valid, certain}
use Rattle.certificate_model.proofs.RivalCertificates.{unresolved_entries, unresolved_sound}
use Rattle.entry_tests.specs.Rivals.{IsSometimesBelowBy}
use Rattle.entry_tests.specs.Refusing.{FailsAt}

not_below_by_one : IsSometimesBelowBy four_rivals (pos 1) inner outer (span (negsuc 0) (pos 1) (omega (arith, ints))) → ⊥
not_below_by_one below =
    let at = below.fails in
    let most = (certain outer outer_valid (0, omega arith, refl)).least 1 [] (omega arith) at.0 at.1 in
    let less = at.2 in
    omega (arith, ints, most, less)

-- the mark of the first entry is not refused
not_refused : FailsAt four_rivals (pos 0) unresolved_entries 0 Mark → ⊥
not_refused fails = fails.fails (unresolved_sound.entries 0 (omega arith) Mark)
