-- four sites whose two entries decide each other's marks: what the tests of entries answer, worked by hand
use Rattle.std.proofs.Common.{pos, negsuc, None, refl, arith}
use Rattle.std.proofs.lemmas.Int.{ints}
use Rattle.charge_model.proofs.StandardFacts.{span}
use Rattle.certificate_model.proofs.FourLists.{outer, inner, four_lists}
use Rattle.certificate_model.proofs.FourRivals.{four_rivals, outer_valid, outer_decided, none_beats, certain}
use Rattle.certificate_model.proofs.RivalCertificates.{unresolved_entries, certain_entries, unresolved_sound, certain_sound}
use Rattle.entry_tests.specs.Beaten.{BeatsNoneBy}
use Rattle.entry_tests.specs.Rivals.{AreNotAboveBy, IsSometimesBelowBy}
use Rattle.entry_tests.specs.Refusing.{AreTested, IsEntryTested}

-- the inner list may lie below the outer one, by at most 10^-12 eV
pub inner_below : IsSometimesBelowBy four_rivals (pos 0) inner outer (span (negsuc 0) (pos 1) (omega (arith, ints)))
inner_below = record { fails = outer_decided.fails; gap = record { least = outer_decided.least_slack; greatest = outer_decided.greatest_slack } }

-- and by no more
outer_not_above : AreNotAboveBy four_rivals (pos 1) outer four_lists
outer_not_above = (certain outer outer_valid (0, omega arith, refl)).least

-- neither beats the other
outer_unbeaten : BeatsNoneBy four_rivals (pos 0) four_lists outer
outer_unbeaten w held = none_beats (pos 0) (omega (arith, ints)) w outer held (0, omega arith, refl)

-- the entries with these marks are sound, for a window of 0 and for one of 10^-12 eV
unresolved_tested : AreTested four_rivals (pos 0) unresolved_entries None
unresolved_tested = unresolved_sound.entries

certain_tested : AreTested four_rivals (pos 1) certain_entries None
certain_tested = certain_sound.entries

first_tested : IsEntryTested four_rivals (pos 0) unresolved_entries 0 None
first_tested = unresolved_sound.entries 0 (omega arith)
