use Rattle.certificate_check.proofs.Feeding.{told_sound, told_refused}
use Rattle.certificate_check.proofs.laws.fed_checkers_tell.Goals as goal

pub returns-clause-sound : goal.returns-clause-sound
returns-clause-sound c = told_sound

pub returns-clause-refused : goal.returns-clause-refused
returns-clause-refused c = told_refused
