-- a checker over the certificate of two neighbours, before its first token, at its end and at a refusal, worked by hand
use Rattle.std.proofs.Common.{◌≡◌, pos, true, [], ◌∷◌, Some, None, refl, arith}
use Rattle.charge_model.specs.declared.charge.Charge.TheVariants.{Neg}
use Rattle.charge_model.proofs.StandardFacts.{neighbours}
use Rattle.certificate_model.specs.declared.token.Token.TheVariants.{Node, Listed}
use Rattle.certificate_model.specs.declared.refusal.CloseWhy.TheVariants.{Shape}
use Rattle.certificate_model.specs.declared.refusal.CertRefusal.TheVariants.{Close, Long}
use Rattle.certificate_model.proofs.TwoNeighbours.{two_entries, two_lists, two_tokens, two_trail, node}
use Rattle.certificate_model.proofs.Failing.{fails_shape}
use Rattle.certificate_check.specs.declared.refused.Refused.{Refused}
use Rattle.certificate_check.specs.Climbing.{place_of}
use Rattle.certificate_check.specs.Checking.{Certified, Checking, HasPassed, AcceptsToken, RefusesToken, HasGoneOn, HasRefused, IsOpening, refused_token, faults_of}

abbrev pub over_two : Certified
over_two = record { problem = neighbours; window = pos 0; entries = two_entries }

abbrev pub at_first : Checking
at_first = record { over = over_two; passed = 0; place = Some []; refused = None }

abbrev pub after_one : Checking
after_one = record { over = over_two; passed = 1; place = Some (Neg ∷ []); refused = None }

abbrev pub at_end : Checking
at_end = record { over = over_two; passed = 10; place = None; refused = None }

abbrev pub too_early : Refused
too_early = record { token = Listed 0; refusal = Close 0 Shape }

opening : IsOpening neighbours (pos 0) two_entries at_first
opening = refl

none_passed : HasPassed at_first []
none_passed = record { many = refl; trail = refl }

all_passed : HasPassed at_end two_tokens
all_passed = record { many = refl; trail = two_trail }

accepts_a_node : AcceptsToken at_first Node
accepts_a_node = ([], refl, node [] (omega arith))

one_step_on : HasGoneOn at_first after_one Node
one_step_on = record { over = refl; passed = refl; place = λ prefix at. cc at; refused = refl }

refuses_an_entry : RefusesToken at_first (Listed 0) (Close 0 Shape)
refuses_an_entry = (Shape, refl, fails_shape neighbours (pos 0) two_lists [] (Listed 0) (λ full. absurd (cc)))

refuses_more : RefusesToken at_end Node Long
refuses_more = refl

after_a_refusal : HasRefused at_first (record at_first { refused = Some too_early }) (Listed 0) (Close 0 Shape)
after_a_refusal = record { over = refl; passed = refl; place = refl; refused = refl }

one_fault : faults_of (Some too_early) ≡ 1
one_fault = refl

its_token : refused_token (Some too_early) ≡ Some (Listed 0)
its_token = refl

nowhere_at_the_end : place_of true (Neg ∷ []) ≡ None
nowhere_at_the_end = refl
