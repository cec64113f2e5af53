-- one token too few, tokens that lead elsewhere, a checker that has begun, and refusals that are none
use Rattle.std.proofs.Common.{◌≡◌, pos, [], Ok, refl, ap, arith}
use Rattle.charge_model.proofs.StandardFacts.{neighbours}
use Rattle.certificate_model.specs.declared.token.Token.TheVariants.{Node}
use Rattle.certificate_model.specs.declared.refusal.CertRefusal.TheVariants.{Short}
use Rattle.certificate_model.proofs.TwoNeighbours.{two_entries, two_tokens}
use Rattle.certificate_check.specs.Checking.{HasPassed, AcceptsToken, RefusesToken, HasGoneOn, IsOpening, IsFinished}
use Rattle.certificate_check.proofs.StandardFacts.{at_first, after_one, at_end}

one_is_not_ten : HasPassed after_one two_tokens → ⊥
one_is_not_ten passed = let many = passed.many in omega (arith, many)

nowhere_is_not_first : HasPassed (record at_end { passed = 0 }) [] → ⊥
nowhere_is_not_first passed = let trail = passed.trail in absurd (cc)

not_opening : IsOpening neighbours (pos 0) two_entries after_one → ⊥
not_opening same = let passed : 1 ≡ 0 = ap (λ s. s.passed) same in omega (arith, passed)

none_accepted_at_the_end : AcceptsToken at_end Node → ⊥
none_accepted_at_the_end (prefix, at, passes) = absurd (cc)

not_short : RefusesToken at_end Node Short → ⊥
not_short same = absurd (cc)

not_still : HasGoneOn at_first at_first Node → ⊥
not_still on = let passed = on.passed in omega (arith, passed)

-- a checker that has taken no token does not accept
not_accepted : IsFinished at_first (Ok tt) → ⊥
not_accepted accepts = let sound = accepts [] (record { many = refl; trail = refl }) in let whole = sound.whole in absurd (cc)
