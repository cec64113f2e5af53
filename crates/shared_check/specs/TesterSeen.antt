-- the fields of a tester
use Rattle.std.specs.Prelude.{◌≡◌, ℕ, Option, Some, None}
use Rattle.charge_model.specs.Charges.{IsOfBase}
use Rattle.certificate_model.specs.declared.token.Token.{Token}
use Rattle.shared_check.specs.declared.tester.Tester.TheInside.{Inside}

-- what the fields stand for: the first refused token
abbrev pub seen : Inside → Option Token
seen s = s.refused

-- the track is a prefix of the problem
pub record IsTester (s : Inside) : Type 0 where
  pub problem : s.track.problem ≡ s.setting.now.problem
  pub of_base : IsOfBase s.setting.now.problem.base s.track.prefix

-- one fault where a token was refused
abbrev pub faults_of : Option Token → ℕ
faults_of None = 0
faults_of (Some token) = 1
