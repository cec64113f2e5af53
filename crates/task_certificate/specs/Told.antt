-- what certificates tell
use Rattle.std.specs.Prelude.{ℕ, pos, List}
use Rattle.charge_model.specs.Problem.{Problem}
use Rattle.charge_model.specs.GroundList.{Entry, IsMarkedGroundList}
use Rattle.command_words.specs.declared.settings.Settings.{Settings}
use Rattle.certificate_model.specs.declared.token.Token.{Token}
use Rattle.certificate_model.specs.Certificates.{IsSound}
use Rattle.certificate_reading.specs.Texts.{IsCertText}
use Rattle.task_ground.specs.GroundAnswer.{IsReport}
use Rattle.task_ground.specs.Told.{HoldsUnderEachTable}
use Rattle.task_certificate.specs.CheckAnswer.{about_certificate}

-- the text is that of a sound certificate of the problem
pub record TellsSoundCertificate (p : Problem) (text : List ℕ) : Type 0 where
  pub entries : List Entry
  pub tokens : List Token
  pub means : IsCertText p entries tokens text
  pub sound : IsSound p (pos 0) entries tokens

-- the bytes are a certificate, whoever made it, and the text is the report of its list, which is
-- the marked ground list of its problem and holds so under each potential table
pub record TellsCheckedList (s : Settings) (bytes text : List ℕ) : Type 0 where
  pub problem : Problem
  pub entries : List Entry
  pub tokens : List Token
  pub means : IsCertText problem entries tokens bytes
  pub prints : IsReport s about_certificate problem entries text
  pub ground : IsMarkedGroundList problem entries
  pub holds : HoldsUnderEachTable problem entries
