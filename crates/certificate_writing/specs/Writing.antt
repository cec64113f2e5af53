-- the certificate that is written for a problem, and what a sink took of its text
use Rattle.std.specs.Prelude.{◌≡◌, ℕ, ℤ, pos, List, Option, Result, Ok, Err}
use Rattle.charge_model.specs.Problem.{Problem}
use Rattle.charge_model.specs.Tree.{IsLeastCertain}
use Rattle.charge_model.specs.GroundList.{Entry, IsMarkedGroundList, lists_of}
use Rattle.sidb_io.specs.Outside.{Took, TookFront}
use Rattle.certificate_model.specs.declared.token.Token.{Token}
use Rattle.walk_model.specs.Walks.{AreWalked}
use Rattle.token_sinks.specs.declared.sink.Stop.{Stop}
use Rattle.prune_certificate.specs.Printed.{certificate_text}

-- the text of the certificate of these entries, with the tokens of the search tree up to this
-- bound, in 10^-12 V
pub record IsTextUpTo (p : Problem) (bound : Option ℤ) (es : List Entry) (text : List ℕ) : Type 0
  where
    pub tokens : List Token
    pub walked : AreWalked p (pos 0) bound (lists_of es) tokens
    pub prints : text ≡ certificate_text p es tokens

-- the text of the problem's own certificate: its ground list with the marks, and the tokens of the
-- search tree up to the least certain energy
pub record IsOwnCertificate (p : Problem) (text : List ℕ) : Type 0 where
  pub list : List Entry
  pub bound : Option ℤ
  pub marked : IsMarkedGroundList p list
  pub least : IsLeastCertain p bound
  pub whole : IsTextUpTo p bound list text

-- what a sink took of a text that was given to be written: all, or a front of it after an error
abbrev pub TookText : {A : Type 0} → Option (List ℕ) → List ℕ → Option (List ℕ) → Result A Stop
    → Type 0
TookText old text new (Ok done) = Took old text new
TookText old text new (Err stop) = TookFront old text new
