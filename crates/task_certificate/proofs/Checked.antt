-- a checker that is fed the tokens of a text
use Rattle.std.proofs.Common.{◌≡◌, ◌≢◌, ◌≤◌, ◌^◌, sym, subst, refl, ℕ, pos, List, [], length, Option, None, Result, Ok, Err, IsOk, OnOk, IfErr, arith}
use Rattle.charge_model.specs.Problem.{Problem}
use Rattle.charge_model.specs.GroundList.{Entry}
use Rattle.certificate_model.specs.declared.token.Token.{Token}
use Rattle.certificate_model.specs.declared.refusal.CertRefusal.{CertRefusal}
use Rattle.certificate_model.specs.declared.refusal.CertRefusal.TheVariants as refusal
use Rattle.certificate_model.specs.Certificates.{FitsProblem}
use Rattle.certificate_check.specs.Checking.{Checking, HasPassed, IsNoCertificate, IsNoOpening, IsOpening}
use Rattle.certificate_reading.specs.declared.front.CertFront.{CertFront}
use Rattle.certificate_reading.specs.Texts.{IsCertText, IsCertificateFront}

-- a checker that has taken no token has room for all tokens of a text
pub opening_room : (p : Problem) (es : List Entry) (s : Checking) → IsOpening p (pos 0) es s → (taken : List Token) × HasPassed s taken × (length taken ≤ 2 ^ 63)
opening_room p es s opening = ([], subst (λ u. HasPassed u []) (sym opening) (record { many = refl; trail = refl }), omega arith)

-- what refuses an entry refuses the certificate, whatever its tokens are
pub no_opening : (p : Problem) (es : List Entry) (r : CertRefusal) → IsNoOpening p (pos 0) es r → (tokens : List Token) → IsNoCertificate p (pos 0) es tokens r
no_opening p es (refusal.Entry j why) told tokens = told tokens
no_opening p es (refusal.Close k why) told tokens = told tokens
no_opening p es refusal.Short told tokens = told tokens
no_opening p es refusal.Long told tokens = told tokens
no_opening p es refusal.Memory told tokens = tt

-- the entries of a text have a charge for each site
pub front_fits : ((text : List ℕ) (p : Problem) (es : List Entry) (ts : List Token) → IsCertText p es ts text → FitsProblem p es) → (text : List ℕ) (front : CertFront) → IsCertificateFront text front → FitsProblem front.problem front.list
front_fits lists text front is = lists text front.problem front.list is.0 is.1.of

-- what holds for each list of tokens after Ok, and after an error
pub each_ok : {A : Type 0} (F S : List Token → Type 0) (r : Result A CertRefusal) → ((tokens : List Token) → F tokens → OnOk r (S tokens)) → OnOk r ((tokens : List Token) → F tokens → S tokens)
each_ok F S (Ok a) each = each
each_ok F S (Err e) each = tt

pub each_err : {A : Type 0} (F : List Token → Type 0) (N : List Token → CertRefusal → Type 0) (r : Result A CertRefusal) → ((tokens : List Token) → F tokens → IfErr r (N tokens))
    → IfErr r (λ x. (tokens : List Token) → F tokens → N tokens x)
each_err F N (Ok a) each = tt
each_err F N (Err e) each = each
