-- what `check` answers for all bytes: one thing, some thing, and the ground list
use Rattle.std.proofs.Common.{◌≡◌, ◌≢◌, ◌∙◌, ◌≤◌, ◌<◌, ◌⊎◌, inl, inr, sym, ap, subst, refl, ℕ, suc, ℤ, pos, List, [], ◌∷◌, length, arith}
use Rattle.std.proofs.lemmas.Bool.{cases_lt}
use Rattle.std.proofs.lemmas.List.Elements.{All-nil, All-cons}
use Rattle.charge_model.specs.Problem.{Problem, IsProblem}
use Rattle.charge_model.specs.Rules.{IsChargeList}
use Rattle.charge_model.specs.GroundList.{Entry, IsMarkedGroundList}
use Rattle.sidb_units.specs.declared.TheConstants.{MAX_CERTIFICATE_BYTES}
use Rattle.command_words.specs.declared.settings.Settings.{Settings}
use Rattle.fault_lines.specs.declared.input_fault.InputFault.{InputFault}
use Rattle.fault_lines.specs.declared.input_fault.InputFault.TheVariants.{TooLong, Layout, Table, Text, GateSite}
use Rattle.fault_lines.specs.FaultLines.{IsNamed, input_line}
use Rattle.fault_lines.specs.CertificateLines.{certificate_fault_line}
use Rattle.ground_report.specs.declared.about.About.{About}
use Rattle.ground_report.specs.Subject.{AreListsOfProblem}
use Rattle.certificate_model.specs.declared.token.Token.{Token}
use Rattle.certificate_model.specs.declared.refusal.CertRefusal.{CertRefusal}
use Rattle.certificate_model.specs.declared.refusal.CertRefusal.TheVariants as refusal
use Rattle.certificate_check.specs.Checking.{IsNoCertificate}
use Rattle.certificate_model.specs.Certificates.{FitsProblem, IsSound, IsCertificateRefusal}
use Rattle.certificate_reading.specs.declared.fault.CertText.{CertText}
use Rattle.certificate_reading.specs.declared.fault.CertText.TheVariants as cert
use Rattle.certificate_reading.specs.declared.front.CertFront.{CertFront}
use Rattle.certificate_reading.specs.Texts.{IsCertText, IsCertFault, IsCertificateFront, IsFrontOf}
use Rattle.run_answer.specs.declared.status.Status.{Status}
use Rattle.run_answer.specs.declared.status.Status.TheVariants.{Answered, Input, Certificate}
use Rattle.run_answer.specs.declared.due.Due.{Due}
use Rattle.run_answer.specs.Due.{DueIs}
use Rattle.run_answer.specs.Status.{IsFaultAnswer, IsUnsoundAnswer}
use Rattle.task_ground.specs.GroundAnswer.{IsReport}
use Rattle.task_ground.specs.Told.{HoldsUnderEachTable}
use Rattle.task_certificate.specs.CheckAnswer.{IsCertificateVerdict, IsCheckAnswer, IsReportAnswer, IsTextFault, IsTextRefusal, IsCheckVerdict, about_certificate}
use Rattle.task_certificate.specs.Told.{TellsCheckedList}
use Rattle.task_certificate.proofs.Named.{refusal_named, text_named, too_long_named}

-- each part of an answer is one
pub record PartsAreOne : Type 0 where
  pub text : (text : List ℕ) (p q : Problem) (es fs : List Entry) (ts us : List Token) → IsCertText p es ts text → IsCertText q fs us text → (p ≡ q) × (es ≡ fs) × (ts ≡ us)
  pub fault : (text : List ℕ) (f g : CertText) → IsCertFault text f → IsCertFault text g → f ≡ g
  pub no_fault : (text : List ℕ) (p : Problem) (es : List Entry) (ts : List Token) (f : CertText) → IsCertText p es ts text → IsCertFault text f → ⊥
  pub refusal : (p : Problem) (window : ℤ) (es : List Entry) (tokens : List Token) (r s : CertRefusal) → IsCertificateRefusal p window es tokens r → IsCertificateRefusal p window es tokens s → r ≡ s
  pub apart : (p : Problem) (window : ℤ) (es : List Entry) (tokens : List Token) (r : CertRefusal) → IsSound p window es tokens → IsCertificateRefusal p window es tokens r → ⊥
  pub report : (s : Settings) (a : About) (p : Problem) (es : List Entry) (t u : List ℕ) → IsReport s a p es t → IsReport s a p es u → t ≡ u

module _ (one : PartsAreOne) (s : Settings) (bytes : List ℕ) where
  same_fault : (f g : InputFault) → IsTextFault bytes f → IsTextFault bytes g → f ≡ g
  same_fault TooLong TooLong a b = refl
  same_fault TooLong (Text g) a b = absurd (omega (arith, a, b.0))
  same_fault (Text f) TooLong a b = absurd (omega (arith, b, a.0))
  same_fault (Text f) (Text g) a b = ap Text (one.fault bytes f g a.1 b.1)
  same_fault TooLong (Layout g) a b = absurd b
  same_fault TooLong (Table g) a b = absurd b
  same_fault (Text f) (Layout g) a b = absurd b
  same_fault (Text f) (Table g) a b = absurd b
  same_fault TooLong (GateSite g) a b = absurd b
  same_fault (Text f) (GateSite g) a b = absurd b
  same_fault (Layout f) g a b = absurd a
  same_fault (Table f) g a b = absurd a
  same_fault (GateSite f) g a b = absurd a

  same_refusal : (a b : Status) (t u : List ℕ) → IsTextRefusal bytes a t → IsTextRefusal bytes b u → (a ≡ b) × (t ≡ u)
  same_refusal a b t u x y =
      let same = same_fault x.fault y.fault x.refuses y.refuses in
      (x.tells.status_is ∙ ap Input same ∙ sym y.tells.status_is, x.tells.prints ∙ ap input_line same ∙ sym y.tells.prints)

  -- what is read has no fault
  not_refused : (p : Problem) (es : List Entry) (ts : List Token) (f : InputFault) → length bytes ≤ MAX_CERTIFICATE_BYTES → IsCertText p es ts bytes → IsTextFault bytes f → ⊥
  not_refused p es ts TooLong short means f = omega (arith, short, f)
  not_refused p es ts (Text fault) short means f = one.no_fault bytes p es ts fault means f.1
  not_refused p es ts (Layout fault) short means f = f
  not_refused p es ts (Table fault) short means f = f
  not_refused p es ts (GateSite fault) short means f = f

  same_verdict : (p : Problem) (es : List Entry) (ts : List Token) (a b : Status) (t u : List ℕ) → IsCheckVerdict s p es ts a t → IsCheckVerdict s p es ts b u → (a ≡ b) × (t ≡ u)
  same_verdict p es ts a b t u (inl x) (inl y) = (x.1.0 ∙ sym y.1.0, one.report s about_certificate p es t u x.1.1 y.1.1)
  same_verdict p es ts a b t u (inl x) (inr y) = absurd (one.apart p (pos 0) es ts y.0 x.0 y.1)
  same_verdict p es ts a b t u (inr x) (inl y) = absurd (one.apart p (pos 0) es ts x.0 y.0 x.1)
  same_verdict p es ts a b t u (inr x) (inr y) =
      let same = one.refusal p (pos 0) es ts x.0 y.0 x.1 y.1 in
      (x.2.status_is ∙ ap Certificate same ∙ sym y.2.status_is, x.2.prints ∙ ap certificate_fault_line same ∙ sym y.2.prints)

  -- the verdict on a certificate that is another's
  moved : (p q : Problem) (es fs : List Entry) (ts us : List Token) (a : Status) (t : List ℕ) → p ≡ q → es ≡ fs → ts ≡ us → IsCheckVerdict s p es ts a t → IsCheckVerdict s q fs us a t
  moved p q es fs ts us a t problem entries tokens is =
      subst (λ x. IsCheckVerdict s q fs x a t) tokens (subst (λ x. IsCheckVerdict s q x ts a t) entries (subst (λ x. IsCheckVerdict s x es ts a t) problem is))

  pub same_answer : (a b : Status) (t u : List ℕ) → IsCheckAnswer s bytes a t → IsCheckAnswer s bytes b u → (a ≡ b) × (t ≡ u)
  same_answer a b t u (inl x) (inl y) = same_refusal a b t u x y
  same_answer a b t u (inl x) (inr y) = absurd (not_refused y.problem y.entries y.tokens x.fault y.short y.means x.refuses)
  same_answer a b t u (inr x) (inl y) = absurd (not_refused x.problem x.entries x.tokens y.fault x.short x.means y.refuses)
  same_answer a b t u (inr x) (inr y) =
      let same = one.text bytes x.problem y.problem x.entries y.entries x.tokens y.tokens x.means y.means in
      same_verdict y.problem y.entries y.tokens a b t u (moved x.problem y.problem x.entries y.entries x.tokens y.tokens a t same.0 same.1 same.2 x.verdict) y.verdict

-- each text is read or has a fault, and each certificate is sound or refused
pub record HasParts : Type 0 where
  pub read : (text : List ℕ) → ((p : Problem) × (es : List Entry) × (ts : List Token) × IsCertText p es ts text) ⊎ ((f : CertText) × IsCertFault text f)
  pub fits : (text : List ℕ) (p : Problem) (es : List Entry) (ts : List Token) → IsCertText p es ts text → FitsProblem p es
  pub verdict : (p : Problem) (window : ℤ) (es : List Entry) (tokens : List Token) → IsProblem p → FitsProblem p es → IsSound p window es tokens ⊎ ((r : CertRefusal) × IsCertificateRefusal p window es tokens r)
  pub report : (s : Settings) (about : About) (p : Problem) (es : List Entry) → IsProblem p → (text : List ℕ) × IsReport s about p es text

-- some status and text are the answer
abbrev HasAnswer : Settings → List ℕ → Type 0
HasAnswer s bytes = (status : Status) × (text : List ℕ) × IsCheckAnswer s bytes status text

module _ (laws : HasParts) (s : Settings) (bytes : List ℕ) where
  of_fault : (f : InputFault) → IsTextFault bytes f → IsNamed f → HasAnswer s bytes
  of_fault f refuses named = (Input f, input_line f, inl (record { fault = f; refuses = refuses; tells = record { named = named; status_is = refl; prints = refl } }))

  of_certificate : length bytes ≤ MAX_CERTIFICATE_BYTES → (p : Problem) (es : List Entry) (ts : List Token) → IsCertText p es ts bytes → HasAnswer s bytes
  of_certificate short p es ts means = by (laws.verdict p (pos 0) es ts means.front.of.problem (laws.fits bytes p es ts means))
    where
      given : (status : Status) (text : List ℕ) → IsCheckVerdict s p es ts status text → HasAnswer s bytes
      given status text is = (status, text, inr (record { problem = p; entries = es; tokens = ts; short = short; means = means; verdict = is }))

      by : IsSound p (pos 0) es ts ⊎ ((r : CertRefusal) × IsCertificateRefusal p (pos 0) es ts r) → HasAnswer s bytes
      by (inl sound) =
          let report = laws.report s about_certificate p es means.front.of.problem in
          given Answered report.0 (inl (sound, (refl, report.1)))
      by (inr (r, refused)) = given (Certificate r) (certificate_fault_line r) (inr (r, refused, record { named = refusal_named p es ts r refused; status_is = refl; prints = refl }))

  pub some_answer : HasAnswer s bytes
  some_answer = by (cases_lt MAX_CERTIFICATE_BYTES (length bytes))
    where
      read : length bytes ≤ MAX_CERTIFICATE_BYTES → ((p : Problem) × (es : List Entry) × (ts : List Token) × IsCertText p es ts bytes) ⊎ ((f : CertText) × IsCertFault bytes f) → HasAnswer s bytes
      read short (inl (p, es, ts, means)) = of_certificate short p es ts means
      read short (inr (f, found)) = of_fault (Text f) (short, found) (text_named bytes f found)

      by : (MAX_CERTIFICATE_BYTES < length bytes) ⊎ (length bytes ≤ MAX_CERTIFICATE_BYTES) → HasAnswer s bytes
      by (inl long) = of_fault TooLong long too_long_named
      by (inr short) = read short (laws.read bytes)

-- the list of a sound certificate is the ground list, which holds the ground states
pub record AreTold : Type 0 where
  pub fits : (text : List ℕ) (p : Problem) (es : List Entry) (ts : List Token) → IsCertText p es ts text → FitsProblem p es
  pub ground : (p : Problem) (es : List Entry) (tokens : List Token) → IsProblem p → FitsProblem p es → IsSound p (pos 0) es tokens → IsMarkedGroundList p es
  pub holds : (p : Problem) (es : List Entry) → IsMarkedGroundList p es → HoldsUnderEachTable p es

pub tells : AreTold → (s : Settings) (bytes text : List ℕ) → IsCheckAnswer s bytes Answered text → TellsCheckedList s bytes text
tells laws s bytes text (inl is) = let wrong = is.tells.status_is in absurd (cc)
tells laws s bytes text (inr is) = by is.verdict
  where
    by : IsCheckVerdict s is.problem is.entries is.tokens Answered text → TellsCheckedList s bytes text
    by (inr (r, refused, unsound)) = let wrong = unsound.status_is in absurd (cc)
    by (inl (sound, (answered, prints))) =
        let ground = laws.ground is.problem is.entries is.tokens is.means.front.of.problem (laws.fits bytes is.problem is.entries is.tokens is.means) sound in
        record {
          problem = is.problem;
          entries = is.entries;
          tokens = is.tokens;
          means = is.means;
          prints = prints;
          ground = ground;
          holds = laws.holds is.problem is.entries ground;
        }

-- what refuses a certificate, and is not want of memory
refused_for : (p : Problem) (es : List Entry) (ts : List Token) (r : CertRefusal) → IsNoCertificate p (pos 0) es ts r → r ≢ refusal.Memory → IsCertificateRefusal p (pos 0) es ts r
refused_for p es ts (refusal.Entry j why) none other = none
refused_for p es ts (refusal.Close k why) none other = none
refused_for p es ts refusal.Short none other = none
refused_for p es ts refusal.Long none other = none
refused_for p es ts refusal.Memory none other = absurd (other refl)

-- entries with a charge for each site are those of a report
pub entries_are_of : (p : Problem) (es : List Entry) → FitsProblem p es → AreListsOfProblem p es
entries_are_of p [] all = All-nil (λ (e : Entry). IsChargeList p e.charges)
entries_are_of p (e ∷ es) all = All-cons (λ (e : Entry). IsChargeList p e.charges) e es (all 0 e.charges (omega arith)) (entries_are_of p es (λ k d less. all (suc k) d (omega arith)))

-- a report is the verdict on a sound certificate, and the first test that another fails is that on it
pub sound_verdict : (s : Settings) (p : Problem) (es : List Entry) (ts : List Token) → IsSound p (pos 0) es ts → (due : Due) → DueIs (IsReportAnswer s p es) due → DueIs (IsCheckVerdict s p es ts) due
sound_verdict s p es ts sound due is = record { ends = is.ends; answers = λ text of. inl (sound, is.answers text of) }

pub unsound_verdict : (s : Settings) (p : Problem) (es : List Entry) (ts : List Token) (r : CertRefusal) → IsNoCertificate p (pos 0) es ts r → (due : Due) → DueIs (IsUnsoundAnswer r) due → DueIs (IsCheckVerdict s p es ts) due
unsound_verdict s p es ts r none due is = record { ends = is.ends; answers = λ text of. let answer = is.answers text of in inr (r, refused_for p es ts r none answer.named, answer) }

-- so the verdict on what is read is the answer
pub certificate_due : (s : Settings) (bytes : List ℕ) (front : CertFront) → length bytes ≤ MAX_CERTIFICATE_BYTES → IsCertificateFront bytes front → (due : Due)
    → ((tokens : List Token) → IsFrontOf tokens bytes front → DueIs (IsCheckVerdict s front.problem front.list tokens) due) → DueIs (IsCheckAnswer s bytes) due
certificate_due s bytes front short (tokens, of) due each =
    let is = each tokens of in
    record {
      ends = is.ends;
      answers = λ text of_due. inr (record { problem = front.problem; entries = front.list; tokens = tokens; short = short; means = of.of; verdict = is.answers text of_due });
    }

-- and so is the line of a fault
pub fault_answer : (s : Settings) (bytes : List ℕ) (fault : InputFault) → IsTextFault bytes fault → (due : Due) → DueIs (IsFaultAnswer fault) due → DueIs (IsCheckAnswer s bytes) due
fault_answer s bytes fault refuses due is = record { ends = is.ends; answers = λ text of. inl (record { fault = fault; refuses = refuses; tells = is.answers text of }) }

pub text_fault_due : (s : Settings) (bytes : List ℕ) (f : CertText) → length bytes ≤ MAX_CERTIFICATE_BYTES → (f ≡ cert.Memory) ⊎ IsCertFault bytes f → (due : Due) → DueIs (IsFaultAnswer (Text f)) due → DueIs (IsCheckAnswer s bytes) due
text_fault_due s bytes f short (inl memory) due is = record { ends = is.ends; answers = λ text of. absurd ((is.answers text of).named.certificate (ap Text memory)) }
text_fault_due s bytes f short (inr found) due is = fault_answer s bytes (Text f) (short, found) due is
