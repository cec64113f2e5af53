-- what `certify` answers for a problem: one thing, some thing, and a sound certificate
use Rattle.std.proofs.Common.{◌≡◌, ◌∙◌, ◌≤◌, inl, inr, sym, subst, refl, ℕ, pos, List, length, Option, Result, ℤ, arith}
use Rattle.std.proofs.lemmas.Int.{ints}
use Rattle.charge_model.specs.Problem.{Problem, IsProblem}
use Rattle.charge_model.specs.GroundList.{Entry, IsMarkedGroundList, lists_of}
use Rattle.charge_model.specs.Tree.{IsLeastCertain, node_count}
use Rattle.sidb_units.specs.declared.TheConstants.{MAX_ENTRIES, MAX_NODES}
use Rattle.command_words.specs.declared.settings.Settings.{Settings}
use Rattle.ground_entries.specs.declared.ground_list.Solved.{Solved}
use Rattle.ground_report.specs.declared.about.About.{About}
use Rattle.ground_state.specs.Answer.{IsListedWithin, IsSolution, IsTooLongWithin, IsWithinLimit, IsOverLimit}
use Rattle.certificate_model.specs.declared.token.Token.{Token}
use Rattle.certificate_model.specs.Certificates.{IsSound}
use Rattle.walk_model.specs.Walks.{AreWalked}
use Rattle.certificate_reading.specs.Texts.{IsCertText}
use Rattle.prune_certificate.specs.Printed.{certificate_text}
use Rattle.token_sinks.specs.declared.sink.Stop.{Stop}
use Rattle.certificate_writing.specs.Writing.{IsOwnCertificate, IsTextUpTo, TookText}
use Rattle.task_certificate.specs.WrittenSo.{IsWrittenSo}
use Rattle.run_answer.specs.declared.status.Status.{Status}
use Rattle.run_answer.specs.declared.status.Status.TheVariants.{Answered}
use Rattle.task_ground.specs.GroundAnswer.{IsGroundAnswer, IsUnlisted}
use Rattle.task_certificate.specs.DueCertificate.{DueCertificate}
use Rattle.task_certificate.specs.declared.delivery.Delivery.TheVariants.{Certificate}
use Rattle.task_certificate.specs.Delivery.{DeliveryIs}
use Rattle.task_certificate.specs.CertifyAnswer.{IsCertificateWithin, IsCertifyAnswer}
use Rattle.task_certificate.specs.CheckAnswer.{about_certificate}
use Rattle.task_certificate.specs.Told.{TellsSoundCertificate}

-- the text of the tree that was searched is the problem's own certificate
pub solved_text : (p : Problem) (limit : ℕ) (solved : Solved) → IsSolution p limit solved → length solved.list ≤ MAX_ENTRIES → (text : List ℕ) → IsTextUpTo p solved.bound solved.list text
    → IsCertificateWithin p limit text
solved_text p limit solved is few text whole = record {
  own = record { list = solved.list; bound = solved.bound; marked = is.list; least = is.bound; whole = whole };
  few = few;
  within = let count = is.nodes in let within = is.within in omega (arith, count, within);
}

-- so it is what is due
pub solved_due : (s : Settings) (p : Problem) (solved : Solved) (d : DueCertificate) → IsSolution p s.search.limit solved → length d.entries ≤ MAX_ENTRIES
    → d.problem ≡ p → d.entries ≡ solved.list → d.bound ≡ solved.bound → DeliveryIs (IsCertifyAnswer s p) (Certificate d)
solved_due s p solved d is few problem entries bound = record {
  ends = tt;
  answers = λ text whole. inl (
    refl,
    solved_text p s.search.limit solved is (subst (λ (es : List Entry). length es ≤ MAX_ENTRIES) entries few) text
        (subst (λ (q : Problem). IsTextUpTo q solved.bound solved.list text) problem
        (subst (λ (b : Option ℤ). IsTextUpTo d.problem b solved.list text) bound
        (subst (λ (es : List Entry). IsTextUpTo d.problem d.bound es text) entries whole))),
  );
}

-- a certificate that is due has a text, of which so much was written
pub written_so : ((p : Problem) (es : List Entry) (bound : Option ℤ) → IsProblem p → IsMarkedGroundList p es → IsLeastCertain p bound → (tokens : List Token) × AreWalked p (pos 0) bound (lists_of es) tokens)
    → (d : DueCertificate) → IsProblem d.problem → IsMarkedGroundList d.problem d.entries → IsLeastCertain d.problem d.bound → (old new : Option (List ℕ)) (result : Result (Unit {0}) Stop)
    → ((text : List ℕ) → IsTextUpTo d.problem d.bound d.entries text → TookText old text new result) → IsWrittenSo d old new result
written_so laws d valid marked least old new result took =
    let tokens = laws d.problem d.entries d.bound valid marked least in
    let text = certificate_text d.problem d.entries tokens.0 in
    let whole : IsTextUpTo d.problem d.bound d.entries text = record { tokens = tokens.0; walked = tokens.1; prints = refl } in
    record { text = text; of_due = whole; took = took text whole }

-- each part of an answer is one
pub record PartsAreOne : Type 0 where
  pub own : (p : Problem) (a b : List ℕ) → IsOwnCertificate p a → IsOwnCertificate p b → a ≡ b
  pub length : (p : Problem) (limit : ℕ) (es : List Entry) → IsListedWithin p limit es → IsTooLongWithin p limit → ⊥
  pub budget : (p : Problem) (limit : ℕ) → IsWithinLimit p limit → IsOverLimit p limit → ⊥

module _ (one : PartsAreOne) (s : Settings) (p : Problem) where
  -- a problem with a certificate is within the budget
  budget_of : (text : List ℕ) → IsCertificateWithin p s.search.limit text → IsWithinLimit p s.search.limit
  budget_of text is = (is.own.bound, is.own.least, is.within)

  same_unlisted : (a b : Status) (t u : List ℕ) → IsUnlisted s p a t → IsUnlisted s p b u → (a ≡ b) × (t ≡ u)
  same_unlisted a b t u (inl x) (inl y) = (x.1.0 ∙ sym y.1.0, x.1.1 ∙ sym y.1.1)
  same_unlisted a b t u (inl x) (inr y) = absurd (one.budget p s.search.limit y.0.budget x.0)
  same_unlisted a b t u (inr x) (inl y) = absurd (one.budget p s.search.limit x.0.budget y.0)
  same_unlisted a b t u (inr x) (inr y) = (x.1.0 ∙ sym y.1.0, x.1.1 ∙ sym y.1.1)

  -- it has no other answer
  not_unlisted : (b : Status) (t u : List ℕ) → IsCertificateWithin p s.search.limit t → IsUnlisted s p b u → ⊥
  not_unlisted b t u is (inl over) = one.budget p s.search.limit (budget_of t is) over.0
  not_unlisted b t u is (inr long) =
      one.length p s.search.limit is.own.list (record { budget = budget_of t is; list = is.own.marked; few = is.few }) long.0

  pub same_answer : (a b : Status) (t u : List ℕ) → IsCertifyAnswer s p a t → IsCertifyAnswer s p b u → (a ≡ b) × (t ≡ u)
  same_answer a b t u (inl x) (inl y) = (x.0 ∙ sym y.0, one.own p t u x.1.own y.1.own)
  same_answer a b t u (inl x) (inr y) = absurd (not_unlisted b t u x.1 y)
  same_answer a b t u (inr x) (inl y) = absurd (not_unlisted a u t y.1 x)
  same_answer a b t u (inr x) (inr y) = same_unlisted a b t u x y

-- a problem has an answer of `ground`, and its ground list has tokens
pub record HasParts : Type 0 where
  pub ground : (s : Settings) (about : About) (p : Problem) → IsProblem p → (status : Status) × (text : List ℕ) × IsGroundAnswer s about p status text
  pub tokens : (p : Problem) (es : List Entry) (bound : Option ℤ) → IsProblem p → IsMarkedGroundList p es → IsLeastCertain p bound
      → (tokens : List Token) × AreWalked p (pos 0) bound (lists_of es) tokens

pub some_answer : HasParts → (s : Settings) (p : Problem) → IsProblem p → (status : Status) × (text : List ℕ) × IsCertifyAnswer s p status text
some_answer laws s p valid = by (laws.ground s about_certificate p valid)
  where
    by : ((status : Status) × (text : List ℕ) × IsGroundAnswer s about_certificate p status text) → (status : Status) × (text : List ℕ) × IsCertifyAnswer s p status text
    by (status, text, inr why) = (status, text, inr why)
    by (status, text, inl (answered, report)) =
        let bound = report.list.budget in
        let written = laws.tokens p report.entries bound.0 valid report.list.list bound.1 in (
          Answered,
          certificate_text p report.entries written.0,
          inl (
            refl,
            record {
              own = record {
                list = report.entries;
                bound = bound.0;
                marked = report.list.list;
                least = bound.1;
                whole = record { tokens = written.0; walked = written.1; prints = refl };
              };
              few = report.list.few;
              within = bound.2;
            },
          ),
        )

-- the text of an own certificate is read back, and it is sound
pub record AreTold : Type 0 where
  pub reads : (p : Problem) (text : List ℕ) (own : IsOwnCertificate p text) → IsProblem p → length own.list ≤ MAX_ENTRIES → node_count p own.bound ≤ MAX_NODES
      → IsCertText p own.list own.whole.tokens text
  pub sound : (p : Problem) (text : List ℕ) (own : IsOwnCertificate p text) → IsProblem p → IsSound p (pos 0) own.list own.whole.tokens

-- a limit of nodes is at most the greatest one
few_nodes : (s : Settings) (nodes : ℕ) → nodes ≤ s.search.limit → nodes ≤ MAX_NODES
few_nodes s nodes within = let most = s.search.in_range.limit_within.to in omega (arith, ints, most, within)

pub tells : AreTold → (s : Settings) (p : Problem) (text : List ℕ) → IsProblem p → IsCertifyAnswer s p Answered text → TellsSoundCertificate p text
tells laws s p text valid (inl (answered, is)) = record {
  entries = is.own.list;
  tokens = is.own.whole.tokens;
  means = laws.reads p text is.own valid is.few (few_nodes s (node_count p is.own.bound) is.within);
  sound = laws.sound p text is.own valid;
}
tells laws s p text valid (inr (inl over)) = let wrong = over.1.0 in absurd (cc)
tells laws s p text valid (inr (inr long)) = let wrong = long.1.0 in absurd (cc)
