-- answers worked by hand
use Rattle.std.proofs.Common.{◌≡◌, refl, inl, inr, List, [], ◌∷◌, ◌++◌, ℕ, codes, length, arith}
use Rattle.std.specs.Fmt.{digits}
use Rattle.charge_model.specs.Problem.{Problem}
use Rattle.command_words.specs.declared.settings.Settings.{Settings}
use Rattle.fault_lines.specs.declared.input_fault.InputFault.TheVariants.{TooLong}
use Rattle.ground_state.specs.Answer.{IsOverLimit}
use Rattle.run_answer.specs.declared.status.Status.TheVariants.{Input, Budget}
use Rattle.task_certificate.specs.CertifyAnswer.{IsCertifyAnswer}
use Rattle.task_certificate.specs.CheckAnswer.{IsCheckAnswer}
use Rattle.task_certificate.proofs.Named.{too_long_named}

-- a text and its line feed
abbrev pub line : List ℕ → List ℕ
line text = text ++ 10 ∷ []

-- one node too many
fault_budget : (s : Settings) (p : Problem) → s.search.limit ≡ 9840 → IsOverLimit p s.search.limit → IsCertifyAnswer s p Budget (line (codes "fault budget 9840"))
unfolding digits
fault_budget s p limit over = inr (inl (over, (refl, rw limit refl)))

-- one byte above 2^28
fault_too_long : (s : Settings) (bytes : List ℕ) → length bytes ≡ 268435457 → IsCheckAnswer s bytes (Input TooLong) (line (codes "fault input too-long"))
fault_too_long s bytes more = inl (record { fault = TooLong; refuses = omega (arith, more); tells = record { named = too_long_named; status_is = refl; prints = refl } })
