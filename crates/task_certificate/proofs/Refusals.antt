-- what is no answer
use Rattle.std.proofs.Common.{◌≡◌, inl, inr, List, ℕ, length, arith}
use Rattle.charge_model.specs.Problem.{Problem}
use Rattle.charge_model.specs.GroundList.{Entry}
use Rattle.sqd_layout.specs.SqdFault.TheVariants.{NotSiqad}
use Rattle.command_words.specs.declared.settings.Settings.{Settings}
use Rattle.fault_lines.specs.declared.input_fault.InputFault.TheVariants.{Layout, TooLong}
use Rattle.certificate_model.specs.declared.token.Token.{Token}
use Rattle.certificate_model.specs.declared.refusal.CertRefusal.TheVariants.{Short}
use Rattle.run_answer.specs.declared.status.Status.TheVariants.{Answered, Budget, Certificate, ListTooLong}
use Rattle.task_certificate.specs.CertifyAnswer.{IsCertifyAnswer}
use Rattle.task_certificate.specs.CheckAnswer.{IsTextFault, IsCheckVerdict}

-- a limit of nodes that is too low is no answer of `check`, a refusal of a certificate none of `certify`
unsound_certify : (s : Settings) (p : Problem) (text : List ℕ) → IsCertifyAnswer s p (Certificate Short) text → ⊥
unsound_certify s p text (inl is) = let wrong = is.0 in absurd (cc)
unsound_certify s p text (inr (inl over)) = let wrong = over.1.0 in absurd (cc)
unsound_certify s p text (inr (inr long)) = let wrong = long.1.0 in absurd (cc)

budget_of_check : (s : Settings) (p : Problem) (es : List Entry) (ts : List Token) (text : List ℕ) → IsCheckVerdict s p es ts Budget text → ⊥
budget_of_check s p es ts text (inl sound) = let wrong = sound.1.0 in absurd (cc)
budget_of_check s p es ts text (inr (refusal, refused, unsound)) = let wrong = unsound.status_is in absurd (cc)

-- 2^28 bytes are not too many, and no layout is at fault
few_enough : (bytes : List ℕ) → length bytes ≡ 268435456 → IsTextFault bytes TooLong → ⊥
few_enough bytes all long = omega (arith, all, long)

layout_fault : (bytes : List ℕ) → IsTextFault bytes (Layout NotSiqad) → ⊥
layout_fault bytes is = is
