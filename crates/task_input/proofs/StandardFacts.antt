-- a fault by its length
use Rattle.std.proofs.Common.{◌≡◌, ℕ, List, length, arith}
use Rattle.command_words.specs.declared.settings.InputForm.{InputForm}
use Rattle.fault_lines.specs.declared.input_fault.InputFault.TheVariants.{TooLong}
use Rattle.task_input.specs.Input.{IsInputFault}

-- one byte above 2^20
one_more : (form : InputForm) (bytes : List ℕ) → length bytes ≡ 1048577 → IsInputFault form bytes TooLong
one_more form bytes h = omega (arith, h)
