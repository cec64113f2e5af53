-- a name stands for one function of so many bits, and the function tells its name
use Rattle.std.proofs.Common.{◌≡◌, ℕ, zero, suc, List, Some, slice_get}
use Rattle.gate_model.specs.declared.function.Function.{Function}
use Rattle.gate_model.specs.Functions.{name_by, function_names, table_of}

-- the function of so many bits with this number
abbrev numbered : ℕ → ℕ → Function
numbered inputs n = record { inputs = inputs; table = table_of inputs n }

-- the name at a place
abbrev pub IsAt : ℕ → List ℕ → ℕ → Type 0
IsAt inputs name n = slice_get (function_names inputs) n ≡ Some name

told_one : (n : ℕ) (name : List ℕ) → IsAt 1 name n → name_by (numbered 1 n) ≡ name
told_one zero name e = cc
told_one (suc zero) name e = cc
told_one (suc (suc zero)) name e = cc
told_one (suc (suc (suc zero))) name e = cc
told_one (suc (suc (suc (suc n)))) name e = absurd (cc)

told_two : (n : ℕ) (name : List ℕ) → IsAt 2 name n → name_by (numbered 2 n) ≡ name
told_two zero name e = cc
told_two (suc zero) name e = cc
told_two (suc (suc zero)) name e = cc
told_two (suc (suc (suc zero))) name e = cc
told_two (suc (suc (suc (suc zero)))) name e = cc
told_two (suc (suc (suc (suc (suc zero))))) name e = cc
told_two (suc (suc (suc (suc (suc (suc zero)))))) name e = cc
told_two (suc (suc (suc (suc (suc (suc (suc zero))))))) name e = cc
told_two (suc (suc (suc (suc (suc (suc (suc (suc zero)))))))) name e = cc
told_two (suc (suc (suc (suc (suc (suc (suc (suc (suc zero))))))))) name e = cc
told_two (suc (suc (suc (suc (suc (suc (suc (suc (suc (suc zero)))))))))) name e = cc
told_two (suc (suc (suc (suc (suc (suc (suc (suc (suc (suc (suc zero))))))))))) name e = cc
told_two (suc (suc (suc (suc (suc (suc (suc (suc (suc (suc (suc (suc zero)))))))))))) name e = cc
told_two (suc (suc (suc (suc (suc (suc (suc (suc (suc (suc (suc (suc (suc zero))))))))))))) name e = cc
told_two (suc (suc (suc (suc (suc (suc (suc (suc (suc (suc (suc (suc (suc (suc zero)))))))))))))) name e = cc
told_two (suc (suc (suc (suc (suc (suc (suc (suc (suc (suc (suc (suc (suc (suc (suc zero))))))))))))))) name e = cc
told_two (suc (suc (suc (suc (suc (suc (suc (suc (suc (suc (suc (suc (suc (suc (suc (suc n)))))))))))))))) name e = absurd (cc)
