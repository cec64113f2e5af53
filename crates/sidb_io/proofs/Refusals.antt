-- each definition refuses a wrong value
use Rattle.std.proofs.Common.{◌≡◌, ℕ, ◌<◌, [], ◌∷◌, slice_index_or, refl, ap, arith, Some, None, Ok, Err, inl, inr}
use Rattle.sidb_io.specs.Memory.{Refuses}
use Rattle.sidb_io.specs.Outside.{HasFault, FailsWith, GaveAll, Fills, IsCountAfter, Took, TakesFrom, WritesFront}
use Rattle.sidb_io.specs.Whole.{IsCountAfterAll}
use Rattle.sidb_io.specs.declared.read_whole.ReadAllFault.TheVariants.{TooLong}
use Rattle.sidb_io.proofs.StandardFacts.{three, buffer, filled, store}

no_uncounted_fault : HasFault 3 3 → ⊥
no_uncounted_fault f = elim f [ inl h ↦ omega (arith, h) | inr e ↦ omega (arith, e) ]

no_failure_that_takes : FailsWith (Some three) (Some filled) 0 1 → ⊥
no_failure_that_takes f = let same = f.unchanged in cc

no_uncounted_failure : FailsWith (Some three) (Some three) 3 3 → ⊥
no_uncounted_failure f = no_uncounted_fault f.counted_it

no_more_than_the_buffer : Fills (Some three) (Some []) buffer filled 3 → ⊥
no_more_than_the_buffer f = omega (arith, f.within)

no_dropped_byte : Fills (Some three) (Some []) buffer filled 2 → ⊥
no_dropped_byte f = let same = f.gave in cc

no_write_past_what_is_given : Fills (Some three) (Some (2 ∷ 3 ∷ [])) buffer filled 1 → ⊥
no_write_past_what_is_given f = let same = f.rest in cc

no_early_end : Fills (Some three) (Some three) buffer buffer 0 → ⊥
no_early_end f = let same = f.end refl (omega arith) in cc

no_whole_with_a_rest : GaveAll (Some three) filled (Some (3 ∷ [])) → ⊥
no_whole_with_a_rest g = let same = g.end in cc

no_more_than_the_piece : TakesFrom (Some []) (Some three) filled 3 → ⊥
no_more_than_the_piece t = omega (arith, t.within)

no_lost_byte : TakesFrom (Some []) (Some (1 ∷ [])) three 2 → ⊥
no_lost_byte t = let same = t.took in cc

no_idle_write : TakesFrom (Some []) (Some []) three 0 → ⊥
no_idle_write t = let some = t.some (omega arith) in omega arith

-- a sink that tells its content goes on telling it
no_silence : Took (Some []) [] None → ⊥
no_silence t = cc

no_fault_behind_an_answer : IsCountAfter {A = ℕ} {E = ℕ} 3 4 (Ok 1) → ⊥
no_fault_behind_an_answer h = omega (arith, h)

no_fault_behind_a_long_input : IsCountAfterAll {A = ℕ} 3 4 (Err TooLong) → ⊥
no_fault_behind_a_long_input h = omega (arith, h)

no_blanked_byte : WritesFront {E = ℕ} (Some []) (Some (0 ∷ [])) (Ok 1) three → ⊥
no_blanked_byte w = cc

no_byte_written_twice : WritesFront {E = ℕ} (Some []) (Some (1 ∷ 1 ∷ [])) (Ok 1) three → ⊥
no_byte_written_twice w = cc

no_byte_more_than_is_told : WritesFront {E = ℕ} (Some []) (Some filled) (Ok 1) three → ⊥
no_byte_more_than_is_told w = cc

no_refusal_with_room : Refuses store → ⊥
no_refusal_with_room refused = elim refused [ inl listed ↦ not_listed listed.0 listed.1 listed.2 | inr full ↦ omega (arith, full) ] where
  not_listed : (k : ℕ) → k < 1 → ◌≡◌ {A = ℕ} (slice_index_or (4 ∷ []) k 1) 1 → ⊥
  not_listed k below e =
      let first : k ≡ 0 = omega arith in
      let four : ◌≡◌ {A = ℕ} (slice_index_or (4 ∷ []) k 1) 4 = ap (λ (i : ℕ). slice_index_or (4 ∷ []) i 1) first in
      omega (arith, e, four)
