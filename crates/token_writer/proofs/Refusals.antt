-- a line that is cut, a byte that is not the writer's, and a line that was not written
use Rattle.std.proofs.Common.{[], ◌∷◌, Some, None, Ok, arith}
use Rattle.certificate_model.specs.declared.token.Token.TheVariants.{Node}
use Rattle.token_lines.specs.TokenLines.{token_line}
use Rattle.token_writer.specs.Writing.{AreLast, StandsIn, TookLines}

not_without_its_end : StandsIn (Some (110 ∷ [])) 1 None (Node ∷ []) → ⊥
unfolding token_line
not_without_its_end stands = let many = stands.1.many in omega (arith, many)

not_one_byte_more : AreLast (7 ∷ 110 ∷ 10 ∷ []) 3 (110 ∷ 10 ∷ []) → ⊥
not_one_byte_more last = let many = last.many in omega (arith, many)

not_left_out : TookLines {A = Unit {0}} (Some []) (Node ∷ []) (Some []) (Ok tt) → ⊥
unfolding token_line
not_left_out took = absurd (cc)
