-- lines of entries written by hand
use Rattle.std.proofs.Common.{◌≡◌, refl, pos, negsuc, [], ◌∷◌, codes}
use Rattle.std.specs.Fmt.{digits}
use Rattle.std.specs.List.{join_with_byte}
use Rattle.charge_model.specs.declared.charge.Charge.TheVariants.{Neg, Neutral, Pos}
use Rattle.charge_model.specs.declared.charge.Test.TheVariants.{BelowMinus}
use Rattle.charge_model.specs.declared.span.Span.{Span}
use Rattle.charge_model.specs.declared.mark.Deciding.TheVariants.{Population, Hop, Rival}
use Rattle.charge_model.specs.declared.mark.Mark.TheVariants.{Certain, Unresolved}
use Rattle.entry_lines.specs.EntryLines.{entry_words}

abbrev one_each_way : Span
one_each_way = record { lo = negsuc 0; hi = pos 1; in_order = record { le = tt } }

no_sites : join_with_byte 32 (entry_words (record { charges = []; mark = Certain })) ≡ codes ". certain"
no_sites = refl

certain : join_with_byte 32 (entry_words (record { charges = Neg ∷ Pos ∷ Neg ∷ []; mark = Certain })) ≡ codes "-+- certain"
certain = refl

population : join_with_byte 32 (entry_words (record { charges = Neg ∷ Neutral ∷ []; mark = Unresolved (Population 1 BelowMinus one_each_way) })) ≡ codes "-0 unresolved population 1 below-minus -1 1"
unfolding digits
population = refl

hop : join_with_byte 32 (entry_words (record { charges = Neg ∷ Neutral ∷ Neg ∷ []; mark = Unresolved (Hop 0 1 one_each_way) })) ≡ codes "-0- unresolved hop 0 1 -1 1"
unfolding digits
hop = refl

rival : join_with_byte 32 (entry_words (record { charges = Neg ∷ Neutral ∷ Neutral ∷ Neg ∷ []; mark = Unresolved (Rival 1 one_each_way) })) ≡ codes "-00- unresolved rival 1 -1 1"
unfolding digits
rival = refl
