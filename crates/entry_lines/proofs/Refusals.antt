-- words that differ
use Rattle.std.proofs.Common.{◌≡◌, ℕ, List, [], get_or, ap, arith}
use Rattle.std.specs.Fmt.{digits}
use Rattle.charge_model.specs.declared.charge.Test.TheVariants.{AboveMinus, AbovePlus, BelowPlus}
use Rattle.charge_model.specs.declared.span.Span.{Span}
use Rattle.charge_model.specs.declared.mark.Deciding.TheVariants.{Hop, Rival}
use Rattle.charge_model.specs.declared.mark.Mark.TheVariants.{Certain, Unresolved}
use Rattle.entry_lines.specs.EntryLines.{test_word, deciding_words, mark_words}

levels_differ : test_word AboveMinus ≡ test_word AbovePlus → ⊥
levels_differ is = absurd (cc)

sides_differ : test_word AbovePlus ≡ test_word BelowPlus → ⊥
sides_differ is = let differ : 97 ≡ 98 = ap (λ (word : List ℕ). get_or word 0 0) is in omega (arith, differ)

hops_have_a_direction : (s : Span) → deciding_words (Hop 0 1 s) ≡ deciding_words (Hop 1 0 s) → ⊥
unfolding digits
hops_have_a_direction s is = let differ : 48 ≡ 49 = ap (λ (words : List (List ℕ)). get_or (get_or words 1 []) 0 0) is in omega (arith, differ)

unresolved_is_not_certain : (s : Span) → mark_words (Unresolved (Rival 0 s)) ≡ mark_words Certain → ⊥
unresolved_is_not_certain s is = absurd (cc)
