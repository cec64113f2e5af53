-- texts of parts written by hand
use Rattle.std.proofs.Common.{◌≡◌, refl, ℕ, pos, neg_ℤ, List, [], ◌∷◌, ◌++◌, codes, true, false}
use Rattle.std.specs.Fmt.{digits}
use Rattle.charge_model.specs.declared.charge.Charge.TheVariants.{Neg, Neutral}
use Rattle.level_range_laws.specs.Answers.{Outcome}
use Rattle.level_range_laws.specs.Parts.{printed_whole, printed_split}
use Rattle.range_report.specs.RangeText.{range_text}

-- a line and its end
abbrev pub line : List ℕ → List ℕ → List ℕ
line words rest = words ++ 10 ∷ rest

abbrev pub negative : Outcome
negative = record { charges = Neg ∷ []; certain = true }

abbrev pub neutral : Outcome
neutral = record { charges = Neutral ∷ []; certain = false }

-- one site alone: negative below the level 0
two_parts : range_text 1 (printed_whole (neg_ℤ (pos 2)) (neg_ℤ (pos 1)) (negative ∷ []) ∷ printed_whole (pos 0) (pos 0) (negative ∷ neutral ∷ []) ∷ [])
    ≡ line (codes "sidb-range 1") (line (codes "sites 1") (line (codes "parts 2") (line (codes "part -2 -1 entries 1") (line (codes "- certain")
    (line (codes "part 0 0 entries 2") (line (codes "- certain") (line (codes "0 unresolved") (line (codes "end") []))))))))
unfolding digits
two_parts = refl

a_split_part : range_text 0 (printed_split (neg_ℤ (pos 20)) (pos 0) ∷ [])
    ≡ line (codes "sidb-range 1") (line (codes "sites 0") (line (codes "parts 1") (line (codes "part -20 0 split") (line (codes "end") []))))
unfolding digits
a_split_part = refl
