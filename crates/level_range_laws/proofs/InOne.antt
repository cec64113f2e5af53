-- a level lies in one of the runs that follow each other
use Rattle.std.proofs.Common.{◌≡◌, ℕ, zero, suc, ◌<◌, List, [], ◌∷◌, length, ℤ, pos, ◌+ℤ◌, ◌≤ℤ◌, ◌<ℤ◌, refl, ap, arith}
use Rattle.std.proofs.lemmas.Int.{ints, by_lt_z}
use Rattle.charge_model.specs.Problem.{Problem}
use Rattle.level_range_laws.specs.declared.interval.Interval.{Interval}
use Rattle.level_range_laws.specs.Levels.{IsIn}
use Rattle.level_range_laws.specs.Parts.{Printed, Follow, ArePrinted, HasLevel, IsInOne, printed_at}

-- each run begins at the first level or later
later : (first last : ℤ) (xs : List Printed) → Follow first last xs → (k : ℕ) → k < length xs → first ≤ℤ (printed_at xs k).first
later first last [] h k lt = absurd (omega (arith, lt))
later first last (x ∷ xs) (begins, some, rest) zero lt = omega (arith, ints, begins)
later first last (x ∷ xs) (begins, some, rest) (suc k) lt =
    let more = later (x.last +ℤ pos 1) last xs rest k (omega (arith, lt)) in omega (arith, ints, begins, some, more)

in_one : (first last : ℤ) (xs : List Printed) (m : ℤ) → Follow first last xs → first ≤ℤ m → m ≤ℤ last → IsInOne xs m
in_one first last [] m h from to = absurd (omega (arith, ints, h, from, to))
in_one first last (x ∷ xs) m (begins, some, rest) from to = by_lt_z x.last m
    (λ behind. beyond behind (in_one (x.last +ℤ pos 1) last xs m rest (omega (arith, ints, behind)) to))
    (λ within. record { place = 0; within = omega arith; has = record { from = omega (arith, ints, begins, from); to = within }; alone = first_alone within })
  where
    first_alone : m ≤ℤ x.last → (k : ℕ) → k < length (x ∷ xs) → HasLevel (printed_at (x ∷ xs) k) m → k ≡ 0
    first_alone within zero lt has = refl
    first_alone within (suc k) lt has =
        let more = later (x.last +ℤ pos 1) last xs rest k (omega (arith, lt)) in
        let start = has.from in absurd (omega (arith, ints, within, more, start))

    beyond : x.last <ℤ m → IsInOne xs m → IsInOne (x ∷ xs) m
    beyond behind one = record { place = suc one.place; within = let w = one.within in omega (arith, w); has = one.has; alone = others }
      where
        others : (k : ℕ) → k < length (x ∷ xs) → HasLevel (printed_at (x ∷ xs) k) m → k ≡ suc one.place
        others zero lt has = let end = has.to in absurd (omega (arith, ints, behind, end))
        others (suc k) lt has = ap suc (one.alone k (omega (arith, lt)) has)

pub level_in_one : (p : Problem) (levels : Interval) (parts : List Printed) (m : ℤ) → ArePrinted p levels parts → IsIn levels m → IsInOne parts m
level_in_one p levels parts m h inside = in_one levels.first levels.last parts m h.follow inside.from inside.to
