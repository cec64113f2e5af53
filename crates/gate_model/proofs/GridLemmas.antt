-- a text is one grid at most
use Rattle.std.proofs.Common.{◌≡◌, ◌∙◌, ap, subst, ℕ, ℤ, pos, List, [], ◌∷◌}
use Rattle.sidb_units.specs.declared.TheConstants.{MAX_GRID}
use Rattle.model_params.specs.declared.quantity.Quantity.{Quantity}
use Rattle.model_params.specs.Quantities.{permittivity, screening_length}
use Rattle.gate_model.specs.declared.grid.Axis.{Axis}
use Rattle.gate_model.specs.Grids.{Axes, HasPointsIn}
use Rattle.gate_model.specs.GridTexts.{AreNumbers, IsAxisText, IsGridText}
use Rattle.gate_model.specs.Pairs.{between_colons, parts}
use Rattle.gate_model.specs.declared.TheConstants.{MAX_GRID_STEP}
use Rattle.gate_model.proofs.PairLemmas.{IsReadOnce}

-- three words are one direction
abbrev made : ℤ → ℤ → ℕ → Axis
made s t n = record { start = s; step = t; count = n }

same_axis : (a b : Axis) → a.start ≡ b.start → a.step ≡ b.step → a.count ≡ b.count → made a.start a.step a.count ≡ made b.start b.step b.count
same_axis a b s t n = ap (λ x. made x a.step a.count) s ∙ ap (λ x. made b.start x a.count) t ∙ ap (made b.start b.step) n

same_count : (m n : ℕ) → pos m ≡ pos n → m ≡ n
same_count m n e = cc

pub one_numbers : IsReadOnce → (q : Quantity) (x y z : List ℕ) (a b : Axis) → AreNumbers q x y z a → AreNumbers q x y z b → a ≡ b
one_numbers once q x y z a b e f =
    same_axis a b (once x q.places q.least q.greatest a.start b.start e.start_number f.start_number) (once y 4 (pos 1) MAX_GRID_STEP a.step b.step e.step_number f.step_number)
    (same_count a.count b.count (once z 0 (pos 1) (pos MAX_GRID) (pos a.count) (pos b.count) e.count_number f.count_number))

-- the words of a direction in a text are these
with_words : (q : Quantity) (part x y z : List ℕ) → between_colons part ≡ x ∷ y ∷ z ∷ [] → (axis : Axis) → IsAxisText q part axis → AreNumbers q x y z axis
with_words q part x y z words axis is =
    let first : is.start ≡ x = cc (words, is.words) in
    let second : is.step ≡ y = cc (words, is.words) in
    let third : is.count ≡ z = cc (words, is.words) in
    subst (λ w. AreNumbers q x y w axis) third (subst (λ w. AreNumbers q x w is.count axis) second (subst (λ w. AreNumbers q w is.step is.count axis) first is.numbers))

-- a part is no direction where its words are no numbers of one
pub no_numbers : (q : Quantity) (part x y z : List ℕ) → between_colons part ≡ x ∷ y ∷ z ∷ [] → ((axis : Axis) → AreNumbers q x y z axis → ⊥) → (axis : Axis) → IsAxisText q part axis → ⊥
no_numbers q part x y z words none axis is = none axis (with_words q part x y z words axis is)

pub one_axis : IsReadOnce → (q : Quantity) (part : List ℕ) (a b : Axis) → IsAxisText q part a → IsAxisText q part b → a ≡ b
one_axis once q part a b e f = one_numbers once q e.start e.step e.count a b e.numbers (with_words q part e.start e.step e.count e.words b f)

-- a part whose numbers have a point out of the range is no direction
pub outside_text : IsReadOnce → (q : Quantity) (part x y z : List ℕ) → between_colons part ≡ x ∷ y ∷ z ∷ [] → (axis : Axis) → AreNumbers q x y z axis → (HasPointsIn q axis → ⊥) → (other : Axis) → IsAxisText q part other → ⊥
outside_text once q part x y z words axis numbers not other is =
    let same : other ≡ axis = one_numbers once q x y z other axis (with_words q part x y z words other is) numbers in
    not (subst (HasPointsIn q) same is.inside)

-- a text is no grid where one of its two parts is no direction
pub no_first_axis : (text x y : List ℕ) → parts text ≡ x ∷ y ∷ [] → ((axis : Axis) → IsAxisText permittivity x axis → ⊥) → (a : Axes) → IsGridText text a → ⊥
no_first_axis text x y both none a is =
    let same : is.eps_part ≡ x = cc (both, is.both) in none a.eps (subst (λ w. IsAxisText permittivity w a.eps) same is.eps)

pub no_second_axis : (text x y : List ℕ) → parts text ≡ x ∷ y ∷ [] → ((axis : Axis) → IsAxisText screening_length y axis → ⊥) → (a : Axes) → IsGridText text a → ⊥
no_second_axis text x y both none a is =
    let same : is.lam_part ≡ y = cc (both, is.both) in none a.lam (subst (λ w. IsAxisText screening_length w a.lam) same is.lam)

-- a text is one grid
abbrev axes : Axis → Axis → Axes
axes e l = record { eps = e; lam = l }

pub one_grid : IsReadOnce → (text : List ℕ) (a b : Axes) → IsGridText text a → IsGridText text b → a ≡ b
one_grid once text a b e f =
    let first : f.eps_part ≡ e.eps_part = cc (e.both, f.both) in
    let second : f.lam_part ≡ e.lam_part = cc (e.both, f.both) in
    let eps : a.eps ≡ b.eps = one_axis once permittivity e.eps_part a.eps b.eps e.eps (subst (λ w. IsAxisText permittivity w b.eps) first f.eps) in
    let lam : a.lam ≡ b.lam = one_axis once screening_length e.lam_part a.lam b.lam e.lam (subst (λ w. IsAxisText screening_length w b.lam) second f.lam) in
    ap (λ x. axes x a.lam) eps ∙ ap (axes b.eps) lam
