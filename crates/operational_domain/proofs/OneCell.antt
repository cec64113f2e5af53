-- a point has one cell, and a grid one list of cells
use Rattle.std.proofs.Common.{◌≡◌, ◌∙◌, sym, ap, refl, subst, ℕ, ℤ, ◌<◌, ◌≤◌, ◌*◌, ◌⊎◌, inl, inr, List, arith}
use Rattle.std.proofs.Props.{props}
use Rattle.std.proofs.lemmas.Bool.{cases_lt}
use Rattle.sidb_layout.specs.Layout.{IsLayout}
use Rattle.model_params.specs.Params.{AreParamsInRange}
use Rattle.model_params.specs.declared.params.Params.{Params}
use Rattle.gate_model.specs.Logic.{pattern_count}
use Rattle.gate_model.specs.Grids.{Axes}
use Rattle.bdl_pairs.specs.declared.verdicts.PatternVerdict.{PatternVerdict}
use Rattle.bdl_pairs.specs.declared.verdicts.PatternVerdict.TheVariants.{Works as PatternWorks, Fails as PatternFails, Undecided as PatternUndecided}
use Rattle.bdl_pairs.specs.declared.truth.PatternAnswer.{PatternAnswer}
use Rattle.bdl_pairs.specs.declared.cell.Cell.{Cell}
use Rattle.bdl_pairs.specs.declared.cell.CellAnswer.{CellAnswer}
use Rattle.bdl_pairs.specs.declared.cell.CellAnswer.TheVariants.{Works, Fails, Undecided, Budget, Long}
use Rattle.operational_domain.specs.Patterns.{Setting}
use Rattle.operational_domain.specs.Placed.{Placed, setting_at}
use Rattle.operational_domain.specs.Points.{IsPoint}
use Rattle.operational_domain.specs.Cells.{HasVerdict, IsCellAnswer, IsFirstReason, IsReason, WorkBelow}
use Rattle.operational_domain.specs.Domain.{AreCells, IsCellAt}
use Rattle.operational_domain.proofs.ListsInOrder.{same_lists}
use Rattle.operational_domain.proofs.OnePattern.{PartsAreOne, not_long, not_over, over_or_long, same_answer}

-- the parameters of these numbers
abbrev of_numbers : (c e l d g : ℤ) (b : ℕ) → AreParamsInRange c e l d g b → Params
of_numbers c e l d g b within = record { coulomb = c; eps = e; lam = l; depth = d; gap = g; base = b; in_range = within }

one_range : (c e l d g : ℤ) (b : ℕ) (x y : AreParamsInRange c e l d g b) → x ≡ y
one_range c e l d g b = hlevel props

-- parameters of the same numbers are the same
same_params : (p q : Params) → p.coulomb ≡ q.coulomb → p.eps ≡ q.eps → p.lam ≡ q.lam → p.depth ≡ q.depth → p.gap ≡ q.gap → p.base ≡ q.base → p ≡ q
same_params p q ec ee el ed eg eb = coulomb q.coulomb ec q.eps ee q.lam el q.depth ed q.gap eg q.base eb q.in_range
  where
    base : (b : ℕ) → p.base ≡ b → (r : AreParamsInRange p.coulomb p.eps p.lam p.depth p.gap b) → p ≡ of_numbers p.coulomb p.eps p.lam p.depth p.gap b r
    base b e = subst (λ b. (r : AreParamsInRange p.coulomb p.eps p.lam p.depth p.gap b) → p ≡ of_numbers p.coulomb p.eps p.lam p.depth p.gap b r) e
        (λ r. ap (of_numbers p.coulomb p.eps p.lam p.depth p.gap p.base) (one_range p.coulomb p.eps p.lam p.depth p.gap p.base p.in_range r))

    gap : (g : ℤ) → p.gap ≡ g → (b : ℕ) → p.base ≡ b → (r : AreParamsInRange p.coulomb p.eps p.lam p.depth g b) → p ≡ of_numbers p.coulomb p.eps p.lam p.depth g b r
    gap g e = subst (λ g. (b : ℕ) → p.base ≡ b → (r : AreParamsInRange p.coulomb p.eps p.lam p.depth g b) → p ≡ of_numbers p.coulomb p.eps p.lam p.depth g b r) e base

    depth : (d : ℤ) → p.depth ≡ d → (g : ℤ) → p.gap ≡ g → (b : ℕ) → p.base ≡ b → (r : AreParamsInRange p.coulomb p.eps p.lam d g b) → p ≡ of_numbers p.coulomb p.eps p.lam d g b r
    depth d e = subst (λ d. (g : ℤ) → p.gap ≡ g → (b : ℕ) → p.base ≡ b → (r : AreParamsInRange p.coulomb p.eps p.lam d g b) → p ≡ of_numbers p.coulomb p.eps p.lam d g b r) e gap

    lam : (l : ℤ) → p.lam ≡ l → (d : ℤ) → p.depth ≡ d → (g : ℤ) → p.gap ≡ g → (b : ℕ) → p.base ≡ b → (r : AreParamsInRange p.coulomb p.eps l d g b) → p ≡ of_numbers p.coulomb p.eps l d g b r
    lam l e = subst (λ l. (d : ℤ) → p.depth ≡ d → (g : ℤ) → p.gap ≡ g → (b : ℕ) → p.base ≡ b → (r : AreParamsInRange p.coulomb p.eps l d g b) → p ≡ of_numbers p.coulomb p.eps l d g b r) e depth

    eps : (n : ℤ) → p.eps ≡ n → (l : ℤ) → p.lam ≡ l → (d : ℤ) → p.depth ≡ d → (g : ℤ) → p.gap ≡ g → (b : ℕ) → p.base ≡ b → (r : AreParamsInRange p.coulomb n l d g b) → p ≡ of_numbers p.coulomb n l d g b r
    eps n e = subst (λ n. (l : ℤ) → p.lam ≡ l → (d : ℤ) → p.depth ≡ d → (g : ℤ) → p.gap ≡ g → (b : ℕ) → p.base ≡ b → (r : AreParamsInRange p.coulomb n l d g b) → p ≡ of_numbers p.coulomb n l d g b r) e lam

    coulomb : (c : ℤ) → p.coulomb ≡ c → (n : ℤ) → p.eps ≡ n → (l : ℤ) → p.lam ≡ l → (d : ℤ) → p.depth ≡ d → (g : ℤ) → p.gap ≡ g → (b : ℕ) → p.base ≡ b → (r : AreParamsInRange c n l d g b) → p ≡ of_numbers c n l d g b r
    coulomb c e = subst (λ c. (n : ℤ) → p.eps ≡ n → (l : ℤ) → p.lam ≡ l → (d : ℤ) → p.depth ≡ d → (g : ℤ) → p.gap ≡ g → (b : ℕ) → p.base ≡ b → (r : AreParamsInRange c n l d g b) → p ≡ of_numbers c n l d g b r) e eps

pub same_point : (p : Params) (a : Axes) (k : ℕ) (x y : Params) → IsPoint p a k x → IsPoint p a k y → x ≡ y
same_point p a k x y h g =
    same_params x y (h.coulomb ∙ sym g.coulomb) (h.eps ∙ sym g.eps) (h.lam ∙ sym g.lam) (h.depth ∙ sym g.depth) (h.gap ∙ sym g.gap) (h.base ∙ sym g.base)

module _ (one : PartsAreOne) (s : Setting) (valid : IsLayout s.whole) where
  -- a pattern has one verdict
  same_verdict : (k : ℕ) (v w : PatternVerdict) → HasVerdict s k v → HasVerdict s k w → v ≡ w
  same_verdict k v w a b = sym a.says ∙ ap (λ (x : PatternAnswer). x.verdict) (same_answer one s valid k a.answer b.answer a.of_pattern b.of_pattern) ∙ b.says

  -- and one reason for which it does not work
  same_reason : (a b : CellAnswer) (k : ℕ) → IsReason s a k → IsReason s b k → a ≡ b
  same_reason Works b k x y = absurd x
  same_reason a Works k x y = absurd y
  same_reason (Fails i) (Fails j) k x y = ap Fails (x.0 ∙ sym y.0)
  same_reason (Undecided i) (Undecided j) k x y = ap Undecided (x.0 ∙ sym y.0)
  same_reason (Budget i) (Budget j) k x y = ap Budget (x.0 ∙ sym y.0)
  same_reason (Long i) (Long j) k x y = ap Long (x.0 ∙ sym y.0)
  same_reason (Fails i) (Undecided j) k x y = absurd (cc (same_verdict k PatternFails PatternUndecided x.1 y.1))
  same_reason (Undecided i) (Fails j) k x y = absurd (cc (same_verdict k PatternUndecided PatternFails x.1 y.1))
  same_reason (Fails i) (Budget j) k x y = absurd (not_over one s valid k x.1.answer x.1.of_pattern y.1)
  same_reason (Fails i) (Long j) k x y = absurd (not_long one s valid k x.1.answer x.1.of_pattern y.1)
  same_reason (Undecided i) (Budget j) k x y = absurd (not_over one s valid k x.1.answer x.1.of_pattern y.1)
  same_reason (Undecided i) (Long j) k x y = absurd (not_long one s valid k x.1.answer x.1.of_pattern y.1)
  same_reason (Budget i) (Fails j) k x y = absurd (not_over one s valid k y.1.answer y.1.of_pattern x.1)
  same_reason (Long i) (Fails j) k x y = absurd (not_long one s valid k y.1.answer y.1.of_pattern x.1)
  same_reason (Budget i) (Undecided j) k x y = absurd (not_over one s valid k y.1.answer y.1.of_pattern x.1)
  same_reason (Long i) (Undecided j) k x y = absurd (not_long one s valid k y.1.answer y.1.of_pattern x.1)
  same_reason (Budget i) (Long j) k x y = absurd (over_or_long one s valid k x.1 y.1)
  same_reason (Long i) (Budget j) k x y = absurd (over_or_long one s valid k y.1 x.1)

  -- no pattern works that has a reason
  works_or_not : (a : CellAnswer) (k : ℕ) → IsReason s a k → HasVerdict s k PatternWorks → ⊥
  works_or_not Works k x works = x
  works_or_not (Fails i) k x works = absurd (cc (same_verdict k PatternFails PatternWorks x.1 works))
  works_or_not (Undecided i) k x works = absurd (cc (same_verdict k PatternUndecided PatternWorks x.1 works))
  works_or_not (Budget i) k x works = not_over one s valid k works.answer works.of_pattern x.1
  works_or_not (Long i) k x works = not_long one s valid k works.answer works.of_pattern x.1

  same_first : (a b : CellAnswer) → IsFirstReason s a → IsFirstReason s b → a ≡ b
  same_first a b x y = by (cases_lt x.pattern y.pattern) (cases_lt y.pattern x.pattern)
    where
      by : (x.pattern < y.pattern) ⊎ (y.pattern ≤ x.pattern) → (y.pattern < x.pattern) ⊎ (x.pattern ≤ y.pattern) → a ≡ b
      by (inl less) other = absurd (works_or_not a x.pattern x.reason (y.first x.pattern less))
      by (inr most) (inl more) = absurd (works_or_not b y.pattern y.reason (x.first y.pattern more))
      by (inr most) (inr least) =
          let same : x.pattern ≡ y.pattern = omega (arith, most, least) in same_reason a b y.pattern (subst (IsReason s a) same x.reason) y.reason

  -- an answer says that the gate works, or gives the first reason
  split : (a : CellAnswer) → IsCellAnswer s a → ((a ≡ Works) × WorkBelow s (pattern_count s.gate)) ⊎ IsFirstReason s a
  split Works is = inl (refl, is)
  split (Fails i) is = inr is
  split (Undecided i) is = inr is
  split (Budget i) is = inr is
  split (Long i) is = inr is

  pub same_cell_answer : (a b : CellAnswer) → IsCellAnswer s a → IsCellAnswer s b → a ≡ b
  same_cell_answer a b x y = by (split a x) (split b y)
    where
      by : ((a ≡ Works) × WorkBelow s (pattern_count s.gate)) ⊎ IsFirstReason s a → ((b ≡ Works) × WorkBelow s (pattern_count s.gate)) ⊎ IsFirstReason s b → a ≡ b
      by (inl h) (inl g) = h.0 ∙ sym g.0
      by (inl h) (inr g) = absurd (works_or_not b g.pattern g.reason (h.1 g.pattern g.within))
      by (inr h) (inl g) = absurd (works_or_not a h.pattern h.reason (g.1 h.pattern h.within))
      by (inr h) (inr g) = same_first a b h g

-- a cell of these parts
abbrev cell_of : ℤ → ℤ → CellAnswer → Cell
cell_of eps lam answer = record { eps = eps; lam = lam; answer = answer }

module _ (one : PartsAreOne) (placed : Placed) (valid : IsLayout placed.whole) (p : Params) (a : Axes) where
  pub same_cell : (k : ℕ) (x y : Cell) → IsCellAt placed p a k x → IsCellAt placed p a k y → x ≡ y
  same_cell k x y h g =
      let points : h.point ≡ g.point = same_point p a k h.point g.point h.of_grid g.of_grid in
      let eps : x.eps ≡ y.eps = h.answers.eps ∙ ap (λ (q : Params). q.eps) points ∙ sym g.answers.eps in
      let lam : x.lam ≡ y.lam = h.answers.lam ∙ ap (λ (q : Params). q.lam) points ∙ sym g.answers.lam in
      let moved : IsCellAnswer (setting_at placed g.point) x.answer = subst (λ (q : Params). IsCellAnswer (setting_at placed q) x.answer) points h.answers.answer in
      let answers : x.answer ≡ y.answer = same_cell_answer one (setting_at placed g.point) valid x.answer y.answer moved g.answers.answer in
      ap (λ e. cell_of e x.lam x.answer) eps ∙ ap (λ l. cell_of y.eps l x.answer) lam ∙ ap (λ c. cell_of y.eps y.lam c) answers

  pub same_cells : (xs ys : List Cell) → AreCells placed p a xs → AreCells placed p a ys → xs ≡ ys
  same_cells xs ys h g = same_lists (IsCellAt placed p a) same_cell (a.eps.count * a.lam.count) xs ys h.count g.count h.each g.each
