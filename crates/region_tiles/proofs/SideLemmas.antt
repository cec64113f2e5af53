-- sides that follow each other from one end of a side to the other
use Rattle.std.proofs.Common.{◌≡◌, ◌∙◌, ℕ, ◌+◌, ◌-◌, ◌*◌, ◌<◌, ◌≤◌, ◌⊎◌, inl, inr, List, [], ◌∷◌, ◌++◌, Bool, true, false, refl, arith}
use Rattle.std.specs.Prelude.{All, AllPairs, Contains, sum_by}
use Rattle.std.proofs.lemmas.Bool.{cases_lt}
use Rattle.std.proofs.lemmas.List.Sums.{sum_by-append}
use Rattle.std.proofs.lemmas.List.Elements.{All-append, All-cons, All-nil, All-weaker, Contains-append_left, Contains-append_right}
use Rattle.region_tiles.specs.declared.sides.Side.{Side}
use Rattle.region_tiles.specs.Sides.{between, halves_of, is_cut, length_of, middle_of}
use Rattle.region_tiles.proofs.ListLemmas.{pairs_append}

-- a side within another
abbrev pub LiesIn : Side → Side → Type 0
LiesIn w s = (w.from ≤ s.from) × (s.to ≤ w.to)

-- n / d is a number of the side
abbrev pub HasNumber : ℕ → ℕ → Side → Type 0
HasNumber n d s = (s.from * d ≤ n) × (n ≤ s.to * d)

-- a side that ends where another begins, or before
abbrev pub IsBefore : Side → Side → Type 0
IsBefore s t = s.to ≤ t.from

pub record AreSteps (w : Side) (ss : List Side) : Type 0 where
  pub order : w.from ≤ w.to
  pub within : All (LiesIn w) ss
  pub cover : (n d : ℕ) → HasNumber n d w → (s : Side) × Contains ss s × HasNumber n d s
  pub before : AllPairs IsBefore ss
  pub length : sum_by length_of ss ≡ length_of w

pub one_step : (w : Side) → w.from ≤ w.to → AreSteps w (w ∷ [])
one_step w order = record {
  order = order;
  within = All-cons (LiesIn w) w [] (omega arith, omega arith) (All-nil (LiesIn w));
  cover = λ n d has. (w, (0, omega arith, refl), has);
  before = λ i j d less within. absurd (omega (arith, less, within));
  length = omega arith;
}

-- one more side behind the others
pub more_steps : (a m b : ℕ) (ss : List Side) → m ≤ b → AreSteps (between a m) ss → AreSteps (between a b) (ss ++ between m b ∷ [])
more_steps a m b ss le are = record {
  order = omega (arith, le, are.order);
  within = All-append (LiesIn (between a b)) ss (between m b ∷ [])
      (All-weaker (LiesIn (between a m)) (LiesIn (between a b)) (λ s lies. (lies.0, omega (arith, lies.1, le))) ss are.within)
      (All-cons (LiesIn (between a b)) (between m b) [] (are.order, omega arith) (All-nil (LiesIn (between a b))));
  cover = λ n d has. by n d has (cases_lt n (m * d));
  before = pairs_append IsBefore ss (between m b ∷ []) are.before (λ i j d less within. absurd (omega (arith, less, within)))
      (All-weaker (LiesIn (between a m)) (λ s. All (IsBefore s) (between m b ∷ [])) (λ s lies. All-cons (IsBefore s) (between m b) [] lies.1 (All-nil (IsBefore s))) ss are.within);
  length = sum_by-append length_of ss (between m b ∷ []) ∙ lengths;
}
  where
    lengths : sum_by length_of ss + sum_by length_of (between m b ∷ []) ≡ b - a
    lengths =
        let sum : sum_by length_of ss ≡ m - a = are.length in
        let last : sum_by length_of (between m b ∷ []) ≡ 0 + (b - m) = refl in
        let order : a ≤ m = are.order in omega (arith, sum, last, le, order)

    by : (n d : ℕ) → HasNumber n d (between a b) → (n < m * d) ⊎ (m * d ≤ n) → (s : Side) × Contains (ss ++ between m b ∷ []) s × HasNumber n d s
    by n d has (inl less) =
        let below : n ≤ m * d = omega (arith, less) in
        let (s, member, is) = are.cover n d (has.0, below) in
        (s, Contains-append_left ss (between m b ∷ []) s member, is)
    by n d has (inr more) = (between m b, Contains-append_right ss (between m b ∷ []) (between m b) (0, omega arith, refl), (more, has.1))

-- the halves of a side
pub halves_are_steps : (s : Side) → s.from ≤ s.to → AreSteps s (halves_of s)
halves_are_steps s order = by (is_cut s) refl
  where
    by : (b : Bool) → is_cut s ≡ b → AreSteps s (halves_of s)
    by true cut = rw cut (more_steps s.from (middle_of s) s.to (between s.from (middle_of s) ∷ []) (omega (arith, order)) (one_step (between s.from (middle_of s)) (omega (arith, order))))
    by false cut = rw cut (one_step s order)
