-- the shares of the entries of a list: there is one list of them
use Rattle.std.proofs.Common.{◌≡◌, ℕ, ℤ, pos, ◌-ℤ◌, ◌*ℤ◌, ◌≤ℤ◌, List, [], ◌∷◌, refl, ap₂, subst, arith}
use Rattle.std.specs.List.{AllZip}
use Rattle.std.proofs.lemmas.Int.{ints}
use Rattle.charge_model.specs.declared.charge.Charge.{Charge}
use Rattle.charge_model.specs.declared.span.Span.{Span}
use Rattle.charge_model.specs.Problem.{Problem, Table, IsProblem, IsLeast, IsGreatest}
use Rattle.charge_model.specs.Rules.{energy}
use Rattle.occupation.specs.declared.share.Share.{Share}
use Rattle.occupation.specs.Rounding.{rounded_share}
use Rattle.occupation.specs.Shares.{AreGaps, AreRoundedShares, IsEnergyGapSpan, IsRoundedShare}
use Rattle.occupation.proofs.LawLemmas.{equal_shares}

same_list : (p : Problem) (kt : ℕ) (l es : List (List Charge)) (ss rs : List Share) → AllZip (IsRoundedShare p kt l) es ss → AllZip (IsRoundedShare p kt l) es rs → ss ≡ rs
same_list p kt l [] [] [] one two = refl
same_list p kt l [] (s ∷ ss) rs one two = absurd one
same_list p kt l [] [] (r ∷ rs) one two = absurd two
same_list p kt l (e ∷ es) [] rs one two = absurd one
same_list p kt l (e ∷ es) (s ∷ ss) [] one two = absurd two
same_list p kt l (e ∷ es) (s ∷ ss) (r ∷ rs) one two =
    ap₂ (λ (x : Share) xs. x ∷ xs) (equal_shares p kt e e (λ t is. refl) l s r one.0 two.0) (same_list p kt l es ss rs one.1 two.1)

pub one_list : (p : Problem) (kt : ℕ) (l : List (List Charge)) (ss rs : List Share) → AreRoundedShares p kt l ss → AreRoundedShares p kt l rs → ss ≡ rs
one_list p kt l ss rs one two = same_list p kt l l ss rs one two

-- differences of energies have extremes
pub record HaveExtremes : Type 0 where
  pub least : (p : Problem) (w c : List Charge) → IsProblem p → (least : ℤ) × IsLeast p (λ t. energy p t w -ℤ energy p t c) least
  pub greatest : (p : Problem) (w c : List Charge) → IsProblem p → (greatest : ℤ) × IsGreatest p (λ t. energy p t w -ℤ energy p t c) greatest

in_order : (p : Problem) (q : Table → ℤ) (lo hi : ℤ) → IsLeast p q lo → IsGreatest p q hi → lo ≤ℤ hi
in_order p q lo hi least greatest =
    let at = least.reached in
    let bound = subst (λ (s : ℕ). q at.0 ≤ℤ (pos s *ℤ hi)) at.2.0 (greatest.bounds at.0 at.1) in
    omega (arith, ints, bound, at.2.1)

module _ (have : HaveExtremes) (p : Problem) (valid : IsProblem p) where
  pub gap_between : (c e : List Charge) → (s : Span) × IsEnergyGapSpan p c e s
  gap_between c e =
      let least = have.least p c e valid in
      let greatest = have.greatest p c e valid in
      let order : least.0 ≤ℤ greatest.0 = in_order p (λ t. energy p t c -ℤ energy p t e) least.0 greatest.0 least.1 greatest.1 in
      (record { lo = least.0; hi = greatest.0; in_order = order }, record { least = least.1; greatest = greatest.1 })

  unfoldable pub gaps_to : (c : List Charge) (l : List (List Charge)) → (gaps : List Span) × AreGaps p c l gaps
  gaps_to c [] = ([], tt)
  gaps_to c (e ∷ l) =
      let gap = gap_between c e in
      let rest = gaps_to c l in
      (gap.0 ∷ rest.0, (gap.1, rest.1))

  shares_in : (kt : ℕ) (l es : List (List Charge)) → (ss : List Share) × AllZip (IsRoundedShare p kt l) es ss
  shares_in kt l [] = ([], tt)
  shares_in kt l (e ∷ es) =
      let gaps = gaps_to e l in
      let rest = shares_in kt l es in
      (rounded_share kt gaps.0 ∷ rest.0, (record { gaps = gaps.0; are_gaps = gaps.1; rounded = refl }, rest.1))

pub some_list : HaveExtremes → (p : Problem) (kt : ℕ) (l : List (List Charge)) → IsProblem p → (ss : List Share) × AreRoundedShares p kt l ss
some_list have p kt l valid = shares_in have p valid kt l l
