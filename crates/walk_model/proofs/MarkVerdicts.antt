-- whether a mark is the right one beside a list of lists, whether a list beats another by a window, and whether it stands before it
use Rattle.std.proofs.Common.{◌≡◌, ◌≢◌, ℕ, ◌<◌, ℤ, pos, negsuc, ◌+ℤ◌, ◌-ℤ◌, ◌*ℤ◌, ◌≤ℤ◌, ◌<ℤ◌, List, [], length, ◌⊎◌, inl, inr, refl, sym, ap, subst, arith}
use Rattle.std.proofs.lemmas.Int.{ints, by_lt_z}
use Rattle.std.proofs.lemmas.Bool.{cases_eq}
use Rattle.charge_model.proofs.Sums.{mul-le, mul-add}
use Rattle.charge_model.specs.declared.charge.Charge.{Charge}
use Rattle.charge_model.specs.declared.charge.Test.{Test}
use Rattle.charge_model.specs.declared.charge.Test.TheVariants.{AboveMinus, AbovePlus, BelowMinus, BelowPlus}
use Rattle.charge_model.specs.declared.mark.Deciding.{Deciding}
use Rattle.charge_model.specs.declared.mark.Mark.{Mark}
use Rattle.charge_model.specs.declared.mark.Mark.TheVariants.{Certain, Unresolved}
use Rattle.charge_model.specs.Charges.{IsBefore}
use Rattle.charge_model.specs.Problem.{Problem, UnderEveryTable, UnderSomeTable, IsLeast, IsGreatest}
use Rattle.charge_model.specs.Rules.{energy, at_site, by_hop, IsChargeList, IsCertainlyValid}
use Rattle.charge_model.specs.GroundList.{Comparison, own, rival, IsComparisonOf, IsEarlier, IsCandidate, comparison_of, span_of}
use Rattle.window_model.specs.Windows.{raised_energy, slack_within, BeatsBy, IsDecidingWithin, IsMarkWithin}
use Rattle.walk_model.proofs.LawsBelow.{Decided, AreLaws}
use Rattle.walk_model.proofs.Marked.{mark_decides}

-- the laws that a verdict stands on, of one problem and one window
pub record AreVerdictLaws (p : Problem) (window : ℤ) : Type 0 where
  pub laws : AreLaws p
  pub transitive : (a b c : List Charge) → IsBefore a b → IsBefore b c → IsBefore a c
  pub candidate : (c : List Charge) → Decided (IsCandidate p c)
  pub marked : (l : List (List Charge)) (c : List Charge) → (m : Mark) × IsMarkWithin p window l c m
  pub one_mark : (l : List (List Charge)) (c : List Charge) (m n : Mark) → IsMarkWithin p window l c m → IsMarkWithin p window l c n → m ≡ n

same_int : (a b : ℤ) → Decided (a ≡ b)
same_int a b = by_lt_z a b (λ less. inr (λ e. omega (arith, ints, less, e)))
    (λ more. by_lt_z b a (λ less. inr (λ e. omega (arith, ints, less, e))) (λ most. inl (omega (arith, ints, more, most))))

same_test : (a b : Test) → Decided (a ≡ b)
same_test AboveMinus AboveMinus = inl refl
same_test AboveMinus _ = inr (λ e. absurd (cc))
same_test AbovePlus AbovePlus = inl refl
same_test AbovePlus _ = inr (λ e. absurd (cc))
same_test BelowMinus BelowMinus = inl refl
same_test BelowMinus _ = inr (λ e. absurd (cc))
same_test BelowPlus BelowPlus = inl refl
same_test BelowPlus _ = inr (λ e. absurd (cc))

same_comparison : (a b : Comparison) → Decided (a ≡ b)
same_comparison (own (at_site i k)) (own (at_site j m)) = by (cases_eq i j) (same_test k m)
  where
    by : (i ≡ j) ⊎ (i ≢ j) → Decided (k ≡ m) → Decided (own (at_site i k) ≡ own (at_site j m))
    by (inl e) (inl f) = inl (cc (e, f))
    by (inr other) f = inr (λ same. other (cc same))
    by (inl e) (inr other) = inr (λ same. other (cc same))
same_comparison (own (by_hop i k)) (own (by_hop j m)) = by (cases_eq i j) (cases_eq k m)
  where
    by : (i ≡ j) ⊎ (i ≢ j) → (k ≡ m) ⊎ (k ≢ m) → Decided (own (by_hop i k) ≡ own (by_hop j m))
    by (inl e) (inl f) = inl (cc (e, f))
    by (inr other) f = inr (λ same. other (cc same))
    by (inl e) (inr other) = inr (λ same. other (cc same))
same_comparison (rival i) (rival j) = by (cases_eq i j)
  where
    by : (i ≡ j) ⊎ (i ≢ j) → Decided (rival i ≡ rival j)
    by (inl e) = inl (ap rival e)
    by (inr other) = inr (λ same. other (cc same))
same_comparison (own (at_site i k)) (own (by_hop j m)) = inr (λ e. absurd (cc))
same_comparison (own (by_hop j m)) (own (at_site i k)) = inr (λ e. absurd (cc))
same_comparison (own q) (rival j) = inr (λ e. absurd (cc))
same_comparison (rival j) (own q) = inr (λ e. absurd (cc))

-- what decides is told by its comparison and the ends of its slack
decides_too : (p : Problem) (window : ℤ) (l : List (List Charge)) (c : List Charge) (d e : Deciding) → comparison_of e ≡ comparison_of d → (span_of e).lo ≡ (span_of d).lo → (span_of e).hi ≡ (span_of d).hi
    → IsDecidingWithin p window l c e → IsDecidingWithin p window l c d
decides_too p window l c d e same lo hi is = record {
  of_list = subst (IsComparisonOf p l c) same is.of_list;
  fails = subst (λ q. UnderSomeTable p (λ t. slack_within p window l c q t <ℤ pos 0)) same is.fails;
  first = subst (λ q. (h : Comparison) → IsComparisonOf p l c h → IsEarlier h q → UnderEveryTable p (λ t. pos 0 ≤ℤ slack_within p window l c h t)) same is.first;
  least_slack = subst (λ q. IsLeast p (slack_within p window l c q) (span_of d).lo) same (subst (IsLeast p (slack_within p window l c (comparison_of e))) lo is.least_slack);
  greatest_slack = subst (λ q. IsGreatest p (slack_within p window l c q) (span_of d).hi) same (subst (IsGreatest p (slack_within p window l c (comparison_of e))) hi is.greatest_slack);
}

-- whether a mark is the right one, by one that is
by_right : (p : Problem) (window : ℤ) (l : List (List Charge)) (c : List Charge) (m n : Mark) → AreVerdictLaws p window → IsMarkWithin p window l c n → Decided (IsMarkWithin p window l c m)
by_right p window l c Certain Certain laws right = inl right
by_right p window l c Certain (Unresolved d) laws right = inr (λ other. let same = laws.one_mark l c Certain (Unresolved d) other right in absurd (cc same))
by_right p window l c (Unresolved d) Certain laws right = inr (λ other. let same = laws.one_mark l c (Unresolved d) Certain other right in absurd (cc same))
by_right p window l c (Unresolved d) (Unresolved e) laws right = by (same_comparison (comparison_of e) (comparison_of d)) (same_int (span_of e).lo (span_of d).lo) (same_int (span_of e).hi (span_of d).hi)
  where
    same : IsDecidingWithin p window l c d → e ≡ d
    same is = let whole = laws.one_mark l c (Unresolved e) (Unresolved d) right is in cc whole

    by : Decided (comparison_of e ≡ comparison_of d) → Decided ((span_of e).lo ≡ (span_of d).lo) → Decided ((span_of e).hi ≡ (span_of d).hi) → Decided (IsDecidingWithin p window l c d)
    by (inl q) (inl lo) (inl hi) = inl (decides_too p window l c d e q lo hi right)
    by (inr other) lo hi = inr (λ is. other (ap comparison_of (same is)))
    by (inl q) (inr other) hi = inr (λ is. other (ap (λ x. (span_of x).lo) (same is)))
    by (inl q) (inl lo) (inr other) = inr (λ is. other (ap (λ x. (span_of x).hi) (same is)))

pub mark_decided : (p : Problem) (window : ℤ) (l : List (List Charge)) (c : List Charge) (m : Mark) → AreVerdictLaws p window → Decided (IsMarkWithin p window l c m)
mark_decided p window l c m laws = let right = laws.marked l c in by_right p window l c m right.0 laws right.1

-- whether a list is certainly valid, by its mark beside no list
pub certain_decided : (p : Problem) (window : ℤ) (c : List Charge) → AreVerdictLaws p window → Decided (IsCertainlyValid p c)
certain_decided p window c laws = let right = laws.marked [] c in mark_decides p window [] c right.0 right.1

-- whether it lies below another by more than the window
abbrev IsBelow : Problem → ℤ → List Charge → List Charge → Type 0
IsBelow p window w c = UnderEveryTable p (λ t. raised_energy p window t w <ℤ energy p t c)

below_by : (p : Problem) (window : ℤ) (w c : List Charge) → AreLaws p → Decided (IsBelow p window w c)
below_by p window w c laws = by (laws.greatest_difference w c)
  where
    by : (most : ℤ) × IsGreatest p (λ t. energy p t w -ℤ energy p t c) most → Decided (UnderEveryTable p (λ t. raised_energy p window t w <ℤ energy p t c))
    by (most, is) = by_lt_z (most +ℤ window) (pos 0)
        (λ less. inl (λ t table.
        let bound = is.bounds t table in
        let scaled = mul-le (most +ℤ window) (negsuc 0) t.scale (omega (arith, ints, less)) in
        let spread = mul-add (pos t.scale) most window in
        let positive = table.positive in omega (arith, ints, bound, scaled, spread, positive)))
        (λ more. inr (λ below.
        let at = is.reached in
        let less = subst (λ s. (energy p at.0 w +ℤ pos s *ℤ window) <ℤ energy p at.0 c) at.2.0 (below at.0 at.1) in
        let value = at.2.1 in omega (arith, ints, less, value, more)))

-- whether a list of the problem beats another by the window
pub beats_decided : (p : Problem) (window : ℤ) (w c : List Charge) → AreVerdictLaws p window → IsChargeList p w → Decided (BeatsBy p window w c)
beats_decided p window w c laws list = by (certain_decided p window w laws) (below_by p window w c laws.laws)
  where
    by : Decided (IsCertainlyValid p w) → Decided (IsBelow p window w c) → Decided (BeatsBy p window w c)
    by (inr never) below = inr (λ beats. never beats.certain)
    by (inl certain) (inr never) = inr (λ beats. never beats.lower)
    by (inl certain) (inl lower) = inl (record { is_list = list; certain = certain; lower = lower })

-- whether a list stands before another of its length, and whether it is the other
pub before_decided : (p : Problem) (window : ℤ) (a b : List Charge) → AreVerdictLaws p window → length a ≡ length b → Decided (IsBefore a b)
before_decided p window a b laws long = by (laws.laws.total b a long)
  where
    by : (a ≡ b) ⊎ (IsBefore a b ⊎ IsBefore b a) → Decided (IsBefore a b)
    by (inl e) = inr (λ before. laws.laws.irreflexive b (subst (λ x. IsBefore x b) e before))
    by (inr (inl before)) = inl before
    by (inr (inr after)) = inr (λ before. laws.laws.irreflexive a (laws.transitive a b a before after))

pub same_decided : (p : Problem) (a b : List Charge) → AreLaws p → length a ≡ length b → Decided (a ≡ b)
same_decided p a b laws long = by (laws.total b a long)
  where
    by : (a ≡ b) ⊎ (IsBefore a b ⊎ IsBefore b a) → Decided (a ≡ b)
    by (inl e) = inl e
    by (inr (inl before)) = inr (λ e. laws.irreflexive b (subst (λ x. IsBefore x b) e before))
    by (inr (inr after)) = inr (λ e. laws.irreflexive b (subst (λ x. IsBefore b x) e after))
