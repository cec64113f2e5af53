-- prefixes that pass a test with all their own prefixes: their count is the length of a list of them
use Rattle.std.proofs.Common.{◌≡◌, ◌≢◌, ℕ, zero, suc, ◌+◌, ◌<◌, ◌≤◌, List, [], ◌∷◌, ◌++◌, length, take, refl, sym, ap, subst, ◌∙◌, arith, ◌⊎◌, inl, inr, Bool, true, false, cond, eqb}
use Rattle.std.specs.Prelude.{All, AllPairs, Contains}
use Rattle.std.proofs.lemmas.Bool.{cases_eq, cases_lt, eq-eqb, ne_eqb}
use Rattle.std.proofs.Math.Seq.{take-append_seam}
use Rattle.std.proofs.lemmas.List.{length-append, take_all, take-take, take_more, get_or-take, take-append-le}
use Rattle.std.proofs.lemmas.List.Elements.{All-nil, All-cons, All-head, All-tail, All-append, All-contains, Contains-get_or, Contains-append_left, Contains-append_right, Contains-append_cases}
use Rattle.charge_model.specs.declared.charge.Charge.{Charge}
use Rattle.charge_model.specs.declared.charge.Charge.TheVariants.{Neg, Neutral, Pos}
use Rattle.charge_model.specs.Charges.{charge_at, IsOfBase}
use Rattle.prefix_laws.proofs.Extremes.{of_base-at}

-- at most all sites, in the base, and each prefix kept, it itself included
pub record IsGrown (base sites : ℕ) (kept : List Charge → Bool) (r : List Charge) : Type 0 where
  pub short : length r ≤ sites
  pub of_base : IsOfBase base r
  pub kept_each : (m : ℕ) → m ≤ length r → kept (take m r) ≡ true

-- how many begin with a prefix, whose own shorter prefixes are kept, and have at most `more` further charges
abbrev pub grown_from : ℕ → (List Charge → Bool) → ℕ → List Charge → ℕ
grown_from base kept zero q = cond (kept q) 1 0
grown_from base kept (suc more) q =
    cond (kept q) (1 + (grown_from base kept more (q ++ Neg ∷ []) + (grown_from base kept more (q ++ Neutral ∷ []) + cond (eqb base 2) 0 (grown_from base kept more (q ++ Pos ∷ []))))) 0

-- two members that differ
abbrev pub Differ : List Charge → List Charge → Type 0
Differ q r = q ≢ r

pairs_cons : (x : List Charge) (xs : List (List Charge)) → ((y : List Charge) → Contains xs y → Differ x y) → AllPairs Differ xs → AllPairs Differ (x ∷ xs)
pairs_cons x xs first rest zero zero d h l = absurd (omega (arith, h))
pairs_cons x xs first rest zero (suc j) d h l = first _ (Contains-get_or xs j d (omega (arith, l)))
pairs_cons x xs first rest (suc i) zero d h l = absurd (omega (arith, h))
pairs_cons x xs first rest (suc i) (suc j) d h l = rest i j d (omega (arith, h)) (omega (arith, l))

pairs_tail : (x : List Charge) (xs : List (List Charge)) → AllPairs Differ (x ∷ xs) → AllPairs Differ xs
pairs_tail x xs pairs = λ i j d h l. pairs (suc i) (suc j) d (omega (arith, h)) (omega (arith, l))

pairs_head : (x : List Charge) (xs : List (List Charge)) → AllPairs Differ (x ∷ xs) → (y : List Charge) → Contains xs y → Differ x y
pairs_head x xs pairs y (k, lt, e) = subst (Differ x) e (pairs 0 (suc k) y (omega arith) (omega (arith, lt)))

contains_more : (x y : List Charge) (xs : List (List Charge)) → Contains xs y → Contains (x ∷ xs) y
contains_more x y xs (k, lt, e) = (suc k, omega (arith, lt), e)

pairs_append : (xs ys : List (List Charge)) → AllPairs Differ xs → AllPairs Differ ys → ((x y : List Charge) → Contains xs x → Contains ys y → Differ x y) → AllPairs Differ (xs ++ ys)
pairs_append [] ys a b across = b
pairs_append (x ∷ xs) ys a b across = pairs_cons x (xs ++ ys) (λ y held. by y (Contains-append_cases xs ys y held))
    (pairs_append xs ys (pairs_tail x xs a) b (λ u v h. across u v (contains_more x u xs h)))
  where
    by : (y : List Charge) → Contains xs y ⊎ Contains ys y → Differ x y
    by y (inl h) = pairs_head x xs a y h
    by y (inr h) = across x y (0, omega arith, refl) h

-- one that is grown, begins with q and has at most `more` further charges
pub record IsMember (base sites : ℕ) (kept : List Charge → Bool) (more : ℕ) (q r : List Charge) : Type 0 where
  pub in_tree : IsGrown base sites kept r
  pub begins : take (length q) r ≡ q
  pub at_least : length q ≤ length r
  pub at_most : length r ≤ length q + more

-- a list of all these, each once
pub record Covers (base sites : ℕ) (kept : List Charge → Bool) (more : ℕ) (q : List Charge) (l : List (List Charge)) : Type 0 where
  pub once : AllPairs Differ l
  pub only : All (IsMember base sites kept more q) l
  pub each : (r : List Charge) → IsMember base sites kept more q r → Contains l r

-- a prefix whose own shorter prefixes are kept
pub record IsReached (base sites : ℕ) (kept : List Charge → Bool) (more : ℕ) (q : List Charge) : Type 0 where
  pub nodes : (m : ℕ) → m < length q → kept (take m q) ≡ true
  pub of_base : IsOfBase base q
  pub room : length q + more ≤ sites

-- where a reached prefix is kept it is grown
own_member : (base sites : ℕ) (kept : List Charge → Bool) (more : ℕ) (q : List Charge) → IsReached base sites kept more q → kept q ≡ true → IsMember base sites kept more q q
own_member base sites kept more q h e = record {
  in_tree = record {
    short = omega (arith, h.room);
    of_base = h.of_base;
    kept_each = λ m l. by m l (cases_lt m (length q));
  };
  begins = take_all (length q) q (omega arith);
  at_least = omega arith;
  at_most = omega arith;
}
  where
    by : (m : ℕ) → m ≤ length q → (m < length q) ⊎ (length q ≤ m) → kept (take m q) ≡ true
    by m l (inl less) = h.nodes m less
    by m l (inr all) = subst (λ z. kept z ≡ true) (sym (take_all m q all)) e

-- a member that begins with q shows that q is kept
member_node : (base sites : ℕ) (kept : List Charge → Bool) (more : ℕ) (q r : List Charge) → IsMember base sites kept more q r → kept q ≡ true
member_node base sites kept more q r m = subst (λ z. kept z ≡ true) m.begins (m.in_tree.kept_each (length q) m.at_least)

no_member : (base sites : ℕ) (kept : List Charge → Bool) (more : ℕ) (q : List Charge) → kept q ≡ false → Covers base sites kept more q []
no_member base sites kept more q e = record {
  once = λ i j d h l. absurd (omega (arith, l));
  only = All-nil _;
  each = λ r m. let f = member_node base sites kept more q r m in absurd (cc);
}

-- the same list where nothing more follows
same_list : (base sites : ℕ) (kept : List Charge → Bool) (more : ℕ) (q r : List Charge) → IsMember base sites kept more q r → length r ≤ length q → r ≡ q
same_list base sites kept more q r m short = sym (take_all (length q) r short) ∙ m.begins

one_more : (q : List Charge) (c : Charge) → length (q ++ c ∷ []) ≡ length q + 1
one_more q c = length-append q (c ∷ []) ∙ omega arith

last_at : (q : List Charge) (a : Charge) → charge_at (q ++ a ∷ []) (length q) ≡ a
last_at [] a = refl
last_at (x ∷ xs) a = last_at xs a

of_base-more : (b : ℕ) (q : List Charge) (c : Charge) → IsOfBase b q → (b ≡ 2 → c ≢ Pos) → IsOfBase b (q ++ c ∷ [])
of_base-more b [] c of h = (h, tt)
of_base-more b (x ∷ xs) c of h = (of.0, of_base-more b xs c of.1 h)

child_reached : (base sites : ℕ) (kept : List Charge → Bool) (more : ℕ) (q : List Charge) (c : Charge) → IsReached base sites kept (suc more) q → kept q ≡ true → (base ≡ 2 → c ≢ Pos)
    → IsReached base sites kept more (q ++ c ∷ [])
child_reached base sites kept more q c h e allowed = record {
  nodes = λ m l. by m (omega (arith, l, one_more q c)) (cases_lt m (length q));
  of_base = of_base-more base q c h.of_base allowed;
  room = omega (arith, one_more q c, h.room);
}
  where
    by : (m : ℕ) → m ≤ length q → (m < length q) ⊎ (length q ≤ m) → kept (take m (q ++ c ∷ [])) ≡ true
    by m l (inl less) = subst (λ z. kept z ≡ true) (sym (take-append-le m q (c ∷ []) l)) (h.nodes m less)
    by m l (inr all) =
        subst (λ z. kept z ≡ true) (sym (take-append-le m q (c ∷ []) l ∙ take_all m q all)) e

child_member : (base sites : ℕ) (kept : List Charge → Bool) (more : ℕ) (q : List Charge) (c : Charge) (r : List Charge) → IsMember base sites kept more (q ++ c ∷ []) r → IsMember base sites kept (suc more) q r
child_member base sites kept more q c r m = record {
  in_tree = m.in_tree;
  begins = sym (take-take (length q) (length (q ++ c ∷ [])) r (omega (arith, one_more q c))) ∙ ap (take (length q)) m.begins ∙ take-append_seam q (c ∷ []);
  at_least = omega (arith, m.at_least, one_more q c);
  at_most = omega (arith, m.at_most, one_more q c);
}

member_child : (base sites : ℕ) (kept : List Charge → Bool) (more : ℕ) (q : List Charge) (r : List Charge) → IsMember base sites kept (suc more) q r → length q < length r
    → IsMember base sites kept more (q ++ charge_at r (length q) ∷ []) r
member_child base sites kept more q r m l = record {
  in_tree = m.in_tree;
  begins = ap (λ n. take n r) (one_more q (charge_at r (length q))) ∙ take_more r (length q) Neutral l ∙ ap (λ z. z ++ charge_at r (length q) ∷ []) m.begins;
  at_least = omega (arith, one_more q (charge_at r (length q)), l);
  at_most = omega (arith, one_more q (charge_at r (length q)), m.at_most);
}

member_last : (base sites : ℕ) (kept : List Charge → Bool) (more : ℕ) (q : List Charge) (a : Charge) (r : List Charge) → IsMember base sites kept more (q ++ a ∷ []) r → charge_at r (length q) ≡ a
member_last base sites kept more q a r m =
    sym (get_or-take (length (q ++ a ∷ [])) r (length q) Neutral (omega (arith, one_more q a))) ∙ ap (λ z. charge_at z (length q)) m.begins ∙ last_at q a

pub all_to : (P Q : List Charge → Type 0) → ((x : List Charge) → P x → Q x) → (xs : List (List Charge)) → All P xs → All Q xs
all_to P Q f [] all = All-nil Q
all_to P Q f (x ∷ xs) all = All-cons Q x xs (f x (All-head P x xs all)) (all_to P Q f xs (All-tail P x xs all))

-- members below two children differ
apart : (base sites : ℕ) (kept : List Charge → Bool) (more : ℕ) (q : List Charge) (a b : Charge) (xs ys : List (List Charge)) → a ≢ b
    → Covers base sites kept more (q ++ a ∷ []) xs → Covers base sites kept more (q ++ b ∷ []) ys → (x y : List Charge) → Contains xs x → Contains ys y → Differ x y
apart base sites kept more q a b xs ys ne first second x y h k = λ e.
    let left = member_last base sites kept more q a x (All-contains (IsMember base sites kept more (q ++ a ∷ [])) xs x first.only h) in
    let right = member_last base sites kept more q b y (All-contains (IsMember base sites kept more (q ++ b ∷ [])) ys y second.only k) in
    ne (sym left ∙ ap (λ z. charge_at z (length q)) e ∙ right)

longer : (base sites : ℕ) (kept : List Charge → Bool) (more : ℕ) (q : List Charge) (a : Charge) (xs : List (List Charge)) → Covers base sites kept more (q ++ a ∷ []) xs → (x : List Charge) → Contains xs x → Differ q x
longer base sites kept more q a xs covers x h = λ e.
    let member = All-contains (IsMember base sites kept more (q ++ a ∷ [])) xs x covers.only h in
    let same = ap length e in absurd (omega (arith, same, member.at_least, one_more q a))

no_pos : (base sites : ℕ) (kept : List Charge → Bool) (more : ℕ) (q : List Charge) → base ≡ 2 → Covers base sites kept more (q ++ Pos ∷ []) []
no_pos base sites kept more q two = record {
  once = λ i j d h l. absurd (omega (arith, l));
  only = All-nil _;
  each = λ r m. absurd (of_base-at base r (length q) m.in_tree.of_base (member_last base sites kept more q Pos r m) two);
}

covers_more : (base sites : ℕ) (kept : List Charge → Bool) (more : ℕ) (q : List Charge) (a b c : List (List Charge)) → IsReached base sites kept (suc more) q → kept q ≡ true
    → Covers base sites kept more (q ++ Neg ∷ []) a → Covers base sites kept more (q ++ Neutral ∷ []) b → Covers base sites kept more (q ++ Pos ∷ []) c
    → Covers base sites kept (suc more) q (q ∷ (a ++ (b ++ c)))
covers_more base sites kept more q a b c h e first second third = record {
  once = pairs_cons q (a ++ (b ++ c)) (λ y held. other y (Contains-append_cases a (b ++ c) y held))
      (pairs_append a (b ++ c) first.once (pairs_append b c second.once third.once (apart base sites kept more q Neutral Pos b c (λ f. absurd (cc)) second third))
      (λ x y k held. across x y k (Contains-append_cases b c y held)));
  only = All-cons (IsMember base sites kept (suc more) q) q (a ++ (b ++ c)) (own_member base sites kept (suc more) q h e)
      (All-append (IsMember base sites kept (suc more) q) a (b ++ c) (all_to _ _ (child_member base sites kept more q Neg) a first.only)
      (All-append (IsMember base sites kept (suc more) q) b c (all_to _ _ (child_member base sites kept more q Neutral) b second.only) (all_to _ _ (child_member base sites kept more q Pos) c third.only)));
  each = λ r m. found r m (cases_lt (length q) (length r));
}
  where
    rest : (y : List Charge) → Contains b y ⊎ Contains c y → Differ q y
    rest y (inl k) = longer base sites kept more q Neutral b second y k
    rest y (inr k) = longer base sites kept more q Pos c third y k

    other : (y : List Charge) → Contains a y ⊎ Contains (b ++ c) y → Differ q y
    other y (inl k) = longer base sites kept more q Neg a first y k
    other y (inr k) = rest y (Contains-append_cases b c y k)

    across : (x y : List Charge) → Contains a x → Contains b y ⊎ Contains c y → Differ x y
    across x y k (inl l) = apart base sites kept more q Neg Neutral a b (λ f. absurd (cc)) first second x y k l
    across x y k (inr l) = apart base sites kept more q Neg Pos a c (λ f. absurd (cc)) first third x y k l

    by : (r : List Charge) (d : Charge) → IsMember base sites kept more (q ++ d ∷ []) r → Contains (q ∷ (a ++ (b ++ c))) r
    by r Neg m = contains_more q r (a ++ (b ++ c)) (Contains-append_left a (b ++ c) r (first.each r m))
    by r Neutral m = contains_more q r (a ++ (b ++ c)) (Contains-append_right a (b ++ c) r (Contains-append_left b c r (second.each r m)))
    by r Pos m = contains_more q r (a ++ (b ++ c)) (Contains-append_right a (b ++ c) r (Contains-append_right b c r (third.each r m)))

    found : (r : List Charge) → IsMember base sites kept (suc more) q r → (length q < length r) ⊎ (length r ≤ length q) → Contains (q ∷ (a ++ (b ++ c))) r
    found r m (inl less) = by r (charge_at r (length q)) (member_child base sites kept more q r m less)
    found r m (inr short) = (0, omega arith, sym (same_list base sites kept (suc more) q r m short))

covers_one : (base sites : ℕ) (kept : List Charge → Bool) (q : List Charge) → IsReached base sites kept 0 q → kept q ≡ true → Covers base sites kept 0 q (q ∷ [])
covers_one base sites kept q h e = record {
  once = λ i j d k l. absurd (omega (arith, k, l));
  only = All-cons (IsMember base sites kept 0 q) q [] (own_member base sites kept 0 q h e) (All-nil _);
  each = λ r m. (0, omega arith, sym (same_list base sites kept 0 q r m (omega (arith, m.at_most))));
}

-- the list of all members from a reached prefix, and its length
pub covers : (base sites : ℕ) (kept : List Charge → Bool) (more : ℕ) (q : List Charge) → IsReached base sites kept more q
    → (l : List (List Charge)) × Covers base sites kept more q l × (length l ≡ grown_from base kept more q)
covers base sites kept zero q h = by (kept q) refl
  where
    by : (b : Bool) → kept q ≡ b → (l : List (List Charge)) × Covers base sites kept 0 q l × (length l ≡ cond b 1 0)
    by true e = (q ∷ [], covers_one base sites kept q h e, refl)
    by false e = ([], no_member base sites kept 0 q e, refl)
covers base sites kept (suc more) q h = by (kept q) refl (λ c r. covers base sites kept more (q ++ c ∷ []) r)
  where
    below : Charge → Type 0
    below c = IsReached base sites kept more (q ++ c ∷ []) → (l : List (List Charge)) × Covers base sites kept more (q ++ c ∷ []) l × (length l ≡ grown_from base kept more (q ++ c ∷ []))

    last : kept q ≡ true → below Pos → (base ≡ 2) ⊎ (base ≢ 2)
        → (l : List (List Charge)) × Covers base sites kept more (q ++ Pos ∷ []) l × (length l ≡ cond (eqb base 2) 0 (grown_from base kept more (q ++ Pos ∷ [])))
    last e third (inl two) = ([], no_pos base sites kept more q two, rw (eq-eqb base 2 two) refl)
    last e third (inr ne) =
        let found = third (child_reached base sites kept more q Pos h e (λ two. absurd (ne two))) in
        (found.0, found.1, rw (ne_eqb base 2 ne) found.2)

    by : (b : Bool) → kept q ≡ b → ((c : Charge) → below c)
        → (l : List (List Charge)) × Covers base sites kept (suc more) q l
        × (length l ≡ cond b (1 + (grown_from base kept more (q ++ Neg ∷ []) + (grown_from base kept more (q ++ Neutral ∷ []) + cond (eqb base 2) 0 (grown_from base kept more (q ++ Pos ∷ []))))) 0)
    by true e each =
        let first = each Neg (child_reached base sites kept more q Neg h e (λ two f. absurd (cc))) in
        let second = each Neutral (child_reached base sites kept more q Neutral h e (λ two f. absurd (cc))) in
        let third = last e (each Pos) (cases_eq base 2) in
        let outer = length-append first.0 (second.0 ++ third.0) in
        let inner = length-append second.0 third.0 in
        let one = first.2 in let two = second.2 in let three = third.2 in
        (q ∷ (first.0 ++ (second.0 ++ third.0)), covers_more base sites kept more q first.0 second.0 third.0 h e first.1 second.1 third.1, omega (arith, outer, inner, one, two, three))
    by false e each = ([], no_member base sites kept (suc more) q e, refl)

-- each that is grown stands in one list, whose length is their count
pub record ListsGrown (base sites : ℕ) (kept : List Charge → Bool) (l : List (List Charge)) : Type 0 where
  pub once : AllPairs Differ l
  pub only : All (IsGrown base sites kept) l
  pub each : (r : List Charge) → IsGrown base sites kept r → Contains l r

pub grown_counted : (base sites : ℕ) (kept : List Charge → Bool) → (l : List (List Charge)) × ListsGrown base sites kept l × (length l ≡ grown_from base kept sites [])
grown_counted base sites kept =
    let all = covers base sites kept sites [] (record { nodes = λ m l. absurd (omega (arith, l)); of_base = tt; room = omega arith }) in (
      all.0,
      record {
        once = all.1.once;
        only = all_to (IsMember base sites kept sites []) (IsGrown base sites kept) (λ x m. m.in_tree) all.0 all.1.only;
        each = λ r t. all.1.each r (record { in_tree = t; begins = refl; at_least = omega arith; at_most = omega (arith, t.short) });
      },
      all.2,
    )
