-- there is one answer at a level, and one list of printed parts of an interval
use Rattle.std.proofs.Common.{◌≡◌, ℕ, zero, suc, ◌≤◌, List, [], ◌∷◌, length, ℤ, pos, ◌+ℤ◌, ◌-ℤ◌, ◌≤ℤ◌, ◌<ℤ◌, Bool, true, false, refl, sym, ap, subst, ◌∙◌, arith, Option, Some, None}
use Rattle.std.specs.Prelude.{All, ◌↔◌, IsTrue, IsSome, take}
use Rattle.std.proofs.lemmas.Int.{ints, by_lt_z}
use Rattle.std.proofs.lemmas.Bool.{false≢true}
use Rattle.std.proofs.lemmas.List.Elements.{All-head, All-tail}
use Rattle.charge_model.specs.declared.charge.Charge.{Charge}
use Rattle.charge_model.specs.Problem.{Problem}
use Rattle.charge_model.specs.GroundList.{IsCertain}
use Rattle.ground_list_laws.proofs.AtZero.{ground_list_unique}
use Rattle.level_range_laws.specs.declared.interval.Interval.{Interval}
use Rattle.level_range_laws.specs.Levels.{at_level}
use Rattle.level_range_laws.specs.Answers.{Outcome, lists_of_outcomes, IsAnswerAt}
use Rattle.level_range_laws.specs.Parts.{IsPart, Printed, HasChange, IsPrintedPart, Follow, ArePrinted}

same_bits : (Q : Type 0) (a b : Bool) → (IsTrue a ↔ Q) → (IsTrue b ↔ Q) → a ≡ b
same_bits Q true true f g = refl
same_bits Q false false f g = refl
same_bits Q true false f g = absurd (false≢true (g.1 (f.0 refl)))
same_bits Q false true f g = absurd (false≢true (f.1 (g.0 refl)))

abbrev made : List Charge → Bool → Outcome
made c b = record { charges = c; certain = b }

-- entries that tell the same property of the same lists are the same
same_entries : (Q : List Charge → Type 0) (a b : List Outcome) → lists_of_outcomes a ≡ lists_of_outcomes b → All (λ o. IsTrue o.certain ↔ Q o.charges) a → All (λ o. IsTrue o.certain ↔ Q o.charges) b → a ≡ b
same_entries Q [] [] e f g = refl
same_entries Q [] (y ∷ ys) e f g = absurd (cc)
same_entries Q (x ∷ xs) [] e f g = absurd (cc)
same_entries Q (x ∷ xs) (y ∷ ys) e f g =
    let here : x.charges ≡ y.charges = cc in
    let rest : lists_of_outcomes xs ≡ lists_of_outcomes ys = cc in
    let first = All-head (λ o. IsTrue o.certain ↔ Q o.charges) x xs f in
    let second = All-head (λ o. IsTrue o.certain ↔ Q o.charges) y ys g in
    let bit = same_bits (Q x.charges) x.certain y.certain first (subst (λ c. IsTrue y.certain ↔ Q c) (sym here) second) in
    let same : x ≡ y = whole x.charges y.charges x.certain y.certain here bit in
    let more = same_entries Q xs ys rest (All-tail (λ o. IsTrue o.certain ↔ Q o.charges) x xs f) (All-tail (λ o. IsTrue o.certain ↔ Q o.charges) y ys g) in
    cc
  where
    whole : (c d : List Charge) (a b : Bool) → c ≡ d → a ≡ b → made c a ≡ made d b
    whole c d a b e f = ap (λ z. made z a) e ∙ ap (made d) f

pub one_answer : (p : Problem) (m : ℤ) (a b : List Outcome) → IsAnswerAt p m a → IsAnswerAt p m b → a ≡ b
one_answer p m a b h k =
    let lists = ground_list_unique (at_level p m) (lists_of_outcomes a) (lists_of_outcomes b) h.ground k.ground in
    same_entries (IsCertain (at_level p m) (lists_of_outcomes a)) a b lists h.certain
    (subst (λ l. All (λ o. IsTrue o.certain ↔ IsCertain (at_level p m) l o.charges) b) (sym lists) k.certain)

-- two printed parts that begin at one level
part_ends : (p : Problem) (levels : Interval) (first a b : ℤ) (x y : List Outcome) → IsPart p levels (record { first = first; last = a; answer = x }) → IsPart p levels (record { first = first; last = b; answer = y }) → b ≤ℤ a
part_ends p levels first a b x y one two = by_lt_z a b (λ less. absurd (shorter less)) (λ h. h)
  where
    shorter : a <ℤ b → ⊥
    shorter less =
        let some = one.some in
        let more = two.some in
        let to = two.to in
        let same = one_answer p first x y (one.same first (omega (arith, ints)) some) (two.same first (omega (arith, ints)) more) in
        one.after (omega (arith, ints, less, to)) (subst (IsAnswerAt p (a +ℤ pos 1)) (sym same) (two.same (a +ℤ pos 1) (omega (arith, ints, some)) (omega (arith, ints, less))))

-- a change among the levels of a part
no_change : (p : Problem) (levels : Interval) (first last : ℤ) (x : List Outcome) → IsPart p levels (record { first = first; last = last; answer = x }) → HasChange p first last → ⊥
no_change p levels first last x part change =
    let above = change.above in
    let below = change.below in
    let before = part.same (change.level -ℤ pos 1) (omega (arith, ints, above)) (omega (arith, ints, below)) in
    let here = part.same change.level (omega (arith, ints, above)) below in
    change.after (subst (IsAnswerAt p change.level) (one_answer p (change.level -ℤ pos 1) x change.answer before change.before) here)

-- the printed parts from a level on, of which this many more may stand, and those but the last are whole
record AreRest (p : Problem) (levels : Interval) (first : ℤ) (more : ℕ) (xs : List Printed) : Type 0 where
  follow : Follow first levels.last xs
  each : All (λ x. IsPrintedPart p levels x.first x.last x.answer) xs
  few : length xs ≤ suc more
  whole : All (λ x. IsSome x.answer) (take more xs)

rest_tail : (p : Problem) (levels : Interval) (first : ℤ) (more : ℕ) (x : Printed) (xs : List Printed) → AreRest p levels first (suc more) (x ∷ xs) → AreRest p levels (x.last +ℤ pos 1) more xs
rest_tail p levels first more x xs h =
    let few = h.few in
    record {
      follow = h.follow.2;
      each = All-tail (λ x. IsPrintedPart p levels x.first x.last x.answer) x xs h.each;
      few = omega (arith, few);
      whole = All-tail (λ x. IsSome x.answer) x (take more xs) h.whole;
    }

none_follow : (first last : ℤ) (x : Printed) (xs : List Printed) → first ≡ last +ℤ pos 1 → Follow first last (x ∷ xs) → ⊥
none_follow first last x xs e h = past first last x.first x.last xs e h.0 h.1 h.2
  where
    reached : (first last : ℤ) (ys : List Printed) → Follow first last ys → first ≤ℤ (last +ℤ pos 1)
    reached first last [] h = omega (arith, ints, h)
    reached first last (y ∷ ys) (a, b, c) = let later = reached (y.last +ℤ pos 1) last ys c in omega (arith, ints, a, b, later)

    past : (first last a b : ℤ) (ys : List Printed) → first ≡ last +ℤ pos 1 → a ≡ first → a ≤ℤ b → Follow (b +ℤ pos 1) last ys → ⊥
    past first last a b ys e begins some rest = let later = reached (b +ℤ pos 1) last ys rest in omega (arith, ints, e, begins, some, later)

alone : (more : ℕ) (x : Printed) (xs : List Printed) → length (x ∷ xs) ≤ 1 → xs ≡ []
alone more x [] few = refl
alone more x (y ∷ ys) few = absurd (omega (arith, few))

-- two parts that begin at one level are the same
whole_heads : (p : Problem) (levels : Interval) (first a b : ℤ) (x y : Option (List Outcome)) → IsSome x → IsSome y → IsPrintedPart p levels first a x → IsPrintedPart p levels first b y → (a ≡ b) × (x ≡ y)
whole_heads p levels first a b (Some x) (Some y) f g one two =
    let low = part_ends p levels first a b x y one two in
    let high = part_ends p levels first b a y x two one in
    let some = one.some in
    let more = two.some in
    (omega (arith, ints, low, high), ap Some (one_answer p first x y (one.same first (omega (arith, ints)) some) (two.same first (omega (arith, ints)) more)))
whole_heads p levels first a b None y f g one two = absurd (cc)
whole_heads p levels first a b (Some x) None f g one two = absurd (cc)

-- two printed runs from one level through the last are the same
last_heads : (p : Problem) (levels : Interval) (first a b : ℤ) (x y : Option (List Outcome)) → a ≡ b → IsPrintedPart p levels first a x → IsPrintedPart p levels first b y → x ≡ y
last_heads p levels first a b (Some x) (Some y) e one two =
    let some = one.some in
    let more = two.some in
    ap Some (one_answer p first x y (one.same first (omega (arith, ints)) some) (two.same first (omega (arith, ints)) more))
last_heads p levels first a b None None e one two = refl
last_heads p levels first a b (Some x) None e one two = absurd (no_change p levels first a x one (subst (HasChange p first) (sym e) two))
last_heads p levels first a b None (Some y) e one two = absurd (no_change p levels first b y two (subst (HasChange p first) e one))

abbrev made_printed : ℤ → ℤ → Option (List Outcome) → Printed
made_printed first last answer = record { first = first; last = last; answer = answer }

same_printed : (x y : Printed) → x.first ≡ y.first → x.last ≡ y.last → x.answer ≡ y.answer → x ≡ y
same_printed x y e f g = ap (λ z. made_printed z x.last x.answer) e ∙ ap (λ z. made_printed y.first z x.answer) f ∙ ap (λ z. made_printed y.first y.last z) g

at_first : (p : Problem) (levels : Interval) (first : ℤ) (x : Printed) → x.first ≡ first → IsPrintedPart p levels x.first x.last x.answer → IsPrintedPart p levels first x.last x.answer
at_first p levels first x e h = subst (λ z. IsPrintedPart p levels z x.last x.answer) e h

one_rest : (p : Problem) (levels : Interval) (more : ℕ) (first : ℤ) (xs ys : List Printed) → AreRest p levels first more xs → AreRest p levels first more ys → xs ≡ ys
one_rest p levels more first [] [] h k = refl
one_rest p levels more first [] (y ∷ ys) h k = absurd (none_follow first levels.last y ys h.follow k.follow)
one_rest p levels more first (x ∷ xs) [] h k = absurd (none_follow first levels.last x xs k.follow h.follow)
one_rest p levels zero first (x ∷ xs) (y ∷ ys) h k =
    let none = alone 0 x xs h.few in
    let empty = alone 0 y ys k.few in
    let end : x.last +ℤ pos 1 ≡ levels.last +ℤ pos 1 = subst (Follow (x.last +ℤ pos 1) levels.last) none h.follow.2 in
    let stop : y.last +ℤ pos 1 ≡ levels.last +ℤ pos 1 = subst (Follow (y.last +ℤ pos 1) levels.last) empty k.follow.2 in
    let ends : x.last ≡ y.last = omega (arith, ints, end, stop) in
    let one = at_first p levels first x h.follow.0 (All-head (λ x. IsPrintedPart p levels x.first x.last x.answer) x xs h.each) in
    let two = at_first p levels first y k.follow.0 (All-head (λ x. IsPrintedPart p levels x.first x.last x.answer) y ys k.each) in
    let answers = last_heads p levels first x.last y.last x.answer y.answer ends one two in
    let same = same_printed x y (h.follow.0 ∙ sym k.follow.0) ends answers in
    ap (λ l. x ∷ l) none ∙ ap (λ z. z ∷ []) same ∙ sym (ap (λ l. y ∷ l) empty)
one_rest p levels (suc more) first (x ∷ xs) (y ∷ ys) h k =
    let one = at_first p levels first x h.follow.0 (All-head (λ x. IsPrintedPart p levels x.first x.last x.answer) x xs h.each) in
    let two = at_first p levels first y k.follow.0 (All-head (λ x. IsPrintedPart p levels x.first x.last x.answer) y ys k.each) in
    let both = whole_heads p levels first x.last y.last x.answer y.answer (All-head (λ x. IsSome x.answer) x (take more xs) h.whole) (All-head (λ x. IsSome x.answer) y (take more ys) k.whole) one two in
    let same = same_printed x y (h.follow.0 ∙ sym k.follow.0) both.0 both.1 in
    let next = subst (λ z. AreRest p levels (z +ℤ pos 1) more ys) (sym both.0) (rest_tail p levels first more y ys k) in
    let rest = one_rest p levels more (x.last +ℤ pos 1) xs ys (rest_tail p levels first more x xs h) next in
    ap (λ z. z ∷ xs) same ∙ ap (λ l. y ∷ l) rest

pub one_printed : (p : Problem) (levels : Interval) (a b : List Printed) → ArePrinted p levels a → ArePrinted p levels b → a ≡ b
one_printed p levels a b h k = one_rest p levels 255 levels.first a b
    (record { follow = h.follow; each = h.each; few = h.few; whole = h.whole })
    (record { follow = k.follow; each = k.each; few = k.few; whole = k.whole })
