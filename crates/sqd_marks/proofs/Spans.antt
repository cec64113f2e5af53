-- Bytes of a kind with none behind them are cut in one way.
use Rattle.std.proofs.Common.{◌≡◌, ◌≢◌, ◌∙◌, sym, ap, refl, subst, ℕ, List, [], ◌∷◌, ◌++◌, Bool, false, ◌⊎◌, inl, inr, eqb, not, ◌&&◌}
use Rattle.std.proofs.lemmas.Bool.{eq-eqb}
use Rattle.sqd_marks.specs.Bytes.{is_blank, is_in_name, is_in_value, Each, Stops, IsName}
use Rattle.sqd_marks.proofs.ByteFacts.{blank_not_name, begins_in_name, name_not_blank}

pub record Same (a b x y : List ℕ) : Type 0 where
  pub front : a ≡ b
  pub rest : x ≡ y

-- bytes of a kind with none behind them are cut in one way
pub span : (p : ℕ → Bool) (a b x y : List ℕ) → Each p a → Each p b → Stops p x → Stops p y → a ++ x ≡ b ++ y → Same a b x y
span p [] [] x y h g s t e = record { front = refl; rest = e }
span p [] (c ∷ b) x y h g s t e =
    let no : p c ≡ false = subst (Stops p) e s in
    absurd (cc (no, g.0))
span p (c ∷ a) [] x y h g s t e =
    let no : p c ≡ false = subst (Stops p) (sym e) t in
    absurd (cc (no, h.0))
span p (c ∷ a) (d ∷ b) x y h g s t e =
    let first : c ≡ d = cc e in
    let rest : a ++ x ≡ b ++ y = cc e in
    let same = span p a b x y h.1 g.1 s t rest in
    record { front = ap (λ n. n ∷ a) first ∙ ap (λ l. d ∷ l) same.front; rest = same.rest }

pub name_each : (n : List ℕ) → IsName n → Each is_in_name n
name_each [] h = absurd h
name_each (b ∷ n) h = (begins_in_name b h.0, h.1)

pub name_stops : (n more : List ℕ) → IsName n → Stops is_blank (n ++ more)
name_stops [] more h = absurd h
name_stops (b ∷ n) more h = name_not_blank b (begins_in_name b h.0)

pub blank_stops : (w more : List ℕ) → Each is_blank w → Stops is_in_name more → Stops is_in_name (w ++ more)
blank_stops [] more h s = s
blank_stops (b ∷ w) more h s = blank_not_name b h.0

pub some_blank_stops : (w more : List ℕ) → Each is_blank w → w ≢ [] → Stops is_in_name (w ++ more)
some_blank_stops [] more h some = absurd (some refl)
some_blank_stops (b ∷ w) more h some = blank_not_name b h.0

pub quote_stops : (q : ℕ) (more : List ℕ) → (q ≡ 34) ⊎ (q ≡ 39) → Stops is_blank (q ∷ more)
quote_stops q more (inl e) = subst (λ n. is_blank n ≡ false) (sym e) refl
quote_stops q more (inr e) = subst (λ n. is_blank n ≡ false) (sym e) refl

pub value_stops : (q : ℕ) (more : List ℕ) → Stops (is_in_value q) (q ∷ more)
value_stops q more = ap (λ t. not t && not (eqb q 60)) (eq-eqb q q refl)
