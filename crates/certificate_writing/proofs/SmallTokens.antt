-- the numbers of the tokens that are written fit their lines
use Rattle.std.proofs.Common.{◌≡◌, ◌≢◌, ◌∙◌, sym, subst, refl, ℕ, zero, suc, ℤ, pos, ◌<◌, ◌≤◌, List, [], ◌∷◌, ◌++◌, length, Option, Bool, true, false, not, ◌&&◌, int_lt, ◌⊎◌, inl, inr, arith, All}
use Rattle.std.proofs.lemmas.Int.{ints}
use Rattle.std.proofs.lemmas.Bool.Decides.{nat_tests}
use Rattle.std.proofs.lemmas.List.Elements.{All-nil, All-cons, All-append}
use Rattle.charge_model.specs.declared.charge.Charge.{Charge}
use Rattle.charge_model.specs.declared.charge.Charge.TheVariants.{Neg, Neutral, Pos}
use Rattle.charge_model.specs.Problem.{Problem}
use Rattle.certificate_model.specs.declared.token.Token.{Token}
use Rattle.certificate_model.specs.declared.token.Token.TheVariants.{Node, Site, Energy, Listed, Population, Hop, Beaten}
use Rattle.walk_model.specs.Walks.{IsClosingToken, IsFullToken, AreOfChildren, AreWalkedFrom, AreWalked}
use Rattle.certificate_reading.specs.Ranges.{FitsLine, is_token_number}

pub both : (a b : Bool) → a ≡ true → b ≡ true → (a && b) ≡ true
both true true x y = refl
both true false x y = absurd (cc)
both false b x y = absurd (cc)

-- a number below 4,096 fits
fits : (n : ℕ) → n < 4096 → is_token_number (pos n) ≡ true
fits n h = both _ _ low high
  where
    low : not (int_lt (pos n) (pos 0)) ≡ true
    low = grind (arith, ints, nat_tests)

    high : not (int_lt (pos 9999) (pos n)) ≡ true
    high = grind (arith, ints, nat_tests)

module _ (p : Problem) (window : ℤ) (o : Option ℤ) (l : List (List Charge)) (few_sites : p.sites ≤ 64) (few_entries : length l ≤ 4096) where
  site : (n : ℕ) → n < p.sites → is_token_number (pos n) ≡ true
  site n h = fits n (omega (arith, h, few_sites))

  entry : (n : ℕ) → n < length l → is_token_number (pos n) ≡ true
  entry n h = fits n (omega (arith, h, few_entries))

  closing_fits : (q : List Charge) (token : Token) → IsClosingToken p window o l q token → FitsLine token
  closing_fits q (Site k) closes = site k closes.site
  closing_fits q (Energy j) closes = entry j closes.1.entry
  closing_fits q Node closes = absurd closes
  closing_fits q (Listed j) closes = absurd closes
  closing_fits q (Population i) closes = absurd closes
  closing_fits q (Hop i j) closes = absurd closes
  closing_fits q (Beaten j) closes = absurd closes

  full_fits : (q : List Charge) (token : Token) → IsFullToken p window l q token → FitsLine token
  full_fits q (Listed j) full = entry j full.0
  full_fits q (Population i) full = site i full.1.site
  full_fits q (Hop i j) full = let hop = full.1.never.of_list in both _ _ (site i hop.0) (site j hop.1)
  full_fits q (Beaten j) full = entry j full.entry
  full_fits q Node full = absurd full
  full_fits q (Site k) full = absurd full
  full_fits q (Energy j) full = absurd full

  one : (token : Token) (tokens : List Token) → tokens ≡ token ∷ [] → FitsLine token → All FitsLine tokens
  one token tokens same fit = subst (All FitsLine) (sym same) (All-cons FitsLine token [] fit (All-nil FitsLine))

  walked_fit : (more : ℕ) (q : List Charge) (tokens : List Token) → AreWalkedFrom p window o l more q tokens → All FitsLine tokens
  walked_fit zero q tokens (token, same, inl closes) = one token tokens same (closing_fits q token closes)
  walked_fit zero q tokens (token, same, inr (node, full)) = one token tokens same (full_fits q token full)
  walked_fit (suc more) q tokens (inl (token, same, closes)) = one token tokens same (closing_fits q token closes)
  walked_fit (suc more) q tokens (inr (node, (rest, whole, (first, second, third, parts, below, middle, above)))) =
      let behind = All-append FitsLine second third (walked_fit more (q ++ Neutral ∷ []) second middle) (last above (walked_fit more (q ++ Pos ∷ []) third)) in
      let all = All-append FitsLine first (second ++ third) (walked_fit more (q ++ Neg ∷ []) first below) behind in
      subst (All FitsLine) (sym whole) (All-cons FitsLine Node rest refl (subst (All FitsLine) (sym parts) all))
    where
      last : ((p.base ≡ 2) × (third ≡ [])) ⊎ ((p.base ≢ 2) × AreWalkedFrom p window o l more (q ++ Pos ∷ []) third)
          → (AreWalkedFrom p window o l more (q ++ Pos ∷ []) third → All FitsLine third) → All FitsLine third
      last (inl (two, none)) each = subst (All FitsLine) (sym none) (All-nil FitsLine)
      last (inr (other, walked)) each = each walked

  pub tokens_fit : (tokens : List Token) → AreWalked p window o l tokens → All FitsLine tokens
  tokens_fit tokens walked = walked_fit p.sites [] tokens walked
