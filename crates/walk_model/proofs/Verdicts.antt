-- each certificate is sound, or has a first failing test
use Rattle.std.proofs.Common.{◌≡◌, ◌≢◌, ◌∙◌, ℕ, zero, suc, ◌<◌, ℤ, ◌-ℤ◌, List, [], ◌∷◌, ◌++◌, length, ◌⊎◌, inl, inr, refl, sym, ap, subst, arith, append_assoc, Option, Some, None, slice_get}
use Rattle.std.specs.Prelude.{Contains, IfSome}
use Rattle.std.proofs.lemmas.Bool.{cases_eq}
use Rattle.std.proofs.lemmas.List.{append-nil, length-map, get_or_default}
use Rattle.charge_model.specs.declared.charge.Charge.{Charge}
use Rattle.charge_model.specs.Charges.{IsBefore}
use Rattle.charge_model.specs.Problem.{Problem}
use Rattle.charge_model.specs.Rules.{by_hop, IsChargeList, IsInequalityOf, IsPossiblyValid, IsCertainlyValid}
use Rattle.charge_model.specs.GroundList.{Entry as Marked, IsCandidate, entry_at, lists_of}
use Rattle.charge_model.specs.Prefixes.{low}
use Rattle.window_model.specs.Windows.{BeatsBy, IsMarkWithin}
use Rattle.certificate_model.specs.declared.token.Token.{Token}
use Rattle.certificate_model.specs.declared.token.Token.TheVariants.{Node, Site, Energy, Listed, Population, Hop}
use Rattle.certificate_model.specs.declared.token.Token.TheVariants.{Beaten as BeatenBy}
use Rattle.certificate_model.specs.declared.refusal.EntryWhy.{EntryWhy}
use Rattle.certificate_model.specs.declared.refusal.EntryWhy.TheVariants.{Order, NotPossible, Beaten, Mark}
use Rattle.certificate_model.specs.declared.refusal.CloseWhy.{CloseWhy}
use Rattle.certificate_model.specs.declared.refusal.CloseWhy.TheVariants.{Shape, Number, PopulationHolds}
use Rattle.certificate_model.specs.declared.refusal.CertRefusal.{CertRefusal}
use Rattle.certificate_model.specs.declared.refusal.CertRefusal.TheVariants.{Entry, Close, Short, Long, Memory}
use Rattle.certificate_model.specs.Tokens.{IsClosedSite, NeverHoldsInequality, LiesBelow, Passes, FailsFirst}
use Rattle.certificate_model.specs.Trails.{IsTrail, place_after}
use Rattle.certificate_model.specs.Entries.{EntryMeets, EntryPasses, AreSoundEntries, EntryFailsFirst, entry_order_of}
use Rattle.certificate_model.specs.Certificates.{FitsProblem, IsSound, IsCertificateRefusal, IsTokensRefusal}
use Rattle.certificate_model.proofs.Passing.{node_passes, site_passes, energy_passes, listed_passes, hop_passes, beaten_passes}
use Rattle.certificate_model.proofs.Failing.{fails_shape, fails_number, fails_site, fails_certain, fails_above, fails_list, fails_population, fails_hop, fails_beaten}
use Rattle.walk_model.specs.Walks.{BreaksAt}
use Rattle.walk_model.proofs.LawsBelow.{Decided}
use Rattle.walk_model.proofs.Decided.{First, NoneBelow, first_below, less_or_not, of_list_decided, closed_decided, below_decided, never_decided, breaks_decided}
use Rattle.walk_model.proofs.MarkVerdicts.{AreVerdictLaws, mark_decided, certain_decided, beats_decided, before_decided, same_decided}

module _ (p : Problem) (window : ℤ) (es : List Marked) (laws : AreVerdictLaws p window) (fits : FitsProblem p es) (grow : (tokens : List Token) (token : Token) (prefix : List Charge)
    → IsTrail p window (lists_of es) tokens (Some prefix) → Passes p window (lists_of es) prefix token → IsTrail p window (lists_of es) (tokens ++ token ∷ []) (place_after p.base prefix token)) where
  -- the entries' charge lists, and each of them
  abbrev ls : List (List Charge)
  ls = lists_of es

  abbrev at_entry : ℕ → List Charge
  at_entry j = entry_at ls j

  is_list : (j : ℕ) → j < length ls → IsChargeList p (at_entry j)
  is_list j within = fits j [] within

  -- what a token is answered at a prefix
  abbrev Tested : List Charge → Token → Type 0
  Tested prefix token = Passes p window ls prefix token ⊎ ((why : CloseWhy) × FailsFirst p window ls prefix token why)

  population_passes : (prefix : List Charge) (i : ℕ) → length prefix ≡ p.sites → i < p.sites → BreaksAt p prefix i → Passes p window ls prefix (Population i)
  population_passes prefix i full site never Shape = full
  population_passes prefix i full site never Number = site
  population_passes prefix i full site never PopulationHolds = never
  population_passes prefix i full site never _ = tt

  energy_tested : (prefix : List Charge) (j : ℕ) → Tested prefix (Energy j)
  energy_tested prefix j = by (less_or_not j (length ls)) (certain_decided p window (at_entry j) laws) (below_decided p (at_entry j) (low p prefix -ℤ window) laws.laws)
    where
      by : Decided (j < length ls) → Decided (IsCertainlyValid p (at_entry j)) → Decided (LiesBelow p (at_entry j) (low p prefix -ℤ window)) → Tested prefix (Energy j)
      by (inr none) certain below = inr (Number, fails_number p window ls prefix (Energy j) tt none)
      by (inl entry) (inr not) below = inr (_, fails_certain p window ls prefix j entry not)
      by (inl entry) (inl certain) (inr not) = inr (_, fails_above p window ls prefix j entry certain not)
      by (inl entry) (inl certain) (inl below) = inl (energy_passes p window ls prefix j entry certain below)

  site_tested : (prefix : List Charge) (k : ℕ) → Tested prefix (Site k)
  site_tested prefix k = by (less_or_not k p.sites) (closed_decided p prefix k)
    where
      by : Decided (k < p.sites) → Decided (IsClosedSite p prefix k) → Tested prefix (Site k)
      by (inr none) closed = inr (Number, fails_number p window ls prefix (Site k) tt none)
      by (inl site) (inr not) = inr (_, fails_site p window ls prefix k site not)
      by (inl site) (inl closed) = inl (site_passes p window ls prefix k site closed)

  population_tested : (prefix : List Charge) (i : ℕ) → length prefix ≡ p.sites → Tested prefix (Population i)
  population_tested prefix i full = by (less_or_not i p.sites) (breaks_decided p prefix i laws.laws)
    where
      by : Decided (i < p.sites) → Decided (BreaksAt p prefix i) → Tested prefix (Population i)
      by (inr none) never = inr (Number, fails_number p window ls prefix (Population i) full none)
      by (inl site) (inr not) = inr (_, fails_population p window ls prefix i full site (λ k never. not (k, never)))
      by (inl site) (inl never) = inl (population_passes prefix i full site never)

  hop_tested : (prefix : List Charge) (i j : ℕ) → length prefix ≡ p.sites → Tested prefix (Hop i j)
  hop_tested prefix i j full = by (of_list_decided p prefix (by_hop i j)) (never_decided p prefix (by_hop i j) laws.laws)
    where
      by : Decided (IsInequalityOf p prefix (by_hop i j)) → Decided (NeverHoldsInequality p prefix (by_hop i j)) → Tested prefix (Hop i j)
      by (inr none) never = inr (Number, fails_number p window ls prefix (Hop i j) full none)
      by (inl hop) (inr not) = inr (_, fails_hop p window ls prefix i j full hop not)
      by (inl hop) (inl never) = inl (hop_passes p window ls prefix i j full never)

  listed_tested : (prefix : List Charge) (j : ℕ) → length prefix ≡ p.sites → Tested prefix (Listed j)
  listed_tested prefix j full = by (less_or_not j (length ls))
    where
      by : Decided (j < length ls) → Tested prefix (Listed j)
      by (inr none) = inr (Number, fails_number p window ls prefix (Listed j) full none)
      by (inl entry) = at (same_decided p prefix (at_entry j) laws.laws (full ∙ sym (is_list j entry).whole))
        where
          at : Decided (prefix ≡ at_entry j) → Tested prefix (Listed j)
          at (inr not) = inr (_, fails_list p window ls prefix j full entry not)
          at (inl same) = inl (listed_passes p window ls prefix j full entry same)

  beaten_tested : (prefix : List Charge) (j : ℕ) → length prefix ≡ p.sites → Tested prefix (BeatenBy j)
  beaten_tested prefix j full = by (less_or_not j (length ls))
    where
      by : Decided (j < length ls) → Tested prefix (BeatenBy j)
      by (inr none) = inr (Number, fails_number p window ls prefix (BeatenBy j) full none)
      by (inl entry) = at (beats_decided p window (at_entry j) prefix laws (is_list j entry))
        where
          at : Decided (BeatsBy p window (at_entry j) prefix) → Tested prefix (BeatenBy j)
          at (inr not) = inr (_, fails_beaten p window ls prefix j full entry not)
          at (inl beats) = inl (beaten_passes p window ls prefix j full entry beats)

  -- a token for full prefixes alone, where the prefix is full or not
  full_tested : (prefix : List Charge) (token : Token) → (length prefix ≡ p.sites → Tested prefix token) → ((length prefix ≢ p.sites) → Tested prefix token) → Tested prefix token
  full_tested prefix token whole part = by (cases_eq (length prefix) p.sites)
    where
      by : (length prefix ≡ p.sites) ⊎ (length prefix ≢ p.sites) → Tested prefix token
      by (inl full) = whole full
      by (inr open_) = part open_

  token_tested : (prefix : List Charge) (token : Token) → Tested prefix token
  token_tested prefix Node = by (less_or_not (length prefix) p.sites)
    where
      by : Decided (length prefix < p.sites) → Tested prefix Node
      by (inr not) = inr (Shape, fails_shape p window ls prefix Node not)
      by (inl room) = inl (node_passes p window ls prefix room)
  token_tested prefix (Site k) = site_tested prefix k
  token_tested prefix (Energy j) = energy_tested prefix j
  token_tested prefix (Listed j) = full_tested prefix (Listed j) (listed_tested prefix j) (λ not. inr (Shape, fails_shape p window ls prefix (Listed j) not))
  token_tested prefix (Population i) = full_tested prefix (Population i) (population_tested prefix i) (λ not. inr (Shape, fails_shape p window ls prefix (Population i) not))
  token_tested prefix (Hop i j) = full_tested prefix (Hop i j) (hop_tested prefix i j) (λ not. inr (Shape, fails_shape p window ls prefix (Hop i j) not))
  token_tested prefix (BeatenBy j) = full_tested prefix (BeatenBy j) (beaten_tested prefix j) (λ not. inr (Shape, fails_shape p window ls prefix (BeatenBy j) not))

  -- what tokens are answered in turn
  abbrev Answered : List Token → Type 0
  Answered tokens = IsTrail p window ls tokens None ⊎ ((r : CertRefusal) × IsTokensRefusal p window ls tokens r)

  tokens_tested : (front rest : List Token) (place : Option (List Charge)) → IsTrail p window ls front place → Answered (front ++ rest)
  tokens_tested front [] None trail = inl (subst (λ ts. IsTrail p window ls ts None) (sym (append-nil front)) trail)
  tokens_tested front [] (Some prefix) trail = inr (Short, (prefix, subst (λ ts. IsTrail p window ls ts (Some prefix)) (sym (append-nil front)) trail))
  tokens_tested front (token ∷ rest) None trail = inr (Long, record { front = front; token = token; after = (rest, refl); whole = trail })
  tokens_tested front (token ∷ rest) (Some prefix) trail = by (token_tested prefix token) (λ passes. tokens_tested (front ++ token ∷ []) rest (place_after p.base prefix token) (grow front token prefix trail passes))
    where
      by : Tested prefix token → (Passes p window ls prefix token → Answered ((front ++ token ∷ []) ++ rest)) → Answered (front ++ token ∷ rest)
      by (inl passes) more = subst Answered (append_assoc front (token ∷ []) rest) (more passes)
      by (inr (why, fails)) more = inr (
        Close (length front) why,
        record {
          front = front;
          token = token;
          place = refl;
          after = (rest, refl);
          refused = record { prefix = prefix; trail = trail; refused = fails };
        },
      )

  -- the tests of an entry
  order_decided : (j : ℕ) → j < length ls → Decided (EntryMeets p window es j Order)
  order_decided zero within = inl (λ i next. absurd (omega (arith, next)))
  order_decided (suc k) within = by (before_decided p window (at_entry k) (at_entry (suc k)) laws ((is_list k (omega (arith, within))).whole ∙ sym (is_list (suc k) within).whole))
    where
      by : Decided (IsBefore (at_entry k) (at_entry (suc k))) → Decided (EntryMeets p window es (suc k) Order)
      by (inl before) = inl (λ i next. subst (λ n. IsBefore (at_entry n) (at_entry (suc k))) (omega (arith, next)) before)
      by (inr not) = inr (λ meets. not (meets k refl))

  possible_decided : (j : ℕ) → j < length ls → Decided (EntryMeets p window es j NotPossible)
  possible_decided j within = by (laws.candidate (at_entry j))
    where
      by : Decided (IsCandidate p (at_entry j)) → Decided (IsPossiblyValid p (at_entry j))
      by (inl candidate) = inl candidate.possible
      by (inr never) = inr (λ possible. never (record { is_list = is_list j within; possible = possible }))

  unbeaten_decided : (j : ℕ) → Decided (EntryMeets p window es j Beaten)
  unbeaten_decided j = by (first_below (length ls) (λ i. BeatsBy p window (at_entry i) (at_entry j)) (λ i within. beats_decided p window (at_entry i) (at_entry j) laws (is_list i within)))
    where
      by : First (length ls) (λ i. BeatsBy p window (at_entry i) (at_entry j)) ⊎ NoneBelow (length ls) (λ i. BeatsBy p window (at_entry i) (at_entry j)) → Decided (EntryMeets p window es j Beaten)
      by (inl some) = inr (λ none. none (at_entry some.place) (some.place, some.within, get_or_default ls some.place (at_entry some.place) [] some.within) some.holds)
      by (inr never) = inl (λ w (i, within, at) beats. never i within (subst (λ u. BeatsBy p window u (at_entry j)) (sym (get_or_default ls i [] w within ∙ at)) beats))

  some_decided : (found : Option Marked) (P : Marked → Type 0) → ((e : Marked) → Decided (P e)) → Decided (IfSome found P)
  some_decided None P each = inl tt
  some_decided (Some e) P each = each e

  -- what an entry is answered
  record FailsAt (j : ℕ) (why : EntryWhy) : Type 0 where
    fails : EntryMeets p window es j why → ⊥
    first : (other : EntryWhy) → entry_order_of other < entry_order_of why → EntryMeets p window es j other

  abbrev EntryTested : ℕ → Type 0
  EntryTested j = EntryPasses p window es j ⊎ ((why : EntryWhy) × FailsAt j why)

  entry_tested : (j : ℕ) → j < length ls → EntryTested j
  entry_tested j within = by (order_decided j within) (possible_decided j within) (unbeaten_decided j) (some_decided (slice_get es j) (λ e. IsMarkWithin p window ls e.charges e.mark) (λ e. mark_decided p window ls e.charges e.mark laws))
    where
      by : Decided (EntryMeets p window es j Order) → Decided (EntryMeets p window es j NotPossible) → Decided (EntryMeets p window es j Beaten) → Decided (EntryMeets p window es j Mark) → EntryTested j
      by (inr not) possible unbeaten mark = inr (Order, record { fails = not; first = λ other less. absurd (omega (arith, less)) })
      by (inl order) (inr not) unbeaten mark = inr (NotPossible, record { fails = not; first = before })
        where
          before : (other : EntryWhy) → entry_order_of other < 1 → EntryMeets p window es j other
          before Order less = order
          before _ less = absurd (omega (arith, less))
      by (inl order) (inl possible) (inr not) mark = inr (Beaten, record { fails = not; first = before })
        where
          before : (other : EntryWhy) → entry_order_of other < 2 → EntryMeets p window es j other
          before Order less = order
          before NotPossible less = possible
          before _ less = absurd (omega (arith, less))
      by (inl order) (inl possible) (inl unbeaten) (inr not) = inr (Mark, record { fails = not; first = before })
        where
          before : (other : EntryWhy) → entry_order_of other < 3 → EntryMeets p window es j other
          before Order less = order
          before NotPossible less = possible
          before Beaten less = unbeaten
          before Mark less = absurd (omega (arith, less))
      by (inl order) (inl possible) (inl unbeaten) (inl mark) = inl passes
        where
          passes : EntryPasses p window es j
          passes Order = order
          passes NotPossible = possible
          passes Beaten = unbeaten
          passes Mark = mark

  abbrev Fails : ℕ → Type 0
  Fails j = (why : EntryWhy) × FailsAt j why

  many : length ls ≡ length es
  many = length-map es (λ e. e.charges)

  inside : (j : ℕ) → j < length es → j < length ls
  inside j within = subst (λ n. j < n) (sym many) within

  fails_or_not : (j : ℕ) → j < length es → Decided (Fails j)
  fails_or_not j within = by (entry_tested j (inside j within))
    where
      by : EntryTested j → Decided (Fails j)
      by (inl passes) = inr (λ (why, is). is.fails (passes why))
      by (inr fails) = inl fails

  passes_at : (j : ℕ) → j < length es → (Fails j → ⊥) → EntryPasses p window es j
  passes_at j within not = by (entry_tested j (inside j within))
    where
      by : EntryTested j → EntryPasses p window es j
      by (inl passes) = passes
      by (inr fails) = absurd (not fails)

  -- a refusal of tokens after sound entries
  as_refusal : (tokens : List Token) (r : CertRefusal) → AreSoundEntries p window es → IsTokensRefusal p window ls tokens r → IsCertificateRefusal p window es tokens r
  as_refusal tokens (Entry j why) sound none = absurd none
  as_refusal tokens (Close k why) sound refused = (sound, refused)
  as_refusal tokens Short sound refused = (sound, refused)
  as_refusal tokens Long sound refused = (sound, refused)
  as_refusal tokens Memory sound none = absurd none

  pub verdict : (tokens : List Token) → IsSound p window es tokens ⊎ ((r : CertRefusal) × IsCertificateRefusal p window es tokens r)
  verdict tokens = by (first_below (length es) Fails fails_or_not)
    where
      by : First (length es) Fails ⊎ NoneBelow (length es) Fails → IsSound p window es tokens ⊎ ((r : CertRefusal) × IsCertificateRefusal p window es tokens r)
      by (inl some) = inr (
        Entry some.place some.holds.0,
        record {
          entry = some.within;
          before = λ i less. passes_at i (omega (arith, less, some.within)) (some.first i less);
          fails = some.holds.1.fails;
          first = some.holds.1.first;
        },
      )
      by (inr none) = at (tokens_tested [] tokens (Some []) refl)
        where
          sound : AreSoundEntries p window es
          sound j within = passes_at j within (none j within)

          at : Answered tokens → IsSound p window es tokens ⊎ ((r : CertRefusal) × IsCertificateRefusal p window es tokens r)
          at (inl whole) = inl (record { entries = sound; whole = whole })
          at (inr (r, refused)) = inr (r, as_refusal tokens r sound refused)
