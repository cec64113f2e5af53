-- what all have, or the first that has it not
use Rattle.std.proofs.Common.{◌≡◌, refl, subst, ℕ, zero, suc, ◌+◌, ◌<◌, ◌≤◌, arith, List, [], ◌∷◌, length, take, ◌⊎◌, inl, inr, Option, None, Some}
use Rattle.std.specs.Prelude.{All, IsSome, IsSomeAnd, count_by}
use Rattle.std.proofs.Math.Seq.{take-length}
use Rattle.std.proofs.lemmas.Bool.{cases_eq, false≢true}
use Rattle.std.proofs.lemmas.List.Elements.{All-nil, All-cons}
use Rattle.sidb_layout.specs.declared.site.Site.{Site}
use Rattle.sidb_layout.specs.Refusal.{IsFirstOutside}
use Rattle.sites_layout.specs.declared.line.SitesLine.{SitesLine}
use Rattle.sites_layout.specs.SitesLines.{is_lattice, place_on}
use Rattle.sites_layout.specs.SitesFaults.{AreFineSitesLines, IsFirstBadLine, AreRelated, HasNoClash, IsFirstClash}
use Rattle.layout_text_laws.proofs.Decided.{Decided, decided_by, both_decided, le_decided, all_decided}

-- the first outside
pub all_or_first : {X : Type 0} (P : X → Type 0) → ((x : X) → Decided (P x)) → (xs : List X) → All P xs ⊎ ((i : ℕ) × IsFirstOutside P xs i)
all_or_first P each [] = inl (All-nil P)
all_or_first P each (x ∷ xs) = by (each x) (all_or_first P each xs)
  where
    by : Decided (P x) → All P xs ⊎ ((i : ℕ) × IsFirstOutside P xs i) → All P (x ∷ xs) ⊎ ((i : ℕ) × IsFirstOutside P (x ∷ xs) i)
    by (inr never) rest = inr (zero, record { before = All-nil P; outside = never })
    by (inl here) (inl all) = inl (All-cons P x xs here all)
    by (inl here) (inr (i, first)) = inr (suc i, record { before = All-cons P x (take i xs) here first.before; outside = first.outside })

-- the first bad line
there_decided : (line : Option SitesLine) → Decided (IsSome line)
there_decided None = inr false≢true
there_decided (Some line) = inl refl

fine_decided : (found : List (Option SitesLine)) → Decided (AreFineSitesLines found)
fine_decided found =
    decided_by (All (λ line. IsSome line) found × (count_by is_lattice found ≤ 1)) (AreFineSitesLines found)
    (λ h. record { each = h.0; one_lattice = h.1 }) (λ fine. (fine.each, fine.one_lattice))
    (both_decided (All (λ line. IsSome line) found) (count_by is_lattice found ≤ 1)
    (all_decided (λ line. IsSome line) there_decided found) (le_decided (count_by is_lattice found) 1))

abbrev IsFineOrBad : List (Option SitesLine) → ℕ → Type 0
IsFineOrBad found n = AreFineSitesLines (take n found) ⊎ ((i : ℕ) × IsFirstBadLine found i)

front_fine : (found : List (Option SitesLine)) (n : ℕ) → IsFineOrBad found n
front_fine found zero = inl (record { each = All-nil (λ line. IsSome line); one_lattice = omega arith })
front_fine found (suc n) = by (front_fine found n) (fine_decided (take (n + 1) found))
  where
    next : n + 1 ≡ suc n
    next = omega arith

    by : IsFineOrBad found n → Decided (AreFineSitesLines (take (n + 1) found)) → IsFineOrBad found (suc n)
    by (inr bad) more = inr bad
    by (inl fine) (inl more) = inl (subst (λ k. AreFineSitesLines (take k found)) next more)
    by (inl fine) (inr never) = inr (n, record { before = fine; here = never })

pub fine_or_bad : (found : List (Option SitesLine)) → AreFineSitesLines found ⊎ ((i : ℕ) × IsFirstBadLine found i)
fine_or_bad found = by (front_fine found (length found))
  where
    by : IsFineOrBad found (length found) → AreFineSitesLines found ⊎ ((i : ℕ) × IsFirstBadLine found i)
    by (inl fine) = inl (subst AreFineSitesLines (take-length found) fine)
    by (inr bad) = inr bad

-- the least number below n with P
abbrev HasLeast : (ℕ → Type 0) → ℕ → Type 0
HasLeast P n = (i : ℕ) × (i < n) × P i × ((h : ℕ) → h < i → P h → ⊥)

abbrev HasNone : (ℕ → Type 0) → ℕ → Type 0
HasNone P n = (h : ℕ) → h < n → P h → ⊥

none_or_least : (P : ℕ → Type 0) → ((i : ℕ) → Decided (P i)) → (n : ℕ) → HasNone P n ⊎ HasLeast P n
none_or_least P each zero = inl (λ h l p. omega (arith, l))
none_or_least P each (suc n) = by (none_or_least P each n) (each n)
  where
    more : HasNone P n → (P n → ⊥) → HasNone P (suc n)
    more none never h l p = at (cases_eq h n)
      where
        at : (h ≡ n) ⊎ (h ≡ n → ⊥) → ⊥
        at (inl e) = never (subst P e p)
        at (inr ne) = none h (omega (arith, l, ne)) p

    by : HasNone P n ⊎ HasLeast P n → Decided (P n) → HasNone P (suc n) ⊎ HasLeast P (suc n)
    by (inr (i, l, p, first)) here = inr (i, omega (arith, l), p, first)
    by (inl none) (inl p) = inr (n, omega arith, p, none)
    by (inl none) (inr never) = inl (more none never)

-- the first clash
related_decided : (R : Site → Site → Type 0) → ((a b : Site) → Decided (R a b)) → (o p : Option Site) → Decided (IsSomeAnd o (λ b. IsSomeAnd p (λ a. R a b)))
related_decided R each None p = inr (λ h. h)
related_decided R each (Some b) None = inr (λ h. h)
related_decided R each (Some b) (Some a) = each a b

-- the place on line k is related to one on an earlier line
abbrev Clashes : (Site → Site → Type 0) → List SitesLine → ℕ → Type 0
Clashes R ls k = HasLeast (λ i. AreRelated R ls i k) k

module _ (R : Site → Site → Type 0) (each : (a b : Site) → Decided (R a b)) (ls : List SitesLine) where
  line_or_clash : (k : ℕ) → HasNone (λ i. AreRelated R ls i k) k ⊎ Clashes R ls k
  line_or_clash k = none_or_least (λ i. AreRelated R ls i k) (λ i. related_decided R each (place_on ls k) (place_on ls i)) k

  clash_decided : (k : ℕ) → Decided (Clashes R ls k)
  clash_decided k = by (line_or_clash k)
    where
      by : HasNone (λ i. AreRelated R ls i k) k ⊎ Clashes R ls k → Decided (Clashes R ls k)
      by (inl none) = inr (λ clash. none clash.0 clash.1 clash.2)
      by (inr clash) = inl clash

  none_related : (n : ℕ) → HasNone (Clashes R ls) n → (h k : ℕ) → h < k → k < n → AreRelated R ls h k → ⊥
  none_related n none h k before within related = by (line_or_clash k)
    where
      by : HasNone (λ i. AreRelated R ls i k) k ⊎ Clashes R ls k → ⊥
      by (inl never) = never h before related
      by (inr clash) = none k within clash

  pub none_or_clash : HasNoClash R ls ⊎ ((i : ℕ) × (j : ℕ) × IsFirstClash R ls i j)
  none_or_clash = by (none_or_least (Clashes R ls) clash_decided (length ls))
    where
      by : HasNone (Clashes R ls) (length ls) ⊎ HasLeast (Clashes R ls) (length ls) → HasNoClash R ls ⊎ ((i : ℕ) × (j : ℕ) × IsFirstClash R ls i j)
      by (inl none) = inl (none_related (length ls) none)
      by (inr (j, within, (i, before, related, earliest), first)) = inr (
        i,
        j,
        record {
          within = within;
          earliest = record { before = before; related = related; earliest = earliest };
          first = none_related j first;
        },
      )
