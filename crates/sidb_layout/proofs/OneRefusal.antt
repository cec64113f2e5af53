-- a refusal excludes all others, and a layout that is fine all of them
use Rattle.std.proofs.Common.{◌≡◌, ◌≢◌, ◌↔◌, ℕ, List, Result, Err, arith, refl, ap, subst}
use Rattle.sidb_layout.specs.declared.site.Site.{Site}
use Rattle.sidb_layout.specs.declared.site.Fix.{Fix}
use Rattle.sidb_layout.specs.declared.lattice.Lattice.{Lattice}
use Rattle.sidb_layout.specs.declared.fault.LayoutFault.{LayoutFault}
use Rattle.sidb_layout.specs.declared.fault.LayoutFault.TheVariants.{OutOfRange, TooMany, TooManyFixes, Duplicate, TooClose, Memory}
use Rattle.sidb_layout.specs.Site.{places_of}
use Rattle.sidb_layout.specs.Refusal.{IsLayoutRefusal, IsTooClose}
use Rattle.sidb_layout.specs.Clash.{AreFinePlaces}
use Rattle.sidb_layout.proofs.Firsts.{one_out_of_range, one_first_pair, in_range_excludes, distinct_excludes, no_pair_excludes, IsSamePair}

same_pair : {X : Type 0} (make : ℕ → ℕ → X) (i j k m : ℕ) → IsSamePair i j k m → make i j ≡ make k m
same_pair make i j k m same = rw (same.earlier, same.later) refl

pub one_refusal : (v : Lattice) (sites : List Site) (fixes : List Fix) (f g : LayoutFault)
    → IsLayoutRefusal v sites fixes f → IsLayoutRefusal v sites fixes g → f ≡ g
one_refusal v ss fs Memory g h k = absurd h
one_refusal v ss fs f Memory h k = absurd k
one_refusal v ss fs (OutOfRange i) (OutOfRange j) h k = ap OutOfRange (one_out_of_range ss fs i j h k)
one_refusal v ss fs (OutOfRange i) TooMany h k = absurd (in_range_excludes ss fs i k.0 h)
one_refusal v ss fs (OutOfRange i) TooManyFixes h k = absurd (in_range_excludes ss fs i k.0 h)
one_refusal v ss fs (OutOfRange i) (Duplicate a b) h k = absurd (in_range_excludes ss fs i k.0.in_range h)
one_refusal v ss fs (OutOfRange i) (TooClose a b) h k = absurd (in_range_excludes ss fs i k.0.in_range h)
one_refusal v ss fs TooMany (OutOfRange j) h k = absurd (in_range_excludes ss fs j h.0 k)
one_refusal v ss fs TooMany TooMany h k = refl
one_refusal v ss fs TooMany TooManyFixes h k = absurd (omega (arith, h.1, k.1))
one_refusal v ss fs TooMany (Duplicate a b) h k = absurd (omega (arith, h.1, k.0.few_sites))
one_refusal v ss fs TooMany (TooClose a b) h k = absurd (omega (arith, h.1, k.0.few_sites))
one_refusal v ss fs TooManyFixes (OutOfRange j) h k = absurd (in_range_excludes ss fs j h.0 k)
one_refusal v ss fs TooManyFixes TooMany h k = absurd (omega (arith, h.1, k.1))
one_refusal v ss fs TooManyFixes TooManyFixes h k = refl
one_refusal v ss fs TooManyFixes (Duplicate a b) h k = absurd (omega (arith, h.2, k.0.few_fixes))
one_refusal v ss fs TooManyFixes (TooClose a b) h k = absurd (omega (arith, h.2, k.0.few_fixes))
one_refusal v ss fs (Duplicate i j) (OutOfRange n) h k = absurd (in_range_excludes ss fs n h.0.in_range k)
one_refusal v ss fs (Duplicate i j) TooMany h k = absurd (omega (arith, k.1, h.0.few_sites))
one_refusal v ss fs (Duplicate i j) TooManyFixes h k = absurd (omega (arith, k.2, h.0.few_fixes))
one_refusal v ss fs (Duplicate i j) (Duplicate a b) h k =
    same_pair Duplicate i j a b (one_first_pair (λ p q. p ≡ q) (places_of ss fs) i j a b h.1 k.1)
one_refusal v ss fs (Duplicate i j) (TooClose a b) h k = absurd (distinct_excludes (places_of ss fs) i j k.1 h.1)
one_refusal v ss fs (TooClose i j) (OutOfRange n) h k = absurd (in_range_excludes ss fs n h.0.in_range k)
one_refusal v ss fs (TooClose i j) TooMany h k = absurd (omega (arith, k.1, h.0.few_sites))
one_refusal v ss fs (TooClose i j) TooManyFixes h k = absurd (omega (arith, k.2, h.0.few_fixes))
one_refusal v ss fs (TooClose i j) (Duplicate a b) h k = absurd (distinct_excludes (places_of ss fs) a b h.1 k.1)
one_refusal v ss fs (TooClose i j) (TooClose a b) h k =
    same_pair TooClose i j a b (one_first_pair (IsTooClose v) (places_of ss fs) i j a b h.2 k.2)

pub fine_is_not_refused : (v : Lattice) (sites : List Site) (fixes : List Fix) (f : LayoutFault)
    → AreFinePlaces v sites fixes → IsLayoutRefusal v sites fixes f → ⊥
fine_is_not_refused v ss fs (OutOfRange i) fine h = in_range_excludes ss fs i fine.few.in_range h
fine_is_not_refused v ss fs TooMany fine h = omega (arith, h.1, fine.few.few_sites)
fine_is_not_refused v ss fs TooManyFixes fine h = omega (arith, h.2, fine.few.few_fixes)
fine_is_not_refused v ss fs (Duplicate i j) fine h = no_pair_excludes (λ p q. p ≡ q) (places_of ss fs) i j fine.distinct h.1
fine_is_not_refused v ss fs (TooClose i j) fine h = no_pair_excludes (IsTooClose v) (places_of ss fs) i j fine.apart h.2
fine_is_not_refused v ss fs Memory fine h = h

-- the answer with a refusal is the answer with each refusal that holds
pub refused_exactly : {T : Type 0} (v : Lattice) (sites : List Site) (fixes : List Fix) (f : LayoutFault)
    → IsLayoutRefusal v sites fixes f → (fault : LayoutFault) → fault ≢ Memory
    → ((let answer : Result T LayoutFault = Err f in answer ≡ Err fault) ↔ IsLayoutRefusal v sites fixes fault)
refused_exactly {T} v ss fs f h fault ne = (
  (λ e. subst (IsLayoutRefusal v ss fs) (fault_of e) h),
  λ k. ap (λ (g : LayoutFault). let answer : Result T LayoutFault = Err g in answer) (one_refusal v ss fs f fault h k),
)
  where
    fault_of : (let answer : Result T LayoutFault = Err f in answer ≡ Err fault) → f ≡ fault
    fault_of e = cc e

-- no other answer is one with a refusal
pub fine_exactly : {T : Type 0} (v : Lattice) (sites : List Site) (fixes : List Fix) (answer : Result T LayoutFault)
    → AreFinePlaces v sites fixes → ((f : LayoutFault) → f ≢ Memory → answer ≢ Err f)
    → (fault : LayoutFault) → fault ≢ Memory → ((answer ≡ Err fault) ↔ IsLayoutRefusal v sites fixes fault)
fine_exactly v ss fs answer fine other fault ne =
    ((λ e. absurd (other fault ne e)), λ k. absurd (fine_is_not_refused v ss fs fault fine k))
