-- a text draws one layout, or has one first fault
use Rattle.std.proofs.Common.{◌≡◌, ◌∙◌, refl, sym, ap, subst, ℕ, List, [], Option, Some, None, inl, inr}
use Rattle.std.specs.Prelude.{IsSomeAnd, slice_get}
use Rattle.sidb_layout.specs.declared.site.Site.{Site}
use Rattle.sidb_layout.specs.declared.site.Fix.{Fix}
use Rattle.sidb_layout.specs.declared.lattice.Lattice.{Lattice}
use Rattle.sidb_layout.specs.declared.fault.LayoutFault.{LayoutFault}
use Rattle.sidb_layout.specs.declared.fault.LayoutFault.TheVariants as refusals
use Rattle.sidb_layout.specs.Lattice.{silicon}
use Rattle.sidb_layout.specs.Layout.{Arrangement}
use Rattle.sidb_layout.specs.Refusal.{IsMadeOf, IsLayoutRefusal}
use Rattle.sqd_dots.specs.declared.drawing.Dot.{Dot}
use Rattle.sqd_dots.specs.Drawings.{IsDrawing, IsDrawingFault}
use Rattle.sqd_scan.specs.declared.fault.SqdFault.{SqdFault}
use Rattle.sqd_scan.specs.declared.fault.SqdFault.TheVariants.{OutOfRange, TooMany, Duplicate}
use Rattle.sqd_layout.specs.DotsFaults.{sites_in, BeginsAt, IsDotsFault, IsSqdText, IsSqdFault}

-- the laws below
abbrev pub OneDrawing : Type 0
OneDrawing = (text : List ℕ) (a b : List Dot) (j k : ℕ) → IsDrawing text a j → IsDrawing text b k → (a ≡ b) × (j ≡ k)

abbrev pub OneFault : Type 0
OneFault = (text : List ℕ) (f g : SqdFault) → IsDrawingFault text f → IsDrawingFault text g → f ≡ g

abbrev pub NoFault : Type 0
NoFault = (text : List ℕ) (dots : List Dot) (skipped : ℕ) (f : SqdFault) → IsDrawing text dots skipped → IsDrawingFault text f → ⊥

abbrev pub OneLayout : Type 0
OneLayout = (v : Lattice) (sites : List Site) (fixes : List Fix) (p q : Arrangement) → IsMadeOf v sites fixes p → IsMadeOf v sites fixes q → p ≡ q

abbrev pub OneRefusal : Type 0
OneRefusal = (v : Lattice) (sites : List Site) (fixes : List Fix) (f g : LayoutFault) → IsLayoutRefusal v sites fixes f → IsLayoutRefusal v sites fixes g → f ≡ g

abbrev pub NoRefusal : Type 0
NoRefusal = (v : Lattice) (sites : List Site) (fixes : List Fix) (p : Arrangement) (f : LayoutFault) → IsMadeOf v sites fixes p → IsLayoutRefusal v sites fixes f → ⊥

pub one_drawn_layout : OneDrawing → OneLayout → (text : List ℕ) (p q : Arrangement) (j k : ℕ) → IsSqdText text p j → IsSqdText text q k → (p ≡ q) × (j ≡ k)
one_drawn_layout drawing layout text p q j k h g =
    let same = drawing text h.dots g.dots j k h.drawing g.drawing in
    (layout silicon (sites_in g.dots) [] p q (subst (λ dots. IsMadeOf silicon (sites_in dots) [] p) same.0 h.made) g.made, same.1)

-- a dot begins at one place
one_place : (dots : List Dot) (i a b : ℕ) → BeginsAt dots i a → BeginsAt dots i b → a ≡ b
one_place dots i a b = by (slice_get dots i)
  where
    by : (o : Option Dot) → IsSomeAnd o (λ d. d.at ≡ a) → IsSomeAnd o (λ d. d.at ≡ b) → a ≡ b
    by None h g = absurd h
    by (Some d) h g = sym h ∙ g

one_dots_fault : OneRefusal → (dots : List Dot) (f g : SqdFault) → IsDotsFault dots f → IsDotsFault dots g → f ≡ g
one_dots_fault one dots (OutOfRange a) (OutOfRange b) h g =
    let same = one silicon (sites_in dots) [] (refusals.OutOfRange h.0) (refusals.OutOfRange g.0) h.2 g.2 in
    let number : h.0 ≡ g.0 = cc same in
    ap OutOfRange (one_place dots g.0 a b (subst (λ i. BeginsAt dots i a) number h.1) g.1)
one_dots_fault one dots (OutOfRange a) TooMany h g =
    let same = one silicon (sites_in dots) [] (refusals.OutOfRange h.0) refusals.TooMany h.2 g in absurd (cc same)
one_dots_fault one dots (OutOfRange a) (Duplicate b c) h g =
    let same = one silicon (sites_in dots) [] (refusals.OutOfRange h.0) (refusals.Duplicate g.0 g.2.0) h.2 g.2.2 in absurd (cc same)
one_dots_fault one dots TooMany (OutOfRange b) h g =
    let same = one silicon (sites_in dots) [] refusals.TooMany (refusals.OutOfRange g.0) h g.2 in absurd (cc same)
one_dots_fault one dots TooMany TooMany h g = refl
one_dots_fault one dots TooMany (Duplicate b c) h g =
    let same = one silicon (sites_in dots) [] refusals.TooMany (refusals.Duplicate g.0 g.2.0) h g.2.2 in absurd (cc same)
one_dots_fault one dots (Duplicate a c) (OutOfRange b) h g =
    let same = one silicon (sites_in dots) [] (refusals.Duplicate h.0 h.2.0) (refusals.OutOfRange g.0) h.2.2 g.2 in absurd (cc same)
one_dots_fault one dots (Duplicate a c) TooMany h g =
    let same = one silicon (sites_in dots) [] (refusals.Duplicate h.0 h.2.0) refusals.TooMany h.2.2 g in absurd (cc same)
one_dots_fault one dots (Duplicate a c) (Duplicate b d) h g =
    let same = one silicon (sites_in dots) [] (refusals.Duplicate h.0 h.2.0) (refusals.Duplicate g.0 g.2.0) h.2.2 g.2.2 in
    let first : h.0 ≡ g.0 = cc same in
    let second : h.2.0 ≡ g.2.0 = cc same in
    let one_first = one_place dots g.0 a b (subst (λ i. BeginsAt dots i a) first h.1) g.1 in
    let one_second = one_place dots g.2.0 c d (subst (λ i. BeginsAt dots i c) second h.2.1) g.2.1 in
    ap (λ k. Duplicate k c) one_first ∙ ap (λ k. Duplicate b k) one_second
one_dots_fault one dots (OutOfRange a) g h k = absurd k
one_dots_fault one dots TooMany g h k = absurd k
one_dots_fault one dots (Duplicate a c) g h k = absurd k
one_dots_fault one dots f g h k = absurd h

pub one_sqd_fault : OneDrawing → OneFault → NoFault → OneRefusal → (text : List ℕ) (f g : SqdFault) → IsSqdFault text f → IsSqdFault text g → f ≡ g
one_sqd_fault drawing fault none refusal text f g (inl h) (inl k) = fault text f g h k
one_sqd_fault drawing fault none refusal text f g (inl h) (inr k) = absurd (none text k.dots k.skipped f k.drawing h)
one_sqd_fault drawing fault none refusal text f g (inr h) (inl k) = absurd (none text h.dots h.skipped g h.drawing k)
one_sqd_fault drawing fault none refusal text f g (inr h) (inr k) =
    let same = drawing text h.dots k.dots h.skipped k.skipped h.drawing k.drawing in
    one_dots_fault refusal k.dots f g (subst (λ dots. IsDotsFault dots f) same.0 h.found) k.found

-- dots whose sites make a layout have no fault
no_dots_fault : NoRefusal → (dots : List Dot) (p : Arrangement) (f : SqdFault) → IsMadeOf silicon (sites_in dots) [] p → IsDotsFault dots f → ⊥
no_dots_fault none dots p (OutOfRange a) made g = none silicon (sites_in dots) [] p (refusals.OutOfRange g.0) made g.2
no_dots_fault none dots p TooMany made g = none silicon (sites_in dots) [] p refusals.TooMany made g
no_dots_fault none dots p (Duplicate a b) made g = none silicon (sites_in dots) [] p (refusals.Duplicate g.0 g.2.0) made g.2.2
no_dots_fault none dots p f made g = absurd g

pub no_sqd_fault : OneDrawing → NoFault → NoRefusal → (text : List ℕ) (p : Arrangement) (skipped : ℕ) (f : SqdFault) → IsSqdText text p skipped
    → IsSqdFault text f → ⊥
no_sqd_fault drawing none unrefused text p skipped f h (inl k) = none text h.dots skipped f h.drawing k
no_sqd_fault drawing none unrefused text p skipped f h (inr k) =
    let same = drawing text h.dots k.dots skipped k.skipped h.drawing k.drawing in
    no_dots_fault unrefused k.dots p f (subst (λ dots. IsMadeOf silicon (sites_in dots) [] p) same.0 h.made) k.found
