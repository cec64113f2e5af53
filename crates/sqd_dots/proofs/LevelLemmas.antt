-- the levels around a place
use Rattle.std.proofs.Common.{◌≡◌, ◌∙◌, sym, ap, ℕ, ◌+◌, List, [], ◌∷◌, ◌++◌, ◌&&◌, length, get_or, map, reverse, arith, length-append}
use Rattle.std.specs.Prelude.{codes}
use Rattle.std.specs.Str.{bytes_eq}
use Rattle.sqd_dots.specs.declared.levels.OpenElement.{OpenElement}
use Rattle.sqd_dots.specs.Dots.{is_layer}
use Rattle.sqd_dots.specs.Levels.{tier_of, tier_names}

-- three names behind which a last one stands
three : (a b c d : List ℕ) (around : List (List ℕ)) → a ∷ b ∷ c ∷ d ∷ [] ≡ around ++ [] ∷ [] → around ≡ a ∷ b ∷ c ∷ []
three a b c d [] h = absurd (cc h)
three a b c d (x ∷ []) h = absurd (cc h)
three a b c d (x ∷ y ∷ []) h = absurd (cc h)
three a b c d (x ∷ y ∷ z ∷ []) h = cc h
three a b c d (x ∷ y ∷ z ∷ w ∷ more) h =
    let long : 4 ≡ length (x ∷ y ∷ z ∷ w ∷ more) + 1 = ap length h ∙ length-append (x ∷ y ∷ z ∷ w ∷ more) ([] ∷ []) in
    absurd (omega (arith, long))

-- whether three elements are around, and these are their names
pub layer_by : (inner next : OpenElement) (outer : List OpenElement) (around : List (List ℕ)) → length outer ≡ 3 → next ≡ get_or outer 2 next
    → tier_names (tier_of inner ∷ map tier_of (reverse outer)) ≡ around ++ [] ∷ []
    → is_layer around ≡ (bytes_eq inner.name.now (codes "layer") && bytes_eq next.name.now (codes "design"))
layer_by inner next [] around l n h = absurd (cc l)
layer_by inner next (x ∷ []) around l n h = absurd (omega (arith, l))
layer_by inner next (x ∷ y ∷ []) around l n h = absurd (omega (arith, l))
layer_by inner next (x ∷ y ∷ z ∷ []) around l n h =
    let names = three inner.name.now z.name.now y.name.now x.name.now around h in
    ap is_layer names ∙ ap (λ w. bytes_eq inner.name.now (codes "layer") && bytes_eq w.name.now (codes "design")) (sym n)
layer_by inner next (x ∷ y ∷ z ∷ w ∷ outer) around l n h = absurd (omega (arith, l))
