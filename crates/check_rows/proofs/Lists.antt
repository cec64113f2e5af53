-- charge lists of base 3, and entries that have such lists
use Rattle.std.proofs.Common.{◌≡◌, ℕ, List, [], ◌∷◌, length, ◌++◌, map, refl, ap, arith, sym, subst, ◌∙◌}
use Rattle.std.specs.Prelude.{All}
use Rattle.std.proofs.lemmas.List.{map-append}
use Rattle.std.proofs.lemmas.List.Elements.{All-push}
use Rattle.charge_model.specs.GroundList.{lists_of}
use Rattle.ground_entries.specs.Seen.{seen}
use Rattle.ground_entries.specs.declared.ground_list.Entry.{Entry}
use Rattle.charge_model.specs.declared.charge.Charge.{Charge}
use Rattle.charge_model.specs.Charges.{IsOfBase}
use Rattle.charge_model.specs.Problem.{Problem}
use Rattle.charge_model.specs.Rules.{IsChargeList}

base_three : (base : ℕ) (cs : List Charge) → base ≡ 3 → IsOfBase base cs
base_three base [] e = tt
base_three base (c ∷ cs) e = (λ two. absurd (omega (arith, e, two)), base_three base cs e)

pub of_three : (p : Problem) (cs : List Charge) → p.base ≡ 3 → length cs ≡ p.sites → IsChargeList p cs
of_three p cs e f = record { whole = f; of_base = base_three p.base cs e }

pub one_more : (p : Problem) (old new : List Entry) (e : Entry) → new ≡ old ++ e ∷ [] → All (IsChargeList p) (lists_of (map seen old)) → IsChargeList p e.charges → All (IsChargeList p) (lists_of (map seen new))
one_more p old new e same all is =
    let lists : lists_of (map seen new) ≡ lists_of (map seen old) ++ e.charges ∷ []
    = ap (λ es. lists_of (map seen es)) same ∙ ap lists_of (map-append seen old (e ∷ [])) ∙ map-append (λ x. x.charges) (map seen old) (map seen (e ∷ [])) in
    subst (All (IsChargeList p)) (sym lists) (All-push (IsChargeList p) (lists_of (map seen old)) e.charges all is)
