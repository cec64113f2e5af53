-- one more entry is counted where it is certain
use Rattle.std.proofs.Common.{◌≡◌, ◌∙◌, ap, sym, ℕ, ◌+◌, List, take, Bool, true, false, Some}
use Rattle.std.specs.List.{slice_get}
use Rattle.std.proofs.lemmas.List.Sums.{count_by_more_no, count_by_more_yes}
use Rattle.std.proofs.lemmas.Option.{slice_get_within, get_or_from_slice_get}
use Rattle.charge_model.specs.GroundList.{Entry, is_certain}
use Rattle.gate_report.specs.GenText.{count_certain}

abbrev marked : Entry → Bool
marked e = is_certain e.mark

pub certain_yes : (es : List Entry) (j : ℕ) (e : Entry) (now next : ℕ) → slice_get es j ≡ Some e → is_certain e.mark ≡ true → now ≡ count_certain (take j es) → next ≡ now + 1 → next ≡ count_certain (take (j + 1) es)
certain_yes es j e now next here is before more =
    more ∙ ap (λ n. n + 1) before ∙ sym (count_by_more_yes marked es j e (slice_get_within es j e here) (ap marked (get_or_from_slice_get es j e e here) ∙ is))

pub certain_no : (es : List Entry) (j : ℕ) (e : Entry) (now next : ℕ) → slice_get es j ≡ Some e → is_certain e.mark ≡ false → now ≡ count_certain (take j es) → next ≡ now → next ≡ count_certain (take (j + 1) es)
certain_no es j e now next here is before same =
    same ∙ before ∙ sym (count_by_more_no marked es j e (slice_get_within es j e here) (ap marked (get_or_from_slice_get es j e e here) ∙ is))
