-- What a source in memory gives.
use Rattle.std.proofs.Common.{◌≡◌, ◌∙◌, sym, ap, ℕ, ◌+◌, ◌-◌, ◌<◌, ◌≤◌, List, ◌++◌, length, take, drop, min, Some, arith, length-drop}
use Rattle.std.proofs.lemmas.List.{take-append-drop, drop-drop, drop_all}
use Rattle.sidb_io.specs.Outside.{Fills}

-- what was left is a front of it and then the rest
given_rest : (xs front : List ℕ) (at k : ℕ) → front ≡ take k (drop at xs) → drop at xs ≡ front ++ drop (at + k) xs
given_rest xs front at k e = sym (ap (λ f. f ++ drop (at + k) xs) e ∙ ap (λ r. take k (drop at xs) ++ r) (sym (drop-drop k at xs)) ∙ take-append-drop k (drop at xs))

-- bytes from place `at` on, copied to the front of a buffer
pub fills : (xs before after : List ℕ) (at k most : ℕ) → (0 < length before → 0 < most) → at ≤ length xs → k ≡ min (min most (length before)) (length (drop at xs))
    → take k after ≡ take k (drop at xs) → drop k after ≡ drop k before → Fills (Some (drop at xs)) (Some (drop (at + k) xs)) before after k
fills xs before after at k most some within count given rest =
    let left : length (drop at xs) ≡ length xs - at = length-drop at xs in
    record {
      within = omega arith;
      gave = ap Some (given_rest xs (take k after) at k given);
      rest = rest;
      end = λ none room. let asked : 0 < most = some room in drop_all (at + k) xs (omega arith);
    }
