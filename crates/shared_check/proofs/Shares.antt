-- how the nodes of a part are shared out, and added up again
use Rattle.std.proofs.Common.{◌≡◌, ◌∙◌, ℕ, ◌+◌, List, [], ◌∷◌, ◌++◌, map, take, slice_get, Option, Some, None, refl, sym, ap, subst, arith}
use Rattle.std.specs.Prelude.{sum, IfSome}
use Rattle.std.proofs.lemmas.Option.{get_or_from_slice_get, slice_get_within}
use Rattle.std.proofs.lemmas.Grind.{take_at_read}
use Rattle.std.specs.List.{AllZip}
use Rattle.std.proofs.lemmas.List.Sums.{sum_by-cons, sum_by_push}
use Rattle.charge_model.specs.declared.charge.Charge.{Charge}
use Rattle.tree_leaves.specs.Subtree.{nodes_under}
use Rattle.written_tokens.specs.Guiding.{Guiding}
use Rattle.shared_check.specs.Parts.{AreSharedOut, IsCountOf, nodes_in}

take_next : (counts : List (Option ℕ)) (k : ℕ) (o : Option ℕ) → slice_get counts k ≡ Some o → take (k + 1) counts ≡ take k counts ++ o ∷ []
take_next counts k o at =
    let more = take_at_read counts k o (slice_get_within counts k o at) in
    more.1 ∙ ap (λ t. take k counts ++ t ∷ []) (get_or_from_slice_get counts k o o at)

pushed_count : (ns : List ℕ) (n : ℕ) → map Some (ns ++ n ∷ []) ≡ map Some ns ++ Some n ∷ []
pushed_count [] n = refl
pushed_count (x ∷ ns) n = ap (λ t. Some x ∷ t) (pushed_count ns n)

-- one more count is added
pub one_more : (counts : List (Option ℕ)) (k n few total more : ℕ) → slice_get counts k ≡ Some (Some n) → ((ns : List ℕ) × (take k counts ≡ map Some ns) × (total ≡ few + sum ns))
    → more ≡ total + n → (ns : List ℕ) × (take (k + 1) counts ≡ map Some ns) × (more ≡ few + sum ns)
one_more counts k n few total more at (ns, counted, total_is) more_is =
    let pushed = sum_by_push (λ x. x) ns n in (
      ns ++ n ∷ [],
      take_next counts k (Some n) at ∙ ap (λ t. t ++ Some n ∷ []) counted ∙ sym (pushed_count ns n),
      omega (arith, total_is, more_is, pushed),
    )

module _ (g : Guiding) where
  -- the counts of tasks are those of their nodes
  counts_sum : (tasks : List (List Charge)) (ns : List ℕ) → AllZip (IsCountOf g) tasks (map Some ns) → sum ns ≡ nodes_in g tasks
  counts_sum [] [] right = refl
  counts_sum [] (n ∷ ns) right = absurd right
  counts_sum (q ∷ tasks) [] right = absurd right
  counts_sum (q ∷ tasks) (n ∷ ns) right =
      let rest = counts_sum tasks ns right.1 in
      let here : n ≡ nodes_under g.problem g.threshold q = right.0 in
      let a = sum_by-cons (λ x. x) n ns in
      let b = sum_by-cons (λ z. nodes_under g.problem g.threshold z) q tasks in
      a ∙ omega (arith, here, rest) ∙ sym b

  -- what was counted and the counts of the tasks make all nodes of the part
  pub all_counted : (q : List Charge) (few n : ℕ) (tasks : List (List Charge)) (ns : List ℕ) → AreSharedOut g (nodes_under g.problem g.threshold q) few [] tasks
      → AllZip (IsCountOf g) tasks (map Some ns) → n ≡ few + sum ns → n ≡ nodes_under g.problem g.threshold q
  all_counted q few n tasks ns shared right total =
      let sum = shared.sum in
      let tasks_sum = counts_sum tasks ns right in
      omega (arith, total, sum, tasks_sum)

  -- from no task on, with the tasks and the counts as slices
  pub whole_counted : (few : ℕ) (q : List Charge) (none tasks given : List (List Charge)) (counts shown : List (Option ℕ)) (o : Option ℕ) → q ≡ [] → none ≡ [] → given ≡ tasks → shown ≡ counts
      → AreSharedOut g (nodes_under g.problem g.threshold q) few none tasks → AllZip (IsCountOf g) given counts → IfSome o (λ n. (ns : List ℕ) × (shown ≡ map Some ns) × (n ≡ few + sum ns))
      → IsCountOf g [] o
  whole_counted few q none tasks given counts shown None empty no_task given_is shown_is shared right total = tt
  whole_counted few q none tasks given counts shown (Some n) empty no_task given_is shown_is shared right (ns, some, total) =
      let here = subst (λ r. AreSharedOut g (nodes_under g.problem g.threshold r) few [] tasks) empty (subst (λ x. AreSharedOut g (nodes_under g.problem g.threshold q) few x tasks) no_task shared) in
      let zip = subst (AllZip (IsCountOf g) tasks) (sym shown_is ∙ some) (subst (λ x. AllZip (IsCountOf g) x counts) given_is right) in
      all_counted [] few n tasks ns here zip total
