use Rattle.std.proofs.Common.{◌≡◌, ◌<◌, subst, List, Option, Some, None}
use Rattle.std.specs.Prelude.{IfOk, MatchOption, Result, Ok, sum_by}
use Rattle.std.specs.List.{AllZip}
use Rattle.tree_leaves.specs.Leaves.{Leaves}
use Rattle.shared_leaves.specs.declared.sharing.Share.{Share}
use Rattle.shared_leaves.specs.declared.joining.Missed.TheVariants.{Budget}
use Rattle.shared_leaves.specs.Finds.{AreFound, IsMissed, IsJoined}
use Rattle.shared_leaves.proofs.Found.{over_tree, over_parts, joined_tree}
use Rattle.shared_leaves.proofs.joining.leaves_shared.Goals as goal

pub returns-in-Err-Budget : goal.returns-in-Err-Budget
returns-in-Err-Budget g c =
    let p = c.args.problem.now in
    let o = c.args.bound in
    over_tree p o c.args.limit c.in-Ok.shares.items c.in-Ok.ensures
    (subst (λ (xs : List Share). IsMissed p o c.args.limit xs Budget) c.as_slice.ensures.value
    (subst (IsMissed p o c.args.limit c.as_slice.result.now) c.in-Err-Budget.field-0-is c.in-Err-Budget.ensures))

-- what an answer says where it is known
told : {E : Type 0} (A : Type 0) (B : Leaves → Type 0) (r : Result (Option Leaves) E) (f g : Option Leaves) → r ≡ Ok f → f ≡ g → IfOk r (λ o. MatchOption o A B) → MatchOption g A B
told A B r f g is as_known h = subst (λ o. MatchOption o A B) as_known (subst (λ s. IfOk s (λ o. MatchOption o A B)) is h)

pub returns-in-Ok-Some : goal.returns-in-Ok-Some
returns-in-Ok-Some g c =
    let p = c.args.problem.now in
    let o = c.args.bound in
    let limit = c.args.limit in
    let parts = c.in-Ok-leaves_of_all.parts.items in
    let found = subst (λ (xs : List Share). AllZip (AreFound p o) xs parts) c.as_slice.ensures.value c.in-Ok-leaves_of_all.ensures in
    joined_tree p o limit c.in-Ok.shares.items c.in-Ok.ensures parts c.in-Ok-Some.list (λ q short. c.nodes_are_tested.ensures p o q short) found
    (told (limit < sum_by (λ (l : Leaves). l.nodes) parts) (IsJoined limit parts) c.joined.result c.in-Ok-Some.field-0 (Some c.in-Ok-Some.list) c.in-Ok-Some.is c.in-Ok-Some.field-0-is c.joined.ensures)

pub returns-in-Ok-None : goal.returns-in-Ok-None
returns-in-Ok-None g c =
    let p = c.args.problem.now in
    let o = c.args.bound in
    let limit = c.args.limit in
    let parts = c.in-Ok-leaves_of_all.parts.items in
    let found = subst (λ (xs : List Share). AllZip (AreFound p o) xs parts) c.as_slice.ensures.value c.in-Ok-leaves_of_all.ensures in
    over_parts p o limit c.in-Ok.shares.items c.in-Ok.ensures parts found
    (told (limit < sum_by (λ (l : Leaves). l.nodes) parts) (IsJoined limit parts) c.joined.result c.in-Ok-None.field-0 None c.in-Ok-None.is c.in-Ok-None.field-0-is c.joined.ensures)
