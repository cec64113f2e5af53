use Rattle.command_words.proofs.GateLemmas.{no_function, not_distinct}
use Rattle.command_words.proofs.gates.gate_of.Goals as goal

pub returns-in_default-function_in-clause-none : goal.returns-in_default-function_in-clause-none
returns-in_default-function_in-clause-none c = λ g are.
    let told = rw c.in-Some.is at c.in_ok-inputs.ensures.found in
    no_function c.one_pair_list.ensures _ _ _ _ g are c.in-Some.inputs told (rw c.len.ensures at c.in_default-function_in.ensures.none)

pub returns-then-not-branch-clause-none : goal.returns-then-not-branch-clause-none
returns-then-not-branch-clause-none c = λ g are.
    let told = rw c.in-Some.is at c.in_ok-inputs.ensures.found in
    let also = rw c.in-Some-2.is at c.in_ok-outputs.ensures.found in
    let distinct = rw (c.as_slice.ensures, c.as_slice-2.ensures) at c.in_ok-are_distinct.ensures in
    not_distinct c.one_pair_list.ensures _ _ _ _ g are c.in-Some.inputs told c.in-Some-2.outputs also (λ d. let yes = distinct.1 d in let no = c.if-not-branch.true in absurd (cc (yes, no)))
