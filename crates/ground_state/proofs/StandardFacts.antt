-- one site alone, worked by hand: its ground list is found within two nodes, and not within one
use Rattle.std.proofs.Common.{◌≡◌, pos, Some, List, [], ◌∷◌, ◌⊎◌, inl, refl, sym, arith}
use Rattle.std.specs.Prelude.{Contains}
use Rattle.std.proofs.lemmas.Int.{ints}
use Rattle.std.proofs.lemmas.List.Elements.{All-nil, All-cons}
use Rattle.charge_model.specs.declared.charge.Charge.{Charge}
use Rattle.charge_model.specs.declared.charge.Charge.TheVariants.{Neg}
use Rattle.charge_model.specs.Problem.{Table, IsTable, class_of, near_class_of}
use Rattle.charge_model.specs.Rules.{energy}
use Rattle.charge_model.specs.Prefixes.{least_fixed, greatest_fixed, least_potential, greatest_potential, may_be_positive, can_be, least_known, greatest_known, site_low, pair_low, low}
use Rattle.charge_model.specs.Tree.{is_open, is_node, node_count}
use Rattle.charge_model.proofs.OneSite.{one_site, some_table, one_entry, one_site_list, one_site_bound}
use Rattle.candidate_marks.specs.declared.candidate.Candidate.{Candidate}
use Rattle.candidate_marks.specs.Candidates.{IsWeighed, ReachesBound, LiesAbove}
use Rattle.ground_entries.specs.declared.ground_list.Solved.{Solved}
use Rattle.ground_state.specs.Answer.{IsListedWithin, IsOverLimit, IsSolution}
use Rattle.walk_model.specs.Walks.{raised_bound}
use Rattle.ground_state.specs.Window.{IsWindowSolution}
use Rattle.ground_state.specs.Kept.{AreKept}
use Rattle.window_laws.proofs.StandardFacts.{one_site_window}

pub two_nodes : node_count one_site (Some (pos 0)) ≡ 2
unfolding node_count is_node is_open low pair_low site_low least_known greatest_known can_be greatest_potential greatest_fixed may_be_positive least_potential least_fixed class_of near_class_of
two_nodes = refl

pub listed_within : IsListedWithin one_site 2 one_entry
listed_within = record {
  budget = (Some (pos 0), one_site_bound, omega (arith, two_nodes));
  list = one_site_list;
  few = omega arith;
}

pub over_budget : IsOverLimit one_site 1
over_budget = (Some (pos 0), one_site_bound, omega (arith, two_nodes))

abbrev pub one_solution : Solved
one_solution = record { list = one_entry; bound = Some (pos 0); nodes = 2 }

solved_within : IsSolution one_site 2 one_solution
solved_within = record { list = one_site_list; bound = one_site_bound; nodes = sym two_nodes; within = omega arith }

-- within a window of 5 it is the same list, and the tree has no more nodes
two_nodes_in_window : node_count one_site (raised_bound (pos 5) (Some (pos 0))) ≡ 2
unfolding node_count is_node is_open low pair_low site_low least_known greatest_known can_be greatest_potential greatest_fixed may_be_positive least_potential least_fixed class_of near_class_of
two_nodes_in_window = refl

pub window_solved : IsWindowSolution one_site (pos 5) 2 one_solution
window_solved = record { list = one_site_window (pos 5) (omega (arith, ints)); bound = one_site_bound; nodes = sym two_nodes_in_window; within = omega arith }

-- the one leaf of the tree is kept, with its energy of 0
pub no_energy : (t : Table) (c : List Charge) → energy one_site t c ≡ pos 0
unfolding energy class_of near_class_of
no_energy t c = refl

pub some_table_is : IsTable one_site some_table
some_table_is = record { positive = omega arith; above = λ c l. absurd (omega (arith, l)); below = λ c l. absurd (omega (arith, l)) }

pub leaf_kept : (x : Candidate) → IsWeighed one_site x → x.charges ≡ Neg ∷ [] → AreKept one_site (Some (pos 0)) ((Neg ∷ []) ∷ []) (x ∷ [])
leaf_kept x weighed negative = record {
  in_order = λ i j d h l. absurd (omega (arith, h, l));
  weighed = All-cons (IsWeighed one_site) x [] weighed (All-nil _);
  within = All-cons (ReachesBound one_site (Some (pos 0))) x.charges [] (some_table, some_table_is, (refl, let e = no_energy some_table x.charges in omega (arith, ints, e))) (All-nil _);
  others = All-cons (λ c. Contains (x.charges ∷ []) c ⊎ LiesAbove one_site (Some (pos 0)) c) (Neg ∷ []) [] (inl (0, omega arith, negative)) (All-nil _);
}
