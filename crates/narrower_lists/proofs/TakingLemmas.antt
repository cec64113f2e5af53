-- what stays of a wider problem's ground list
use Rattle.std.proofs.Common.{◌≡◌, ◌↔◌, pos, List}
use Rattle.std.specs.Prelude.{Contains}
use Rattle.std.proofs.lemmas.List.Elements.{All-contains, All-map, All-weaker}
use Rattle.charge_model.specs.declared.charge.Charge.{Charge}
use Rattle.charge_model.specs.Problem.{Problem, UnderSomeTable}
use Rattle.charge_model.specs.Rules.{Beats, IsCertainlyValid, IsPossiblyValid}
use Rattle.charge_model.specs.GroundList.{IsCandidate, IsListed}
use Rattle.window_model.specs.Windows.{BeatsBy, IsWithin}
use Rattle.narrower_laws.specs.Narrower.{Stays}
use Rattle.candidate_marks.specs.declared.candidate.Candidate.{Candidate}
use Rattle.candidate_marks.specs.Candidates.{AreContenders, IsWeighed, lists_of_candidates}
use Rattle.narrower_lists.specs.Possible.{ArePossible}

-- what is known below
pub record AreLaws (narrow : Problem) (l : List (List Charge)) : Type 0 where
  pub has_table : UnderSomeTable narrow (λ t. t.scale ≡ 1)
  pub staying : (c : List Charge) → Stays narrow l c ↔ IsListed narrow c
  pub beats : (w c : List Charge) → BeatsBy narrow (pos 0) w c ↔ Beats narrow w c
  pub within : (c : List Charge) → IsWithin narrow (pos 0) c ↔ IsListed narrow c

module _ (narrow : Problem) (l : List (List Charge)) (laws : AreLaws narrow l) (xs : List Candidate) (are : ArePossible narrow l xs) where
  -- a possibly valid entry is kept
  kept : (c : List Charge) → Contains l c → IsPossiblyValid narrow c → Contains (lists_of_candidates xs) c
  kept c inside = All-contains (λ d. IsPossiblyValid narrow d → Contains (lists_of_candidates xs) d) l c are.each inside

  -- a certainly valid list is possibly valid
  certain_possible : (c : List Charge) → IsCertainlyValid narrow c → IsPossiblyValid narrow c
  certain_possible c certain q of = (laws.has_table.0, laws.has_table.1, certain q of laws.has_table.0 laws.has_table.1)

  -- what is kept is possibly valid
  candidate : (c : List Charge) → Contains (lists_of_candidates xs) c → IsCandidate narrow c
  candidate c inside =
      let all = All-map (IsCandidate narrow) (λ x. x.charges) xs (All-weaker (IsWeighed narrow) (λ x. IsCandidate narrow x.charges) (λ x weighed. weighed.list) xs are.weighed) in
      All-contains (IsCandidate narrow) (lists_of_candidates xs) c all inside

  -- one that none of those kept beats stays
  stays : (c : List Charge) → Contains (lists_of_candidates xs) c → ((w : List Charge) → Contains (lists_of_candidates xs) w → BeatsBy narrow (pos 0) w c → ⊥) → Stays narrow l c
  stays c inside none = record {
    member = All-contains (Contains l) (lists_of_candidates xs) c are.only inside;
    candidate = candidate c inside;
    unbeaten = λ w entry beats. none w (kept w entry (certain_possible w beats.certain)) ((laws.beats w c).1 beats);
  }

  pub possible_contend : AreContenders narrow (pos 0) xs
  possible_contend = record {
    in_order = are.in_order;
    weighed = are.weighed;
    listed = λ c within. let listed = (laws.within c).0 within in kept c ((laws.staying c).1 listed).member listed.possible;
    unbeaten = λ c inside none w beats. ((laws.staying c).0 (stays c inside none)).unbeaten w ((laws.beats w c).0 beats);
  }
