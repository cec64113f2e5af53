-- one site alone, worked by hand, and a class of one span within another
use Rattle.std.proofs.Common.{zero, suc, pos, [], ◌∷◌, refl, arith}
use Rattle.std.proofs.lemmas.Int.{ints}
use Rattle.std.proofs.lemmas.List.Elements.{All-nil, All-cons}
use Rattle.std.specs.Prelude.{Contains}
use Rattle.charge_model.specs.declared.charge.Charge.TheVariants.{Neg}
use Rattle.charge_model.specs.declared.span.Span.{Span}
use Rattle.charge_model.specs.Rules.{IsPossiblyValid}
use Rattle.charge_model.proofs.OneSite.{one_site, one_entry}
use Rattle.candidate_marks.specs.Candidates.{IsWeighed, lists_of_candidates}
use Rattle.candidate_marks.proofs.StandardFacts.{negative, negative_weighed}
use Rattle.narrower_laws.specs.Narrower.{IsNarrower}
use Rattle.narrower_lists.specs.Agreement.{AreWithin, HaveSameClasses, HaveSameNumbers}
use Rattle.narrower_lists.specs.Listed.{IsWholeOf, ListedProblem}
use Rattle.narrower_lists.specs.Possible.{ArePossible}

same_numbers : HaveSameNumbers one_site one_site
same_numbers = record { sites = refl; base = refl; mu_minus = refl; mu_plus = refl }

same_classes : HaveSameClasses one_site one_site
same_classes = record { fixed = refl; pairs = refl; near = refl }

-- a span of 0 to 5, and one of 1 to 4 within it
abbrev pub wide_span : Span
wide_span = record { lo = pos 0; hi = pos 5; in_order = omega (arith, ints) }

abbrev pub narrow_span : Span
narrow_span = record { lo = pos 1; hi = pos 4; in_order = omega (arith, ints) }

within : AreWithin (wide_span ∷ []) (narrow_span ∷ [])
within zero inside = (omega (arith, ints), omega (arith, ints))
within (suc c) inside = absurd (omega (arith, inside))

-- a problem is narrower than itself, and has its own list
abbrev pub solved : ListedProblem
solved = record { problem = one_site; limit = 3; list = one_entry }

narrower : IsNarrower one_site one_site
narrower = record {
  rest = refl;
  count = refl;
  lo = λ c inside. absurd (omega (arith, inside));
  hi = λ c inside. absurd (omega (arith, inside));
}

its_own : IsWholeOf solved one_site 3
its_own = record { narrower = narrower; same = refl }

-- the negative list is possibly valid
possible : ArePossible one_site ((Neg ∷ []) ∷ []) (negative ∷ [])
possible = record {
  in_order = λ i j d before inside. absurd (omega (arith, before, inside));
  weighed = All-cons (IsWeighed one_site) negative [] negative_weighed (All-nil _);
  only = All-cons (Contains ((Neg ∷ []) ∷ [])) (Neg ∷ []) [] held (All-nil _);
  each = All-cons (λ c. IsPossiblyValid one_site c → Contains (lists_of_candidates (negative ∷ [])) c) (Neg ∷ []) [] (λ holds. held) (All-nil _);
}
  where
    held : Contains ((Neg ∷ []) ∷ []) (Neg ∷ [])
    held = (0, omega arith, refl)
