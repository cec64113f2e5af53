-- answers at the levels of a range worked by hand, and what is none
use Rattle.std.proofs.Common.{◌≡◌, ◌∙◌, ℕ, pos, refl, sym, subst, inl, inr, List, [], ◌∷◌, Some, None, codes, ◌<◌, arith}
use Rattle.std.specs.Fmt.{digits}
use Rattle.charge_model.specs.Problem.{Problem}
use Rattle.charge_model.proofs.OneSite.{one_site}
use Rattle.command_words.specs.declared.settings.DepthRange.{DepthRange}
use Rattle.command_words.specs.declared.settings.Settings.{Settings}
use Rattle.level_range_laws.specs.declared.interval.Interval.{Interval}
use Rattle.level_range_laws.specs.RangePrefixes.{range_prefix_count}
use Rattle.level_range_laws.proofs.StandardFacts.{three_levels, three_prefixes, below_zero, at_zero, two_parts}
use Rattle.level_range.specs.Answer.{HasFewCandidates}
use Rattle.run_answer.specs.declared.status.Status.{Status}
use Rattle.run_answer.specs.declared.status.Status.TheVariants.{Answered, Budget, Memory}
use Rattle.task_levels.specs.RangeAnswer.{IsAnswerWithin, IsRangeAnswer, levels_between}
use Rattle.task_levels.proofs.StandardFacts.{line}

-- the depths 0 to 2 are the levels -2 to 0
two_units : (r : DepthRange) → r.from ≡ pos 0 → r.to ≡ pos 2 → levels_between r ≡ three_levels
two_units r from to = rw (from, to) refl

-- one site alone
two_parts_text : HasFewCandidates one_site three_levels → IsAnswerWithin one_site three_levels 3 Answered
    (line (codes "sidb-range 1") (line (codes "sites 1") (line (codes "parts 2") (line (codes "part -2 -1 entries 1") (line (codes "- certain")
    (line (codes "part 0 0 entries 2") (line (codes "- certain") (line (codes "0 certain") (line (codes "end") [])))))))))
unfolding digits
two_parts_text few =
    let three = three_prefixes in
    inl (refl, record { parts = below_zero ∷ at_zero ∷ []; list = record { within = omega (arith, three); few = few; printed = two_parts }; prints = refl })

over_two : IsAnswerWithin one_site three_levels 2 Budget (line (codes "fault budget 2") [])
unfolding digits
over_two = let three = three_prefixes in inr (inl (omega (arith, three), (refl, refl)))

of_settings : (s : Settings) (r : DepthRange) → s.levels.range ≡ Some r → r.from ≡ pos 0 → r.to ≡ pos 2 → s.search.limit ≡ 2
    → IsRangeAnswer s one_site Budget (line (codes "fault budget 2") [])
of_settings s r asked from to limit = record {
  range = r;
  asked = asked;
  answer = rw limit (subst (λ (levels : Interval). IsAnswerWithin one_site levels 2 Budget (line (codes "fault budget 2") [])) (sym (two_units r from to)) over_two);
}

-- there is no answer without a range, and none for want of memory
no_range : (s : Settings) (p : Problem) (status : Status) (text : List ℕ) → s.levels.range ≡ None → IsRangeAnswer s p status text → ⊥
no_range s p status text none is = let wrong = sym none ∙ is.asked in absurd (cc)

never_memory : (s : Settings) (p : Problem) (text : List ℕ) → IsRangeAnswer s p Memory text → ⊥
never_memory s p text is = by is.answer
  where
    by : {levels : Interval} {limit : ℕ} → IsAnswerWithin p levels limit Memory text → ⊥
    by (inl given) = let wrong = given.0 in absurd (cc)
    by (inr (inl over)) = let wrong = over.1.0 in absurd (cc)
    by (inr (inr long)) = let wrong = long.2.0 in absurd (cc)

only_over_budget : (p : Problem) (levels : Interval) (limit : ℕ) (text : List ℕ) → IsAnswerWithin p levels limit Budget text → limit < range_prefix_count p levels
only_over_budget p levels limit text (inl given) = let wrong = given.0 in absurd (cc)
only_over_budget p levels limit text (inr (inl over)) = over.0
only_over_budget p levels limit text (inr (inr long)) = let wrong = long.2.0 in absurd (cc)
