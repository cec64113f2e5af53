use Rattle.std.proofs.lemmas.List.Elements.{All-contains_itself}
use Rattle.occupation.proofs.AnswerLemmas.{all_enclose}
use Rattle.occupation.proofs.OrderLemmas.{all_parts}
use Rattle.occupation.proofs.laws.rounded_lists_enclose_the_intervals.Goals as goal

pub returns-clause-encloses : goal.returns-clause-encloses
returns-clause-encloses c =
    λ p kt l ss some are. all_enclose p kt l (λ e s inside is. c.rounded_shares_enclose_the_intervals.ensures p kt l e s some inside is) l ss (All-contains_itself l) are

pub returns-clause-parts : goal.returns-clause-parts
returns-clause-parts c =
    λ p kt l ss some are. all_parts p kt l (λ e s inside is. c.rounded_shares_are_parts.ensures p kt l e s some inside is) l ss (All-contains_itself l) are
