-- two answers of a search agree
use Rattle.std.proofs.Common.{◌≡◌, ℕ, ◌<◌, ℤ, refl, ap, subst, arith, Some}
use Rattle.std.specs.Prelude.{Option, None}
use Rattle.std.proofs.lemmas.Int.{ints}
use Rattle.charge_model.specs.Problem.{Problem}
use Rattle.charge_model.specs.Tree.{IsLeastAttained, IsLeastCertain, node_count}
use Rattle.branch_search.specs.declared.halving.Bound.TheVariants.{Found, NoneCertain, Budget}
use Rattle.branch_search.specs.declared.rounds.RoundAnswer.TheVariants.{Done}
use Rattle.branch_search.specs.Bounds.{IsBoundAnswer}
use Rattle.branch_search.specs.Rounds.{IsRoundAnswer}

pub same_energy : (p : Problem) (x y : ℤ) → IsLeastAttained p x → IsLeastAttained p y → x ≡ y
same_energy p x y f g = let a = f.least y g.attained in let b = g.least x f.attained in omega (arith, ints, a, b)

pub not_none : (p : Problem) (x : ℤ) → IsLeastAttained p x → IsLeastCertain p None → ⊥
not_none p x f none = let at = f.attained in none at.0 at.1.is_list at.1.valid

pub same_round : (p : Problem) (threshold : ℤ) (limit : ℕ) (x y : Option ℤ) → IsRoundAnswer p threshold limit (Done x) → IsRoundAnswer p threshold limit (Done y) → x ≡ y
same_round p threshold limit None None a b = refl
same_round p threshold limit None (Some y) a b = let above = a y b.0.attained in let within = b.1 in absurd (omega (arith, ints, above, within))
same_round p threshold limit (Some x) None a b = let above = b x a.0.attained in let within = a.1 in absurd (omega (arith, ints, above, within))
same_round p threshold limit (Some x) (Some y) a b = ap Some (same_energy p x y a.0 b.0)

over_with : (p : Problem) (limit : ℕ) (x : ℤ) (o : Option ℤ) → IsLeastAttained p x → IsLeastCertain p o → limit < node_count p o → limit < node_count p (Some x)
over_with p limit x None f none over = absurd (not_none p x f none)
over_with p limit x (Some y) f g over = subst (λ z. limit < node_count p (Some z)) (same_energy p y x g f) over

pub found_over : (p : Problem) (limit : ℕ) (x : ℤ) → IsBoundAnswer p limit (Found x) → IsBoundAnswer p limit Budget → limit < node_count p (Some x)
found_over p limit x f (o, least, over) = over_with p limit x o f least over

none_with : (p : Problem) (limit : ℕ) (o : Option ℤ) → IsLeastCertain p None → IsLeastCertain p o → limit < node_count p o → limit < node_count p None
none_with p limit None none least over = over
none_with p limit (Some y) none g over = absurd (not_none p y g none)

pub none_over : (p : Problem) (limit : ℕ) → IsBoundAnswer p limit NoneCertain → IsBoundAnswer p limit Budget → limit < node_count p None
none_over p limit none (o, least, over) = none_with p limit o none least over
