-- one site alone worked by hand: negative it holds always, neutral it never does
use Rattle.std.proofs.Common.{◌≡◌, ℕ, zero, suc, ◌<◌, ℤ, pos, negsuc, ◌+ℤ◌, ◌-ℤ◌, ◌*ℤ◌, ◌≤ℤ◌, List, [], ◌∷◌, refl, inr, arith}
use Rattle.std.proofs.lemmas.Int.{ints}
use Rattle.charge_model.specs.declared.charge.Charge.{Charge}
use Rattle.charge_model.specs.declared.charge.Charge.TheVariants.{Neg, Neutral, Pos}
use Rattle.charge_model.specs.declared.charge.Test.TheVariants.{AboveMinus, AbovePlus, BelowMinus, BelowPlus}
use Rattle.charge_model.specs.declared.span.Span.{Span}
use Rattle.charge_model.specs.Problem.{Problem, Table, IsTable, class_of, near_class_of}
use Rattle.charge_model.specs.Rules.{potential_at}
use Rattle.population_rule.specs.declared.verdict.PopulationVerdict.TheVariants.{Always, Never}
use Rattle.population_rule.specs.Verdict.{IsPopulationVerdict}

abbrev pub one_site : Problem
one_site = record {
  sites = 1;
  base = 3;
  mu_minus = negsuc 1;
  mu_plus = negsuc 9;
  fixed_charges = [];
  pair_classes = [];
  near_classes = [];
  spans = [];
}

abbrev pub some_table : Table
some_table = record { scale = 1; potential = λ c. pos 0 }

pub some_table_is : IsTable one_site some_table
some_table_is = record { positive = omega arith; above = λ c l. absurd (omega (arith, l)); below = λ c l. absurd (omega (arith, l)) }

pub no_potential : (t : Table) (c : List Charge) → potential_at one_site t c 0 ≡ pos 0
unfolding potential_at class_of near_class_of
no_potential t c = refl

pub negative_always : IsPopulationVerdict one_site (Neg ∷ []) 0 Always
negative_always AboveMinus of_charge t is = let v = no_potential t (Neg ∷ []) in omega (arith, ints, v)
negative_always AbovePlus of_charge t is = absurd (cc)
negative_always BelowMinus of_charge t is = absurd (cc)
negative_always BelowPlus of_charge t is = absurd (cc)

pub neutral_never : IsPopulationVerdict one_site (Neutral ∷ []) 0 Never
neutral_never = (BelowMinus, inr refl, λ t is. let v = no_potential t (Neutral ∷ []) in let positive = is.positive in omega (arith, ints, v, positive))
