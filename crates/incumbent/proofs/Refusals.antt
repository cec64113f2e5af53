-- an energy that no list has, and a track of another problem, are refused
use Rattle.std.proofs.Common.{◌≡◌, pos, [], ap, arith}
use Rattle.std.specs.Prelude.{Some, None}
use Rattle.std.proofs.lemmas.Int.{ints}
use Rattle.charge_model.specs.Tree.{IsAttained}
use Rattle.charge_model.specs.Problem.{Problem}
use Rattle.incumbent.specs.Hunting.{IsHunt}
use Rattle.incumbent.proofs.StandardFacts.{nothing, no_energy, some_guess}

not_attained : IsAttained nothing (pos 7) → ⊥
not_attained (c, is) =
    let r = is.reached.reached in
    let e = no_energy r.0 c in
    let seven = r.2.1 in
    omega (arith, ints, e, seven)

not_guessed : IsHunt nothing (record { track = record { problem = nothing; prefix = [] }; best = some_guess; energy = Some (pos 7) }) → ⊥
not_guessed is = not_attained is.attained

not_of_another : (p : Problem) → IsHunt nothing (record { track = record { problem = p; prefix = [] }; best = some_guess; energy = None }) → p.sites ≡ 1 → ⊥
not_of_another p is one = let e = ap (λ q. q.sites) is.problem in omega (arith, e, one)
