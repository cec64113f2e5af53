use Rattle.std.proofs.Common.{◌∙◌, ◌<◌, ◌≤◌, length, sym, arith}
use Rattle.std.proofs.lemmas.Bool.{false≢true}
use Rattle.std.proofs.lemmas.List.Elements.{All-push}
use Rattle.level_range.proofs.Listing.{IsSetting, all_in, places_more, places_same, places_all}
use Rattle.level_range.proofs.answers.listed_at.Goals as goal
use Rattle.level_range.proofs.answers.listed_at.Goals.{then-branch+in_ok-push, else-branch}

pub loop-k-preserved : goal.loop-k-preserved
loop-k-preserved c =
    let p = c.args.problem.now in
    let xs = c.args.all.now in
    let m = c.args.level.value in
    let k = c.loop-k.k in
    let within : k < length xs = omega arith in
    let set : IsSetting p c.args.levels xs m = record { tables = c.problems_have_tables.ensures p c.sites-known.ensures.valid; all = c.requires.all; inside = c.requires.level } in
    elim c.if-branch.branch [
      | then-branch+in_ok-push w ↦ rw (w.places-is, w.in_ok-push.ensures.items) (record {
        kept = places_more p c.args.levels xs m k c.loop-k.places.items (all_in p c.args.levels xs m set) within c.loop-k.invariant.kept (c.in_ok-is_listed_trying.ensures.0 w.if-branch.true);
        places = All-push (λ j. j < length xs) c.loop-k.places.items k c.loop-k.invariant.places within;
      })
      | else-branch w ↦ rw w.places-is (record {
        kept = places_same p xs m k c.loop-k.places.items within c.loop-k.invariant.kept (λ h. false≢true (sym w.if-branch.false ∙ c.in_ok-is_listed_trying.ensures.1 h));
        places = c.loop-k.invariant.places;
      })
    ]

pub returns-clause-ground : goal.returns-clause-ground
returns-clause-ground c =
    let p = c.args.problem.now in
    let xs = c.args.all.now in
    let m = c.args.level.value in
    let end : length xs ≤ c.loop-k.k = omega arith in
    let set : IsSetting p c.args.levels xs m = record { tables = c.problems_have_tables.ensures p c.sites-known.ensures.valid; all = c.requires.all; inside = c.requires.level } in
    places_all p xs m c.loop-k.k c.loop-k.places.items (all_in p c.args.levels xs m set) c.loop-k.invariant.kept end
