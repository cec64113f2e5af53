use Rattle.std.proofs.Common.{◌≡◌, ◌∙◌, ◌<◌, ◌≤◌, length, get_or, map, [], ◌∷◌, refl, sym, subst, arith}
use Rattle.std.specs.Prelude.{◌↔◌, IsTrue}
use Rattle.std.proofs.lemmas.List.{map-append, take_all, length-map, get_or-map}
use Rattle.std.proofs.lemmas.List.Elements.{All-push}
use Rattle.charge_model.specs.GroundList.{IsCertain}
use Rattle.level_range_laws.specs.Levels.{at_level}
use Rattle.level_candidates.specs.Candidates.{lists_of_level_candidates}
use Rattle.level_range.specs.Seen.{outcome_of}
use Rattle.level_range.specs.Answering.{picked}
use Rattle.level_range.specs.declared.entries.PartEntry.{PartEntry}
use Rattle.level_range.proofs.Listing.{entries_more}
use Rattle.level_range.proofs.answers.entries_of.Goals as goal

pub loop-i-preserved : goal.loop-i-preserved
loop-i-preserved c =
    let p = c.args.problem.now in
    let xs = c.args.all.now in
    let ks = c.args.places.now in
    let i = c.loop-i.i in
    let old = c.loop-i.entries.items in
    let within : i < length ks = omega arith in
    let place = c.requires.places i 0 within in
    let x = c.index-all-places.result in
    let entry : PartEntry = record { charges = c.copy-charges.result; certain = c.in_ok-certain.certain } in
    let same : entry.charges ≡ get_or (lists_of_level_candidates xs) (get_or ks i 0) [] = c.copy-charges.ensures ∙ sym (get_or-map (λ y. y.charges) xs (get_or ks i 0) x [] place) in
    rw (c.in_ok-push.ensures.items, map-append outcome_of old (entry ∷ [])) (record {
      lists = entries_more xs ks i (get_or ks i 0) (map outcome_of old) (outcome_of entry) within refl c.loop-i.invariant.lists same;
      certain = All-push (λ o. IsTrue o.certain ↔ IsCertain (at_level p c.args.level.value) (picked xs ks) o.charges) (map outcome_of old) (outcome_of entry) c.loop-i.invariant.certain
          (subst (λ z. IsTrue c.in_ok-certain.certain ↔ IsCertain (at_level p c.args.level.value) (picked xs ks) z) (sym same) c.in_ok-certain.ensures);
    })

pub returns-clause-lists : goal.returns-clause-lists
returns-clause-lists c =
    let ks = c.args.places.now in
    let end : length ks ≤ c.loop-i.i = omega arith in
    c.loop-i.invariant.lists ∙ take_all c.loop-i.i (picked c.args.all.now ks) (omega (arith, end, length-map ks (λ k. get_or (lists_of_level_candidates c.args.all.now) k [])))
