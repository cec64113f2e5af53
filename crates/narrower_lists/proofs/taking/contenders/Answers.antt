use Rattle.charge_model.specs.GroundList.{lists_of}
use Rattle.narrower_lists.proofs.TakingLemmas.{possible_contend}
use Rattle.narrower_lists.proofs.taking.contenders.Goals as goal

pub returns : goal.returns
returns c =
    let wide = c.args.whole.now.problem in
    let narrow = c.args.problem.now in
    let l = lists_of c.list-list.result.now in
    let ground = c.list-list.ensures.listed.list.ground in
    let valid = c.sites-sites.ensures.valid in
    possible_contend narrow l (record {
      has_table = c.problems_have_tables.ensures narrow valid;
      staying = λ d. c.staying_lists_are_listed.ensures wide narrow l d valid c.requires ground;
      beats = c.window_lists_at_zero_are_ground_lists.ensures.beats narrow;
      within = c.window_lists_at_zero_are_ground_lists.ensures.within narrow;
    }) c.in_ok-possible.possible.items c.in_ok-possible.ensures
