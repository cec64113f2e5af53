use Rattle.region_domain.proofs.laws.some_region.Goals as goal

pub returns : goal.returns
returns c = λ placed p a depth valid logic on axes far.
    c.some_refinement.ensures.grid (record { placed = placed }) (λ r. c.some_tile_answer.ensures placed r valid logic on) p a depth axes far
