use Rattle.region_domain.proofs.laws.one_region.Goals as goal

pub returns : goal.returns
returns c = λ placed p a depth xs ys valid.
    c.one_refinement.ensures.grid (record { placed = placed }) (λ r x y. c.one_tile_answer.ensures placed r x y valid) p a depth xs ys
