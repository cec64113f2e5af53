use Rattle.std.proofs.Common.{refl, w64}
use Rattle.std.proofs.lemmas.Int.{to_z-of_z}
use mir.Val.{SFits}
use Rattle.model_params.proofs.params.params_of.Goals as goal

pub invariant_of-result : goal.invariant_of-result
invariant_of-result c = record {
  in_range = record {
    coulomb_within = c.if-not-holds.ensures.0 refl;
    eps_within = c.if-not-holds-2.ensures.0 refl;
    lam_within = c.if-not-holds-3.ensures.0 refl;
    depth_within = c.if-not-holds-4.ensures.0 refl;
    gap_within = c.if-not-holds-5.ensures.0 refl;
    base_from = c.if-base-lt2.false;
    base_to = c.if-base-gt3.false;
  };
}

pub returns-clause-some : goal.returns-clause-some
returns-clause-some c =
    let coulomb_fits : SFits w64 c.args.coulomb = c.ranges.coulomb in
    let eps_fits : SFits w64 c.args.eps = c.ranges.eps in
    let lam_fits : SFits w64 c.args.lam = c.ranges.lam in
    let depth_fits : SFits w64 c.args.depth = c.ranges.depth in
    let gap_fits : SFits w64 c.args.gap = c.ranges.gap in
    let coulomb = simp to_z-of_z at c.if-not-holds.ensures in
    let eps = simp to_z-of_z at c.if-not-holds-2.ensures in
    let lam = simp to_z-of_z at c.if-not-holds-3.ensures in
    let depth = simp to_z-of_z at c.if-not-holds-4.ensures in
    let gap = simp to_z-of_z at c.if-not-holds-5.ensures in (
      λ _. record {
        coulomb_within = coulomb.0 refl;
        eps_within = eps.0 refl;
        lam_within = lam.0 refl;
        depth_within = depth.0 refl;
        gap_within = gap.0 refl;
        base_from = c.if-base-lt2.false;
        base_to = c.if-base-gt3.false;
      },
      λ _. refl,
    )
