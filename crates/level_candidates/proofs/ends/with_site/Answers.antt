use Rattle.std.proofs.Common.{sym}
use Rattle.leaf_rules.specs.declared.demand.Demand.TheVariants.{Possible, Certain}
use Rattle.level_range_laws.specs.Levels.{gap_of}
use Rattle.level_candidates.specs.Ends.{Allows}
use Rattle.level_candidates.proofs.Sided.{one_more_site, tests_allow, allowed_at}
use Rattle.level_candidates.proofs.ends.with_site.Goals as goal

pub returns : goal.returns
returns c =
    let p = c.args.problem.now in
    let cs = c.args.charges.now in
    let lo = c.in_ok-span.span.lo in
    let hi = c.in_ok-span.span.hi in
    let least = c.in_ok-span.ensures.least in
    let greatest = c.in_ok-span.ensures.greatest in
    let first = allowed_at c.args.ends.possible c.narrowed.result c.at-charge.result c.gap-gap.result.value (gap_of p) c.high_end-high.result.value hi c.low_end-low.result.value lo c.gap-gap.ensures.value c.high_end-high.ensures c.low_end-low.ensures c.narrowed.ensures in
    let second = allowed_at c.args.ends.certain c.narrowed-2.result c.at-charge.result c.gap-gap.result.value (gap_of p) c.low_end-low.result.value lo c.high_end-high.result.value hi c.gap-gap.ensures.value c.low_end-low.ensures c.high_end-high.ensures c.narrowed-2.ensures in
    record {
      possible = one_more_site Possible p c.args._levels cs c.args.i c.args.ends.possible c.narrowed.result (Allows c.at-charge.result (gap_of p) hi lo)
          (λ m. tests_allow p cs c.args.i m lo hi Possible c.at-charge.result (sym c.at-charge.ensures) least greatest) c.requires.ends.possible first;
      certain = one_more_site Certain p c.args._levels cs c.args.i c.args.ends.certain c.narrowed-2.result (Allows c.at-charge.result (gap_of p) lo hi)
          (λ m. tests_allow p cs c.args.i m lo hi Certain c.at-charge.result (sym c.at-charge.ensures) least greatest) c.requires.ends.certain second;
    }
