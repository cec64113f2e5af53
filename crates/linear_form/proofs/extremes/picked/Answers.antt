use Rattle.std.proofs.Common.{ap, ◌∙◌, sym, ◌*ℤ◌, ◌<ℤ◌, pos, arith}
use Rattle.std.proofs.lemmas.Int.{ints}
use Rattle.linear_form.proofs.Products.{product_read, product-size, pick-negative}
use Rattle.linear_form.proofs.extremes.picked.Goals as goal

pub returns-then-coefficient-ge0-clause-within : goal.returns-then-coefficient-ge0-clause-within
returns-then-coefficient-ge0-clause-within c =
    rw (product_read c.args.coefficient c.args.x c.ranges.coefficient c.ranges.x c.requires.weight c.requires.x) (product-size c.args.coefficient c.args.x c.requires.x)

pub returns-else-coefficient-ge0-clause-value : goal.returns-else-coefficient-ge0-clause-value
returns-else-coefficient-ge0-clause-value c =
    let negative : c.args.coefficient <ℤ pos 0 = omega (arith, ints) in
    product_read c.args.coefficient c.args.y c.ranges.coefficient c.ranges.y c.requires.weight c.requires.y
    ∙ sym (ap (λ z. c.args.coefficient *ℤ z) (pick-negative c.args.coefficient c.args.x c.args.y negative))

pub returns-else-coefficient-ge0-clause-within : goal.returns-else-coefficient-ge0-clause-within
returns-else-coefficient-ge0-clause-within c =
    rw (product_read c.args.coefficient c.args.y c.ranges.coefficient c.ranges.y c.requires.weight c.requires.y) (product-size c.args.coefficient c.args.y c.requires.y)
