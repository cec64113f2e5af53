use Rattle.std.proofs.Common.{arith}
use Rattle.sites_layout.proofs.Contents.{no_line}
use Rattle.sites_layout.proofs.line_reader.content_of.Goals as goal

pub returns-in_default : goal.returns-in_default
returns-in_default c =
    no_line _ c.args.first.now c.args.rest.now (λ e. omega (arith, e)) (λ e. omega (arith, e)) (λ e. omega (arith, e))

pub returns-in_default-2 : goal.returns-in_default-2
returns-in_default-2 c =
    no_line _ c.args.first.now c.args.rest.now (λ e. omega (arith, e)) (λ e. omega (arith, e)) (λ e. omega (arith, e))

pub returns-in_default-3 : goal.returns-in_default-3
returns-in_default-3 c =
    no_line _ c.args.first.now c.args.rest.now (λ e. omega (arith, e)) (λ e. omega (arith, e)) (λ e. omega (arith, e))

pub returns-in_default-4 : goal.returns-in_default-4
returns-in_default-4 c =
    no_line _ c.args.first.now c.args.rest.now (λ e. omega (arith, e)) (λ e. omega (arith, e)) (λ e. omega (arith, e))
