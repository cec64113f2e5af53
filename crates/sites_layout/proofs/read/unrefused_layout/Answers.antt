use Rattle.std.proofs.Common.{◌≡◌, Err}
use Rattle.sidb_layout.specs.declared.fault.LayoutFault.TheVariants.{OutOfRange, TooMany, TooManyFixes, Duplicate, TooClose}
use Rattle.sites_layout.proofs.read.unrefused_layout.Goals as goal

pub unreachable-requires : goal.unreachable-requires
unreachable-requires c =
    let is : c.layout_on.result ≡ Err (OutOfRange c.in-Err-OutOfRange.field-0-0) = cc in
    c.requires (OutOfRange c.in-Err-OutOfRange.field-0-0) ((c.layout_on.ensures.refused (OutOfRange c.in-Err-OutOfRange.field-0-0) (λ e. cc e)).0 is)

pub unreachable-requires-in-Err-TooMany : goal.unreachable-requires-in-Err-TooMany
unreachable-requires-in-Err-TooMany c =
    let is : c.layout_on.result ≡ Err TooMany = cc in
    c.requires TooMany ((c.layout_on.ensures.refused TooMany (λ e. cc e)).0 is)

pub unreachable-requires-in-Err-TooManyFixes : goal.unreachable-requires-in-Err-TooManyFixes
unreachable-requires-in-Err-TooManyFixes c =
    let is : c.layout_on.result ≡ Err TooManyFixes = cc in
    c.requires TooManyFixes ((c.layout_on.ensures.refused TooManyFixes (λ e. cc e)).0 is)

pub unreachable-requires-in-Err-Duplicate : goal.unreachable-requires-in-Err-Duplicate
unreachable-requires-in-Err-Duplicate c =
    let is : c.layout_on.result ≡ Err (Duplicate c.in-Err-Duplicate.field-0-0 c.in-Err-Duplicate.field-0-1) = cc in
    c.requires (Duplicate c.in-Err-Duplicate.field-0-0 c.in-Err-Duplicate.field-0-1) ((c.layout_on.ensures.refused (Duplicate c.in-Err-Duplicate.field-0-0 c.in-Err-Duplicate.field-0-1) (λ e. cc e)).0 is)

pub unreachable-requires-in-Err-TooClose : goal.unreachable-requires-in-Err-TooClose
unreachable-requires-in-Err-TooClose c =
    let is : c.layout_on.result ≡ Err (TooClose c.in-Err-TooClose.field-0-0 c.in-Err-TooClose.field-0-1) = cc in
    c.requires (TooClose c.in-Err-TooClose.field-0-0 c.in-Err-TooClose.field-0-1) ((c.layout_on.ensures.refused (TooClose c.in-Err-TooClose.field-0-0 c.in-Err-TooClose.field-0-1) (λ e. cc e)).0 is)
