-- fronts of marks worked by hand
use Rattle.std.proofs.Common.{refl, []}
use Rattle.std.specs.Prelude.{codes}
use Rattle.sqd_marks.specs.Marks.{Tag, start, empty, comment, doctype}
use Rattle.sqd_marks.specs.declared.kind.Kind.TheVariants.{Start, Empty, Comment}
use Rattle.sqd_scan.specs.Fronts.{IsOf, IsFront, IsCut, IsFaultOf}
use Rattle.sqd_scan.specs.declared.fault.SqdFault.TheVariants.{BadMark, NotClosed}
use Rattle.sqd_scan.specs.declared.stage.Stage.TheVariants.{Begin, Bang, Slash}
use Rattle.sqd_scan.proofs.Fronts.{bad_of}

abbrev pub plain : Tag
plain = record { name = codes "a"; attributes = []; after = [] }

pub start_of : IsOf Start (codes "<a>")
start_of = record { mark = start plain; valid = record { name = (refl, tt); attributes = tt; after = tt }; form = refl; spelled = refl }

empty_of : IsOf Empty (codes "<a/>")
empty_of = record { mark = empty plain; valid = record { name = (refl, tt); attributes = tt; after = tt }; form = refl; spelled = refl }

-- `>` behind `<!--` ends no comment, and neither does `->`
short_comment : IsCut (codes "<!-->")
short_comment = record { mark = comment (codes ">"); valid = (refl, tt); next = 45; more = codes "->"; spelled = refl }

shorter_comment : IsCut (codes "<!--->")
shorter_comment = record { mark = comment (codes "->"); valid = (refl, (refl, tt)); next = 45; more = codes "->"; spelled = refl }

comment_of_dashes : IsOf Comment (codes "<!----->")
comment_of_dashes = record { mark = comment (codes "-"); valid = (refl, tt); form = refl; spelled = refl }

-- no byte, and `<` alone
nothing : IsCut []
nothing = record { mark = doctype; valid = tt; next = 60; more = codes "!DOCTYPE"; spelled = refl }

less_than : IsCut (codes "<")
less_than = record { mark = doctype; valid = tt; next = 33; more = codes "DOCTYPE"; spelled = refl }

pub half_doctype : IsFaultOf 7 (codes "<!DOC") (NotClosed 7)
half_doctype = (refl, record { mark = doctype; valid = tt; next = 84; more = codes "YPE"; spelled = refl })

-- a mark is a front of itself
whole_front : IsFront (codes "<!DOCTYPE")
whole_front = record { mark = doctype; valid = tt; more = []; spelled = refl }

-- the first byte that continues no mark
pub bad_bang : IsFaultOf 7 (codes "<!x") (BadMark 9)
bad_bang = (2, refl, bad_of (codes "<!x") (codes "<!") [] Bang 120 refl refl refl refl)

bad_first : IsFaultOf 0 (codes " <a>") (BadMark 0)
bad_first = (0, refl, bad_of (codes " <a>") [] (codes "<a>") Begin 32 refl refl refl refl)

bad_slash : IsFaultOf 0 (codes "<a / >") (BadMark 4)
bad_slash = (4, refl, bad_of (codes "<a / >") (codes "<a /") (codes ">") Slash 32 refl refl refl refl)
