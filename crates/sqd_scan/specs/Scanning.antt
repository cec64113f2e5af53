-- How a mark is scanned: byte by byte. The laws tie this to the marks.
use Rattle.std.specs.Prelude.{ℕ, ◌+◌, cond, eqb, codes, get_or, Option, None, Some}
use Rattle.sqd_marks.specs.Bytes.{is_blank, begins_name, is_in_name}
use Rattle.sqd_marks.specs.declared.kind.Kind.{Kind}
use Rattle.sqd_marks.specs.declared.kind.Kind.TheVariants as kinds
use Rattle.sqd_scan.specs.declared.stage.Stage.{Stage}
use Rattle.sqd_scan.specs.declared.stage.Stage.TheVariants.{Begin, Open, Name, Space, AttributeName, AttributeGap, Equals, Value, ValueEnd, Slash, EndOpen, EndName, EndGap, Bang, Dash, InComment, OneDash, TwoDashes, InDoctype, InCdata, InDeclaration, Question, Done}

-- the stage after a byte, where a mark may go on with it; 256 is no byte, and the others are
-- 33 `!`, 34 `"`, 39 `'`, 45 `-`, 47 `/`, 60 `<`, 61 `=`, 62 `>`, 63 `?`, 68 `D`, 91 `[`
abbrev pub step : Stage → ℕ → Option Stage
step Begin b = cond (eqb b 60) (Some Open) None
step Open b =
    cond (begins_name b) (Some Name) (cond (eqb b 47) (Some EndOpen)
    (cond (eqb b 33) (Some Bang) (cond (eqb b 63) (Some InDeclaration) None)))
step Name b =
    cond (is_in_name b) (Some Name) (cond (is_blank b) (Some Space)
    (cond (eqb b 62) (Some (Done kinds.Start)) (cond (eqb b 47) (Some Slash) None)))
step Space b =
    cond (is_blank b) (Some Space) (cond (begins_name b) (Some AttributeName)
    (cond (eqb b 62) (Some (Done kinds.Start)) (cond (eqb b 47) (Some Slash) None)))
step AttributeName b =
    cond (is_in_name b) (Some AttributeName) (cond (is_blank b) (Some AttributeGap)
    (cond (eqb b 61) (Some Equals) None))
step AttributeGap b = cond (is_blank b) (Some AttributeGap) (cond (eqb b 61) (Some Equals) None)
step Equals b =
    cond (is_blank b) (Some Equals) (cond (eqb b 34) (Some (Value 34))
    (cond (eqb b 39) (Some (Value 39)) None))
step (Value quote) b =
    cond (eqb b quote) (Some ValueEnd) (cond (eqb b 60) None (Some (Value quote)))
step ValueEnd b =
    cond (is_blank b) (Some Space) (cond (eqb b 62) (Some (Done kinds.Start))
    (cond (eqb b 47) (Some Slash) None))
step Slash b = cond (eqb b 62) (Some (Done kinds.Empty)) None
step EndOpen b = cond (begins_name b) (Some EndName) None
step EndName b =
    cond (is_in_name b) (Some EndName) (cond (is_blank b) (Some EndGap)
    (cond (eqb b 62) (Some (Done kinds.End)) None))
step EndGap b = cond (is_blank b) (Some EndGap) (cond (eqb b 62) (Some (Done kinds.End)) None)
step Bang b =
    cond (eqb b 45) (Some Dash) (cond (eqb b 68) (Some (InDoctype 1))
    (cond (eqb b 91) (Some (InCdata 1)) None))
step Dash b = cond (eqb b 45) (Some InComment) None
step InComment b = cond (eqb b 45) (Some OneDash) (Some InComment)
step OneDash b = cond (eqb b 45) (Some TwoDashes) (Some InComment)
step TwoDashes b =
    cond (eqb b 62) (Some (Done kinds.Comment))
    (cond (eqb b 45) (Some TwoDashes) (Some InComment))
step (InDoctype n) b =
    cond (eqb b (get_or (codes "DOCTYPE") n 256))
    (cond (eqb n 6) (Some (Done kinds.Doctype)) (Some (InDoctype (n + 1)))) None
step (InCdata n) b =
    cond (eqb b (get_or (codes "[CDATA[") n 256))
    (cond (eqb n 6) (Some (Done kinds.Cdata)) (Some (InCdata (n + 1)))) None
step InDeclaration b = cond (eqb b 63) (Some Question) (Some InDeclaration)
step Question b =
    cond (eqb b 62) (Some (Done kinds.Declaration))
    (cond (eqb b 63) (Some Question) (Some InDeclaration))
step (Done kind) b = None

-- the form of the mark, where it is whole
abbrev pub kind_done : Stage → Option Kind
kind_done (Done kind) = Some kind
kind_done _ = None
