use Rattle.std.proofs.Common.{◌≡◌, ◌+◌, length}
use Rattle.sqd_nesting.specs.Views.{nest_of}
use Rattle.sqd_nesting.proofs.Reading.{Reading}
use Rattle.sqd_nesting.proofs.text_marks.read_marks.Given as goal

abbrev pub invariant-marks : goal.invariant-marks
invariant-marks l = record {
  reading : Reading l.text l.reader.at l.reader.left.now l.found.items (nest_of l.reader.nesting);
  room : l.reader.at + length l.reader.left.now ≡ length l.text;
}

abbrev pub decreases-marks : goal.decreases-marks
decreases-marks l = length l.reader.left.now
