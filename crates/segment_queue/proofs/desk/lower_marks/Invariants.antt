use Rattle.std.proofs.Common.{◌≡◌, length, drop}
use Rattle.segment_queue.specs.Scans.{trips_from}
use Rattle.segment_queue.proofs.LoweredMarks.{StillToLower}
use Rattle.segment_queue.proofs.desk.lower_marks.Given as goal

abbrev pub invariant-loop-later : goal.invariant-loop-later
invariant-loop-later g l = record {
  trips : length l.marks ≡ length l.initial.marks;
  still : StillToLower (g.S.Scan.net l.scan).table (trips_from (g.S.Scan.net l.scan).lines l.fn.trip) (drop l.later-index l.onward) l.at l.initial.marks l.marks;
}
