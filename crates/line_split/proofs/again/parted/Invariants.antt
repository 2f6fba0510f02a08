use Rattle.std.proofs.Common.{◌≡◌, not, filter, take}
use Rattle.std.specs.List.{concat}
use Rattle.line_split.specs.Marks.{is_line_marked}
use Rattle.line_split.proofs.again.parted.Given as goal

abbrev pub invariant-loop-line : goal.invariant-loop-line
invariant-loop-line l = record {
  kept : l.kept ≡ filter (λ line. not (is_line_marked l.fn.before l.marks line)) (take l.line l.old.lines);
  trips : l.trips.items ≡ concat (filter (is_line_marked l.fn.before l.marks) (take l.line l.old.lines));
}
