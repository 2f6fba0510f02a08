use Rattle.std.proofs.Common.{take}
use Rattle.line_split.specs.Layout.{AreBoardings}
use Rattle.line_split.proofs.boardings.boarded.Given as goal

abbrev pub invariant-loop-berth : goal.invariant-loop-berth
invariant-loop-berth l = AreBoardings l.table l.lines (take l.berth-index l.berths) l.row.items
