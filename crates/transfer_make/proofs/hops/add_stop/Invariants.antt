use Rattle.std.proofs.Common.{◌≡◌, ◌++◌, take, pos, ◌+ℤ◌}
use Rattle.std.specs.Prelude.{filter_map}
use Rattle.line_split.specs.Layout.{berth_of}
use Rattle.transfer_make.specs.ByBerth.{row_by}
use Rattle.transfer_make.proofs.hops.add_stop.Given as goal

abbrev pub invariant-loop-boarding : goal.invariant-loop-boarding
invariant-loop-boarding l =
    l.rows.items ≡ l.initial.rows.items ++ filter_map (λ b. row_by l.lines.table l.lines.lines l.from.trip l.from.at (l.from.arr +ℤ pos l.secs) (berth_of b)) (take l.boarding-index l.boarding-items)
