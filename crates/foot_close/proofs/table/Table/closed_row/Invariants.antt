use Rattle.std.proofs.Common.{◌≡◌, take}
use Rattle.std.specs.Prelude.{filter_map}
use Rattle.foot_close.specs.Tables.{reached_from, path_of}
use Rattle.foot_close.proofs.table.Table.closed_row.Given as goal

abbrev pub invariant-loop-reached : goal.invariant-loop-reached
invariant-loop-reached l = l.row.items ≡ filter_map (path_of l.from) (take l.reached-index (reached_from l.self l.from))
