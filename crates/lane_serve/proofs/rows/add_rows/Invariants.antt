use Rattle.std.proofs.Common.{◌≡◌, ◌++◌, flat_map}
use Rattle.tb_base.specs.Transfers.{numbers_below}
use Rattle.lane_serve.specs.Rows.{csv_row}
use Rattle.lane_serve.proofs.rows.add_rows.Given as goal

abbrev pub invariant-loop-stop : goal.invariant-loop-stop
invariant-loop-stop l = l.text ≡ l.fn.text ++ flat_map (csv_row l.table l.origin l.departures l.figures) (numbers_below l.stop)
