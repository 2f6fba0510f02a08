use Rattle.std.proofs.Common.{◌≡◌, ◌++◌, flat_map, take}
use Rattle.lane_serve.specs.Rows.{csv_time}
use Rattle.lane_serve.proofs.rows.add_times.Given as goal

abbrev pub invariant-loop-time : goal.invariant-loop-time
invariant-loop-time l = l.text ≡ l.fn.text ++ flat_map csv_time (take l.time-index l.times)
