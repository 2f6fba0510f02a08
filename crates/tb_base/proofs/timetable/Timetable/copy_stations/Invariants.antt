use Rattle.std.proofs.Common.{◌≡◌, take}
use Rattle.tb_base.proofs.timetable.Timetable.copy_stations.Given as goal

abbrev pub invariant-loop-n : goal.invariant-loop-n
invariant-loop-n l = l.stations.items ≡ take l.n l.self.stations
