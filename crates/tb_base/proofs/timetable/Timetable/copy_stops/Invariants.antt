use Rattle.std.proofs.Common.{◌≡◌, take}
use Rattle.tb_base.proofs.timetable.Timetable.copy_stops.Given as goal

abbrev pub invariant-loop-p : goal.invariant-loop-p
invariant-loop-p l = l.stops.items ≡ take l.p l.self.stops
