use Rattle.std.proofs.Common.{◌≡◌, take}
use Rattle.tb_base.proofs.timetable.Timetable.copy_trips.Given as goal

abbrev pub invariant-loop-t : goal.invariant-loop-t
invariant-loop-t l = l.trips.items ≡ take l.t l.self.trips
