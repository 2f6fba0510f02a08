use Rattle.std.proofs.Common.{◌≡◌, take}
use Rattle.tb_base.proofs.timetable.Timetable.copy_change_times.Given as goal

abbrev pub invariant-loop-p : goal.invariant-loop-p
invariant-loop-p l = l.times.items ≡ take l.p l.self.footpaths.change
