use Rattle.std.proofs.Common.{◌≡◌, map, take}
use Rattle.tb_base.proofs.timetable.Timetable.copy_paths.Given as goal

abbrev pub invariant-loop-p : goal.invariant-loop-p
invariant-loop-p l = map (λ row. row.items) l.paths.items ≡ take l.p l.self.footpaths.paths
