use Rattle.tb_base.proofs.Walks.{station_sound}
use Rattle.tb_base.proofs.timetable.Timetable.station.Goals as goal

pub returns-clause-sound : goal.returns-clause-sound
returns-clause-sound c =
    rw (← c.self.view_is) (station_sound c.self.inside.parts c.args.n c.index.result.now c.self.invariant.sound (rw (← c.self.view_is) at c.requires) (rw (← c.self-inside.view_is) c.index.ensures))
