use Rattle.std.proofs.Common.{length}
use Rattle.tb_base.proofs.Walks.{between_within, change_time_within}
use Rattle.tb_base.proofs.timetable.Timetable.change.Goals as goal

pub returns-clause-at_most_a_day : goal.returns-clause-at_most_a_day
returns-clause-at_most_a_day c =
    let own = change_time_within c.self.inside.parts c.args.p c.change_time.result c.self.invariant.sound c.change_time.ensures in
    rw c.secs_between.ensures (between_within (length c.args.self.now.stops) c.args.p c.args.q c.change_time.result c.paths.result.now own c.paths.ensures.sound)
