use Rattle.std.proofs.Common.{Some, length, arith}
use Rattle.tb_base.proofs.Walks.{between_within}
use Rattle.tb_base.proofs.timetable.Timetable.walk.Goals as goal

pub returns-clause-at_most_a_day : goal.returns-clause-at_most_a_day
returns-clause-at_most_a_day c =
    rw c.secs_between.ensures (between_within (length c.args.self.now.stops) c.args.p c.args.q (Some 0) c.paths.result.now (omega arith) c.paths.ensures.sound)
