use Rattle.service_trips.proofs.StartRuns.{cut_run}
use Rattle.service_trips.proofs.starts.starts_in.Goals as goal

pub returns-in-Until-clause-starts : goal.returns-in-Until-clause-starts
returns-in-Until-clause-starts c =
    rw c.in-Until.is
    (cut_run c.in-Until.end c.starts_from-in-Until.result.first c.starts_from-in-Until.result.count c.args.frequency.now c.cut_at.result c.requires.good c.cut_at.ensures.cut c.starts_from-in-Until.ensures.starts)
