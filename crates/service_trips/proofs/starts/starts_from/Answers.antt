use Rattle.std.proofs.Common.{arith}
use Rattle.service_trips.proofs.StartRuns.{no_starts_by, some_starts_by}
use Rattle.service_trips.proofs.starts.starts_from.Goals as goal

pub returns-then-first-frequency-clause-starts : goal.returns-then-first-frequency-clause-starts
returns-then-first-frequency-clause-starts c = no_starts_by c.args.least c.args.frequency.now c.first_from-first.result c.requires.good c.first_from-first.ensures c.if-first-frequency.true

pub returns-clause-starts : goal.returns-clause-starts
returns-clause-starts c =
    let below = c.if-first-frequency.false in
    some_starts_by c.args.least c.args.frequency.now c.first_from-first.result c.requires.good c.first_from-first.ensures (omega (arith, below))
