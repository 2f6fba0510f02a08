use Rattle.live_turns.proofs.LiveRuns.{cut_at_once}
use Rattle.live_turns.proofs.live.running.run_turns.Goals as goal

pub returns-in-Err-clause-cut : goal.returns-in-Err-clause-cut
returns-in-Err-clause-cut g c = cut_at_once c.args.side.now.mode (g.S.Source.left c.args.source.now) (g.O.Sink.written c.args.sink.now) c.args.side.now
