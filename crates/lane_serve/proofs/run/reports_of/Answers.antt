use Rattle.std.proofs.Common.{subst, sym}
use Rattle.lane_serve.specs.Lanes.{IsLaneRun}
use Rattle.lane_serve.proofs.run.reports_of.Goals as goal

pub closing_of-requires-clause-run : goal.closing_of-requires-clause-run
closing_of-requires-clause-run g c =
    subst (IsLaneRun c.args.caller.now.kept.list c.args.lane.now.lines) (sym c.as_slice.ensures.value) c.requires.run
