use Rattle.line_split.specs.Layout.{departures_at}
use Rattle.line_split.proofs.DepartureLemmas.{runs_more}
use Rattle.line_split.proofs.departures.add_line.Goals as goal

pub loop-at-preserved : goal.loop-at-preserved
loop-at-preserved c = runs_more (departures_at c.args.table.now c.args.trips.now) c.loop-at.at c.args.departures.now.items c.loop-at.departures.items c.add_index.new.departures.items c.loop-at.invariant c.in_ok-add_index.ensures
