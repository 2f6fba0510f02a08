use Rattle.std.proofs.Common.{rules}
use Rattle.line_split.proofs.DepartureLemmas.{counts_none, counts_one}
use Rattle.line_split.proofs.lines.count_earlier.Goals as goal
use Rattle.line_split.proofs.lines.count_earlier.Goals.{then-departure-time, else-departure-time}

pub loop-departure-preserved : goal.loop-departure-preserved
loop-departure-preserved c = elim c.if-departure-time.branch [
  | then-departure-time w ↦
      rw w.earlier-is (counts_one c.args.departures.now _ c.loop-departure.earlier c.loop-departure.departure-index c.requires.order
      c.loop-departure.invariant.0 c.loop-departure-test.true c.loop-departure.invariant.1 c.loop-departure.invariant.2 (search rules))
  | else-departure-time w ↦
      let more = counts_none c.args.departures.now _ c.loop-departure.earlier c.loop-departure.departure-index
      c.loop-departure.invariant.0 c.loop-departure.invariant.2 c.loop-departure-test.true (search rules) in
      rw w.earlier-is (more.0, c.loop-departure.invariant.1, more.1)
]
