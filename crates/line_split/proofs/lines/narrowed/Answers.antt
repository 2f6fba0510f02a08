use Rattle.std.proofs.Common.{rules, ◌/◌, arith}
use Rattle.line_split.proofs.DepartureLemmas.{halved_up, halved_down}
use Rattle.line_split.proofs.lines.narrowed.Goals as goal
use Rattle.line_split.proofs.lines.narrowed.Goals.{then-departures-from, else-departures-from}

pub loop-count-preserved : goal.loop-count-preserved
loop-count-preserved c = elim c.if-departures-from.branch [
  | then-departures-from w ↦
      rw w.from-is (halved_up c.args.departures.now _ c.loop-count.from c.loop-count.count (c.loop-count.count / 2) c.requires
      (omega (arith, c.loop-count-test.true)) (omega arith) c.loop-count.invariant.0 c.loop-count.invariant.2 (search rules))
  | else-departures-from w ↦
      rw w.from-is (halved_down c.args.departures.now _ c.loop-count.from c.loop-count.count (c.loop-count.count / 2) c.requires
      (omega (arith, c.loop-count-test.true)) (omega arith) c.loop-count.invariant.0 c.loop-count.invariant.1 (search rules))
]
