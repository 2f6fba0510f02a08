use Rattle.std.proofs.Common.{length}
use Rattle.lane_serve.proofs.Scripts.{IsReadTo}
use Rattle.lane_serve.proofs.script.read_script.Given as goal

abbrev pub invariant-loop-cut : goal.invariant-loop-cut
invariant-loop-cut l = IsReadTo l.json l.bytes l.text l.reader

abbrev pub decreases-loop-cut : goal.decreases-loop-cut
decreases-loop-cut l = length l.text
