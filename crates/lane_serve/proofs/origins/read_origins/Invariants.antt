use Rattle.std.proofs.Common.{length}
use Rattle.lane_serve.proofs.OriginLines.{IsNamedTo}
use Rattle.lane_serve.proofs.origins.read_origins.Given as goal

abbrev pub invariant-loop-cut : goal.invariant-loop-cut
invariant-loop-cut l = IsNamedTo l.bytes l.text l.reader

abbrev pub decreases-loop-cut : goal.decreases-loop-cut
decreases-loop-cut l = length l.text
