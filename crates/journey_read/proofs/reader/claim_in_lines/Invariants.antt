use Rattle.std.proofs.Common.{length}
use Rattle.journey_read.proofs.Reading.{IsReadTo}
use Rattle.journey_read.proofs.reader.claim_in_lines.Given as goal

abbrev pub invariant-loop-cut : goal.invariant-loop-cut
invariant-loop-cut l = IsReadTo l.table l.bytes l.text l.reader

abbrev pub decreases-loop-cut : goal.decreases-loop-cut
decreases-loop-cut l = length l.text
