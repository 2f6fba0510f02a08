use Rattle.std.proofs.Common.{vec_len}
use Rattle.segment_queue.specs.Queue.{Fits}
use Rattle.earliest_query.specs.Sweeping.{IsSweptSoFar}
use Rattle.query_gate.proofs.Walk.{IsWalked}
use Rattle.query_gate.proofs.offers.offers_of.Given as goal

abbrev pub invariant-loop-time : goal.invariant-loop-time
invariant-loop-time g l = record {
  fits : Fits l.table l.desk;
  swept : IsSweptSoFar (g.S.Scan.net l.scan) l.query l.desk l.sweep;
  walked : IsWalked l.table l.window (g.S.Scan.net l.scan).hops l.query l.times.items l.sweep.values l.offers.items;
}

abbrev pub decreases-loop-time : goal.decreases-loop-time
decreases-loop-time g l = vec_len l.times
