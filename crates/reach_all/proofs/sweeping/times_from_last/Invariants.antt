use Rattle.std.proofs.Common.{◌≡◌, ◌+◌, ◌-◌, ◌<◌, ◌≤ℤ◌, ℕ, ℤ, length, get_or}
use Rattle.segment_queue.specs.Queue.{Fits}
use Rattle.reach_all.specs.Ranks.{AreTimesAt}
use Rattle.reach_all.specs.Spreading.{everywhere}
use Rattle.reach_all.specs.Swept.{IsSweptDown}
use Rattle.reach_all.proofs.BestTimes.{AreLists}
use Rattle.reach_all.proofs.sweeping.times_from_last.Given as goal

abbrev pub invariant-loop-place : goal.invariant-loop-place
invariant-loop-place g l = record {
  each : length l.lists.items ≡ l.place;
  times : AreLists (λ list. list.items) (λ k xs. (t : ℤ) → AreTimesAt (g.S.Scan.net l.scan).table l.fn.from l.fn.rides (get_or l.departures (length l.departures - 1 - k) t) xs) l.lists.items;
  query : l.query ≡ everywhere l.fn.from l.query.leave;
  later : (k : ℕ) (t : ℤ) → k + l.place < length l.departures → get_or l.departures k t ≤ℤ l.query.leave;
  down : IsSweptDown (g.S.Scan.net l.scan) l.query l.fn.rides l.desk l.swept.sweep l.swept.rounds.items l.swept.arrivals;
  fits : Fits (g.S.Scan.net l.scan).table l.desk;
}
