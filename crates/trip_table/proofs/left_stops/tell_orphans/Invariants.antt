use Rattle.std.proofs.Common.{◌≡◌, ◌++◌, map, take, get_or}
use Rattle.gtfs_rows.specs.StopsFile.{StopData}
use Rattle.trip_table.specs.LeftFeed.{orphan_fault}
use Rattle.trip_table.proofs.left_stops.tell_orphans.Given as goal

abbrev pub invariant-loop-place : goal.invariant-loop-place
invariant-loop-place l = (other : StopData) → l.told.items ≡ l.fn.told.items ++ map (λ place. orphan_fault (get_or l.fn.rows place other)) (take l.place-index l.places)
