use Rattle.std.proofs.Common.{◌≢◌, [], ap, length, List}
use Rattle.std.specs.Prelude.{All}
use Rattle.footpaths.specs.Stops.{check_stops, stop_id}
use Rattle.gtfs_rows.specs.StopsFile.{StopData}
use Rattle.trip_table.specs.Sieves.{Sieved}
use Rattle.trip_table.specs.LeftFeed.{duplicate_stop}
use Rattle.trip_table.specs.References.{wrong_twice}
use Rattle.trip_table.proofs.LeftRowFacts.{given_has, left_named}
use Rattle.trip_table.proofs.SiftedRight.{sifted_right}
use Rattle.trip_table.proofs.left_stops.left_stops.Goals as goal

pub returns-clause-named : goal.returns-clause-named
returns-clause-named c =
    let read = rw c.in-Ok-Some.field-0-is at c.in-Ok-Some.ensures.good_rows in
    let sifted = ap (λ (s : Sieved (List StopData)). s.end) c.in_ok-distinct.ensures.kept in
    let left = ap (λ (s : Sieved (List StopData)). s.end) c.in_ok-kept.ensures.kept in
    let given = rw c.as_slice.ensures.value at c.table_of.ensures in
    given_has (λ stops. All (λ s. StopData.id s ≢ []) stops) (check_stops c.in_ok-kept.kept.items) c.table_of.result given
    (λ stops checked. left_named read.0 c.in-Ok-Some.rows.items c.in_ok-distinct.distinct.items c.in_ok-kept.kept.items stops (length c.in_ok-distinct.distinct.items) read.1 sifted left checked)

pub without_orphans-requires-clause-apart : goal.without_orphans-requires-clause-apart
without_orphans-requires-clause-apart c =
    let sifted = ap (λ (s : Sieved (List StopData)). s.end) c.in_ok-distinct.ensures.kept in
    sifted_right (wrong_twice stop_id duplicate_stop) c.in-Ok-Some.rows.items c.in_ok-distinct.distinct.items sifted
