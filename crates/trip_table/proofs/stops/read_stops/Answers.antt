use Rattle.std.proofs.Common.{◌∙◌, sym, subst, List}
use Rattle.std.specs.Prelude.{◌≢◌, [], All}
use Rattle.gtfs_rows.specs.StopsFile.{StopData}
use Rattle.trip_table.proofs.RowFacts.{stops_named}
use Rattle.trip_table.proofs.stops.read_stops.Goals as goal

pub returns-in-Ok-clause-named : goal.returns-in-Ok-clause-named
returns-in-Ok-clause-named g c =
    let h = rw c.in-Ok-Some.field-0-is at c.in-Ok-Some.ensures.some_bytes in
    let e = c.in-Ok.ensures in
    subst (λ (stops : List StopData). All (λ s. StopData.id s ≢ []) stops) (sym (e.0 ∙ c.as_slice.ensures.value)) (stops_named h.0 c.in-Ok-Some.rows.items h.1)
