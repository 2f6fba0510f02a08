use Rattle.std.proofs.Common.{◌≡◌, ◌∙◌, ap, length, map, arith, Bool}
use Rattle.std.proofs.lemmas.Grind.{common_steps}
use Rattle.std.specs.Prelude.{bytes_eq}
use Rattle.std.specs.List.{list_any}
use Rattle.gtfs_rows.specs.TripsFile.{TripData}
use Rattle.service_day.specs.Running.{runs}
use Rattle.trip_table.specs.References.{ServiceData}
use Rattle.std.proofs.lemmas.Result.{IfOk-weaker}
use Rattle.trip_table.proofs.DayTrips.{map_same}
use Rattle.trip_table.proofs.day_trips.runs_on.Goals as goal

pub returns-clause-runs : goal.returns-clause-runs
returns-clause-runs c =
    let rows : c.rows.result.now ≡ c.args.rows.now.trips = c.rows.ensures.rows ∙ c.trips.ensures in
    let calendar : c.as_slice.result.now ≡ c.args.rows.now.services.calendar =
    c.as_slice.ensures.value ∙ ap (λ (s : ServiceData). s.calendar) c.found.view_is ∙ ap (λ (s : ServiceData). s.calendar) c.services-found.ensures in
    let dates : c.as_slice-2.result.now ≡ c.args.rows.now.services.dates =
    c.as_slice-2.ensures.value ∙ ap (λ (s : ServiceData). s.dates) c.found.view_is ∙ ap (λ (s : ServiceData). s.dates) c.services-found.ensures in
    let g : TripData → Bool = λ t. list_any (bytes_eq t.service) c.in_ok-services.services in
    let h : TripData → Bool = λ t. runs c.args.day.now c.args.rows.now.services.calendar c.args.rows.now.services.dates t.service in
    IfOk-weaker c.services_run.result _ _
    (λ found same. same ∙ ap (λ ts. map g ts) rows ∙ map_same g h c.args.rows.now.trips (λ t. rw (← calendar, ← dates) (c.in_ok-services.ensures t.service)))
    c.services_run.ensures

pub returns-clause-long : goal.returns-clause-long
returns-clause-long c =
    let rows = ap length (c.rows.ensures.rows ∙ c.trips.ensures) in
    IfOk-weaker c.services_run.result _ _ (λ found same. let many = ap length same in grind (arith, common_steps, many, rows)) c.services_run.ensures

pub returns-clause-few : goal.returns-clause-few
returns-clause-few c =
    let rows = ap length c.rows.ensures.rows in
    let few = c.rows.ensures.few in
    IfOk-weaker c.services_run.result _ _ (λ found same. let many = ap length same in grind (arith, common_steps, many, rows, few)) c.services_run.ensures
