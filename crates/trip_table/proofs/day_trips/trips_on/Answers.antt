use Rattle.std.proofs.Common.{◌∙◌, ◌≡◌, ap, sym, subst, length, map}
use Rattle.std.specs.Prelude.{All}
use Rattle.std.proofs.lemmas.Result.{IfOk-weaker}
use Rattle.footpaths.specs.Stops.{platforms}
use Rattle.service_trips.specs.TimetableTrips.{DayRunsData}
use Rattle.trip_table.specs.Day.{runs_of}
use Rattle.trip_table.proofs.DayTrips.{date_first, trips_meant}
use Rattle.trip_table.proofs.day_trips.trips_on.Goals as goal

pub timetable_trips-requires-clause-others : goal.timetable_trips-requires-clause-others
timetable_trips-requires-clause-others c =
    let all = c.in_ok-others.ensures.long in
    let many = c.in-Ok.ensures.long in
    subst (All (λ d. length (DayRunsData.runs d) ≡ length c.in-Ok.rides.items)) (sym c.as_slice-2.ensures.value) (λ i d below. all i d below ∙ sym many)

pub returns-clause-trips : goal.returns-clause-trips
returns-clause-trips c =
    let days = date_first c.args.rows.now c.args.date.now c.args.horizon c.as_slice.result.now c.as_slice-2.result.now (c.as_slice.ensures.value ∙ c.in_ok-runs.ensures.runs)
    (c.as_slice-2.ensures.value ∙ c.in_ok-others.ensures.runs ∙ ap (map (runs_of c.args.rows.now c.args.date.now)) c.other_days.ensures) in
    trips_meant (λ trips. trips.items) c.args.rows.now c.args.frequencies.now.rows c.args.date.now c.args.horizon c.rows-trips.result.now _ _ c.timetable_trips.result (c.rows-trips.ensures.rows ∙ c.trips.ensures) c.in-Ok.ensures.rides days c.timetable_trips.ensures.meant

pub returns-clause-sound : goal.returns-clause-sound
returns-clause-sound c =
    IfOk-weaker c.timetable_trips.result _ _ (λ trips sound. sound (length (platforms c.args.rows.now.stops)) c.in-Ok.ensures.sound) c.timetable_trips.ensures.sound
