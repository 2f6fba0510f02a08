use Rattle.std.proofs.Common.{◌∙◌, ap, map, Vec, Global}
use Rattle.tb_base.specs.declared.table.Event.{Event}
use Rattle.service_trips.specs.ServiceDay.{FeedTrips}
use Rattle.service_trips.specs.TimetableTrips.{DayRunsData}
use Rattle.service_trips.proofs.DaySteps.{trips_more, all_days}
use Rattle.service_trips.proofs.timetable.days_trips.Goals as goal

pub loop-day-preserved : goal.loop-day-preserved
loop-day-preserved c =
    let feed : FeedTrips = record { rows = c.args.rows.now; rides = map (λ (ride : Vec Event Global). ride.items) c.args.rides.now; frequencies = c.args.table.now.rows } in
    let is_day = ap (λ (d : DayRunsData). d.day) c.day.view_is in
    let are = c.as_slice-runs.ensures.value ∙ ap (λ (d : DayRunsData). d.runs) c.day.view_is in
    trips_more feed c.args.days.now c.loop-day.day-index c.day-item.result _ c.as_slice-runs.result.now c.loop-day.trips.items c.add_trips.new.trips.items c.loop-day-test.true c.day-item.is is_day are c.loop-day.invariant
    c.in_ok-add_trips.ensures

pub returns : goal.returns
returns c =
    let feed : FeedTrips = record { rows = c.args.rows.now; rides = map (λ (ride : Vec Event Global). ride.items) c.args.rides.now; frequencies = c.args.table.now.rows } in
    c.loop-day.invariant ∙ all_days feed c.args.days.now c.loop-day.day-index c.loop-day-test.false
