use Rattle.std.proofs.Common.{◌∙◌, ap, subst, map, Vec, Global}
use Rattle.tb_base.specs.declared.table.Event.{Event}
use Rattle.service_trips.specs.ServiceDay.{FeedTrips}
use Rattle.service_trips.specs.Sizes.{IsSize}
use Rattle.service_trips.specs.TimetableTrips.{DayRunsData}
use Rattle.service_trips.proofs.DaySteps.{size_more, all_days}
use Rattle.service_trips.proofs.timetable.days_size.Goals as goal

pub loop-day-preserved : goal.loop-day-preserved
loop-day-preserved c = λ rows many.
    let feed : FeedTrips = record { rows = rows; rides = map (λ (ride : Vec Event Global). ride.items) c.args.rides.now; frequencies = c.args.table.now.rows } in
    let is_day = ap (λ (d : DayRunsData). d.day) c.day.view_is in
    let are = c.as_slice.ensures.value ∙ ap (λ (d : DayRunsData). d.runs) c.day.view_is in
    size_more feed c.args.days.now c.loop-day.day-index c.day-item.result _ c.as_slice.result.now c.loop-day.size c.service_size.result c.plus-size.result c.loop-day-test.true c.day-item.is is_day are c.plus-size.ensures
    (c.loop-day.invariant rows many) (c.service_size.ensures rows many)

pub returns : goal.returns
returns c = λ rows many.
    let feed : FeedTrips = record { rows = rows; rides = map (λ (ride : Vec Event Global). ride.items) c.args.rides.now; frequencies = c.args.table.now.rows } in
    subst (λ trips. IsSize trips c.loop-day.size) (all_days feed c.args.days.now c.loop-day.day-index c.loop-day-test.false) (c.loop-day.invariant rows many)
