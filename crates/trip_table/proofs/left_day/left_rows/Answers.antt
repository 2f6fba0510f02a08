use Rattle.std.proofs.Common.{map}
use Rattle.std.specs.Prelude.{option_map}
use Rattle.trip_table.proofs.LeftDaySteps.{times_end, trips_end}
use Rattle.trip_table.proofs.left_day.left_rows.Goals as goal

pub returns-in-Err-left_trips-clause-rows : goal.returns-in-Err-left_trips-clause-rows
returns-in-Err-left_trips-clause-rows c =
    let texts = map (option_map (λ v. v.items)) c.args.texts.now in
    let first = rw c.text_at.ensures.text at c.in-Ok.ensures.left in
    let second = rw (c.text_at-2.ensures.text, c.text_at-3.ensures.text) at c.in-Ok-left_services.ensures in
    let third = rw c.text_at-4.ensures.text at c.in-Err-left_trips.ensures in
    trips_end texts c.args.told.now.items c.left_stops.new.told.items c.left_services.new.told.items c.left_trips.new.told.items c.in-Ok.stops c.in-Ok-left_services.services c.in-Err-left_trips.fault first second third

pub returns-in-Err-left_times-clause-rows : goal.returns-in-Err-left_times-clause-rows
returns-in-Err-left_times-clause-rows c =
    let texts = map (option_map (λ v. v.items)) c.args.texts.now in
    let first = rw c.text_at.ensures.text at c.in-Ok.ensures.left in
    let second = rw (c.text_at-2.ensures.text, c.text_at-3.ensures.text) at c.in-Ok-left_services.ensures in
    let third = rw c.text_at-4.ensures.text at c.in-Ok-left_trips.ensures in
    let fourth = rw c.text_at-5.ensures.text at c.in-Err-left_times.ensures.left in
    times_end texts c.args.told.now.items c.left_stops.new.told.items c.left_services.new.told.items c.left_trips.new.told.items c.left_times.new.told.items c.in-Ok.stops c.in-Ok-left_services.services c.in-Ok-left_trips.trips c.in-Err-left_times.fault first second third fourth

pub returns-in-Ok-left_times-clause-gone : goal.returns-in-Ok-left_times-clause-gone
returns-in-Ok-left_times-clause-gone c = rw c.of_parts-rows.ensures (rw c.text_at-5.ensures.text at c.in-Ok-left_times.ensures.gone)
