use Rattle.std.proofs.Common.{map, ◌∷◌, List, Vec, Global}
use Rattle.std.specs.Prelude.{Ok, Err}
use Rattle.std.proofs.lemmas.List.Elements.{All-map}
use Rattle.tb_base.specs.declared.days.ServiceDay.TheVariants as day
use Rattle.tb_base.specs.declared.table.Event.{Event}
use Rattle.service_trips.specs.Rides.{IsSoundRide}
use Rattle.service_trips.specs.ServiceDay.{FeedTrips, service_trips}
use Rattle.service_trips.specs.TimetableTrips.{DayRunsData, shown, timetable_trips}
use Rattle.service_trips.proofs.Meant.{beyond_meant, size_meant}
use Rattle.service_trips.proofs.SoundTrips.{timetable_sound}
use Rattle.service_trips.proofs.timetable.timetable_trips.Goals as goal

pub returns-in-Some-clause-meant : goal.returns-in-Some-clause-meant
returns-in-Some-clause-meant c =
    let feed : FeedTrips = record { rows = c.args.rows.now; rides = map (λ (ride : Vec Event Global). ride.items) c.args.rides.items; frequencies = c.args.table.now.rows } in
    let days : List DayRunsData = record { day = day.Date; runs = c.args.runs.now } ∷ c.args.others.now in
    let check = rw c.deref.ensures.value at (c.in-Some.ensures c.args.rows.now) in
    beyond_meant feed days c.in-Some.fault check

pub returns-in-Some-fault-clause-meant : goal.returns-in-Some-fault-clause-meant
returns-in-Some-fault-clause-meant c =
    let feed : FeedTrips = record { rows = c.args.rows.now; rides = map (λ (ride : Vec Event Global). ride.items) c.args.rides.items; frequencies = c.args.table.now.rows } in
    let days : List DayRunsData = record { day = day.Date; runs = c.args.runs.now } ∷ c.args.others.now in
    let check = rw c.deref.ensures.value at (c.in_default.ensures c.args.rows.now) in
    let own = rw c.deref-2.ensures.value at c.service_size-own.ensures in
    let behind = rw c.deref-3.ensures.value at c.days_size.ensures in
    let size = c.plus-size.ensures (shown day.Date (service_trips feed c.args.runs.now)) (timetable_trips feed c.args.others.now) (own c.args.rows.now c.requires.rows) (behind c.args.rows.now c.requires.rows) in
    size_meant feed days (Err c.in-Some-fault.fault) check (c.in-Some-fault.ensures (timetable_trips feed days) size)

pub returns-in-Ok-clause-meant : goal.returns-in-Ok-clause-meant
returns-in-Ok-clause-meant c =
    let feed : FeedTrips = record { rows = c.args.rows.now; rides = map (λ (ride : Vec Event Global). ride.items) c.args.rides.items; frequencies = c.args.table.now.rows } in
    let days : List DayRunsData = record { day = day.Date; runs = c.args.runs.now } ∷ c.args.others.now in
    let check = rw c.deref.ensures.value at (c.in_default.ensures c.args.rows.now) in
    let own = rw c.deref-2.ensures.value at c.service_size-own.ensures in
    let behind = rw c.deref-3.ensures.value at c.days_size.ensures in
    let size = c.plus-size.ensures (shown day.Date (service_trips feed c.args.runs.now)) (timetable_trips feed c.args.others.now) (own c.args.rows.now c.requires.rows) (behind c.args.rows.now c.requires.rows) in
    rw c.in-Ok.ensures (size_meant feed days (Ok (timetable_trips feed days)) check (c.in_default-fault.ensures (timetable_trips feed days) size))

pub returns-in-Ok-clause-sound : goal.returns-in-Ok-clause-sound
returns-in-Ok-clause-sound c = λ stops sound.
    let feed : FeedTrips = record { rows = c.args.rows.now; rides = map (λ (ride : Vec Event Global). ride.items) c.args.rides.items; frequencies = c.args.table.now.rows } in
    let days : List DayRunsData = record { day = day.Date; runs = c.args.runs.now } ∷ c.args.others.now in
    let check = rw c.deref.ensures.value at (c.in_default.ensures c.args.rows.now) in
    rw c.in-Ok.ensures (timetable_sound stops feed days (All-map (IsSoundRide stops) (λ (ride : Vec Event Global). ride.items) c.args.rides.items sound) check)
