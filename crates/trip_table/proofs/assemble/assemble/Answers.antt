use Rattle.std.proofs.Common.{◌≡◌, ◌∙◌, sym, ap, subst, map}
use Rattle.std.specs.Prelude.{IfOk}
use Rattle.tb_base.specs.TimetableData.{TimetableData, FootpathData}
use Rattle.tb_base.specs.Soundness.{IsSound}
use Rattle.trip_table.specs.Day.{DayParts}
use Rattle.trip_table.proofs.SoundDay.{sound_day, parts_are}
use Rattle.trip_table.proofs.assemble.assemble.Goals as goal

pub new-requires : goal.new-requires
new-requires c =
    let day : DayParts = record { stops = c.args.stops.now; footpaths = c.args.paths; trips = c.args.trips.items } in
    let few = c.soundness.ensures.few in
    let checked = c.soundness.ensures.checked in
    let sound = sound_day day c.args.paths few checked c.requires.named c.requires.paths c.requires.many c.requires.law c.requires.trip_count c.requires.event_count c.requires.sound in
    let parts = parts_are day c.args.paths c.rows.result.now c.in_ok-stops.stops.items c.in_ok-stations.stations.items c.rows.ensures c.in_ok-stops.ensures c.in_ok-stations.ensures in
    let inside : FootpathData = record { change = c.paths.inside.change.items; paths = map (λ row. row.items) c.paths.inside.paths.items } in
    let made : FootpathData → TimetableData = λ P. record { stops = c.in_ok-stops.stops.items; stations = c.in_ok-stations.stations.items; trips = c.args.trips.items; footpaths = P } in
    let seen : inside ≡ c.args.paths = c.paths.view_is in
    subst (λ (T : TimetableData). IsSound T) (sym (ap made seen ∙ parts)) sound

pub returns : goal.returns
returns c =
    let day : DayParts = record { stops = c.args.stops.now; footpaths = c.args.paths; trips = c.args.trips.items } in
    let parts = parts_are day c.args.paths c.rows.result.now c.in_ok-stops.stops.items c.in_ok-stations.stations.items c.rows.ensures c.in_ok-stops.ensures c.in_ok-stations.ensures in
    let inside : FootpathData = record { change = c.paths.inside.change.items; paths = map (λ row. row.items) c.paths.inside.paths.items } in
    let made : FootpathData → TimetableData = λ P. record { stops = c.in_ok-stops.stops.items; stations = c.in_ok-stations.stations.items; trips = c.args.trips.items; footpaths = P } in
    let seen : inside ≡ c.args.paths = c.paths.view_is in
    subst (λ (T : TimetableData). IfOk c.new.result (λ table. table ≡ T)) (ap made seen ∙ parts) c.new.ensures
