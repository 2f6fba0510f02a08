use Rattle.std.proofs.Common.{◌∙◌, ◌++◌, ◌∷◌, [], ap}
use Rattle.tb_base.specs.TimetableData.{StationData}
use Rattle.tb_base.proofs.Copying.{copied, station_is}
use Rattle.tb_base.proofs.timetable.Timetable.copy_stations.Goals as goal

pub loop-n-preserved : goal.loop-n-preserved
loop-n-preserved c =
    let view = c.station.view_is in
    let station = station_is c.station-station.result.now c.in_ok-name.name c.in_ok-stops.stops.items (c.in_ok-name.ensures ∙ (c.bytes.ensures ∙ ap (λ (s : StationData). s.name) view))
    (c.in_ok-stops.ensures.items ∙ (c.as_slice.ensures.value ∙ ap (λ (s : StationData). s.stops) view)) in
    copied c.args.self.now.stations c.loop-n.n c.station-station.result.now c.loop-n.stations.items c.push.new.self.items c.loop-n.invariant c.station-station.ensures.station
    (c.in_ok-push.ensures.items ∙ ap (λ (s : StationData). c.loop-n.stations.items ++ s ∷ []) station)
