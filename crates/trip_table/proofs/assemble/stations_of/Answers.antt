use Rattle.std.proofs.Common.{◌≡◌, ◌∙◌, sym, ap, length, map, [], arith}
use Rattle.gtfs_rows.specs.StopsFile.{StopData}
use Rattle.footpaths.specs.Stops.{platforms, stations}
use Rattle.trip_table.proofs.DayStations.{stations_by, stops_among, stations_none, stations_all, station_lacks, station_gains, station_below}
use Rattle.trip_table.proofs.assemble.stations_of.Goals as goal
use Rattle.trip_table.proofs.assemble.stations_of.Goals.{in-Some+in_ok-add_stop, in_default}

pub loop-p-init : goal.loop-p-init
loop-p-init c =
    c.in_ok-stations.ensures
    ∙ ap (λ rows. map (λ s. record { name = StopData.id s; stops = [] }) (stations rows)) c.rows.ensures
    ∙ stations_none c.args.stops.now 0 (stations c.args.stops.now)

pub loop-p-preserved : goal.loop-p-preserved
loop-p-preserved c =
    let rows = c.args.stops.now in
    let own = c.station_of.ensures in
    elim c.match-station_of.branch [
      | in-Some+in_ok-add_stop w ↦
          let some = sym own ∙ w.in-Some.is in
          rw w.stations-is (station_gains rows c.loop-p.p w.in-Some.n c.loop-p.stations.items (stations rows) w.index_mut.result.now w.add_stop.new.station c.loop-p.invariant (station_below rows c.loop-p.p w.in-Some.n some) some w.index_mut.ensures.value w.in_ok-add_stop.ensures)
      | in_default w ↦ rw w.stations-is (station_lacks rows c.loop-p.p c.loop-p.stations.items (stations rows) c.loop-p.invariant (sym own ∙ w.in_default.is))
    ]

pub returns : goal.returns
returns c =
    let rows = c.args.stops.now in
    let last : c.loop-p.p ≡ length (platforms rows) = omega (arith, c.platforms-p-end.ensures) in
    c.loop-p.invariant ∙ ap (λ count. stations_by (stops_among rows count) 0 (stations rows)) last ∙ stations_all rows 0 (stations rows)
