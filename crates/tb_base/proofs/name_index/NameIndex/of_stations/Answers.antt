use Rattle.std.proofs.Common.{◌≡◌, ap, ◌∙◌}
use Rattle.tb_base.proofs.NamePlaces.{is_new, name_added}
use Rattle.tb_base.proofs.name_index.NameIndex.of_stations.Goals as goal

pub push-requires : goal.push-requires
push-requires c =
    let same : c.bytes.result.now ≡ c.station-item.result.name = c.bytes.ensures ∙ ap (λ s. s.name) c.station.view_is in
    rw (same, c.loop-station.invariant) (is_new (λ s. s.name) c.args.stations.now c.loop-station.station-index c.station-item.result c.requires c.loop-station-test.true c.station-item.is)

pub loop-station-preserved : goal.loop-station-preserved
loop-station-preserved c =
    let same : c.bytes.result.now ≡ c.station-item.result.name = c.bytes.ensures ∙ ap (λ s. s.name) c.station.view_is in
    name_added (λ s. s.name) c.args.stations.now c.loop-station.station-index c.station-item.result c.loop-station.index c.push.new.self c.bytes.result.now c.loop-station-test.true c.station-item.is same c.loop-station.invariant c.in_ok-push.ensures
