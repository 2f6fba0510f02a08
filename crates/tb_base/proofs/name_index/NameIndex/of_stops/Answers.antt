use Rattle.std.proofs.Common.{◌≡◌}
use Rattle.tb_base.proofs.NamePlaces.{is_new, name_added}
use Rattle.tb_base.proofs.name_index.NameIndex.of_stops.Goals as goal

pub push-requires : goal.push-requires
push-requires c =
    let same : c.bytes.result.now ≡ c.stop-item.result.name = c.bytes.ensures in
    rw (same, c.loop-stop.invariant) (is_new (λ s. s.name) c.args.stops.now c.loop-stop.stop-index c.stop-item.result c.requires c.loop-stop-test.true c.stop-item.is)

pub loop-stop-preserved : goal.loop-stop-preserved
loop-stop-preserved c =
    let same : c.bytes.result.now ≡ c.stop-item.result.name = c.bytes.ensures in
    name_added (λ s. s.name) c.args.stops.now c.loop-stop.stop-index c.stop-item.result c.loop-stop.index c.push.new.self c.bytes.result.now c.loop-stop-test.true c.stop-item.is same c.loop-stop.invariant c.in_ok-push.ensures
