use Rattle.std.proofs.Common.{◌≡◌, ◌<◌, ◌∙◌, ap, length, vec_len}
use Rattle.std.specs.Prelude.{map}
use Rattle.std.proofs.lemmas.Grind.{common_steps}
use Rattle.std.proofs.Common.{arith}
use Rattle.tb_base.specs.TimetableData.{TripData, events_of}
use Rattle.tb_base.specs.OutSets.{hops_at}
use Rattle.tb_base.proofs.Listing.{from_events, row_is, trip_listed}
use Rattle.tb_base.proofs.rows.Rows.new.Goals as goal

pub of-requires : goal.of-requires
of-requires c =
    let inside : c.loop-t.t < length c.args.table.now.trips = rw (← c.trip_count-t-end.ensures) c.loop-t-test.true in
    let row = row_is (λ v. v.items) c.args.rows.items c.loop-t.t _ c.index.result.now c.as_slice-row.result.now c.requires.long inside c.index.ensures c.as_slice-row.ensures.value in
    let same : vec_len c.behind-table.inside.events ≡ length c.behind-table.inside.events.items = grind (arith, common_steps) in
    let many : c.len-events.result ≡ length (events_of c.args.table.now c.loop-t.t) =
    c.len-events.ensures ∙ (same ∙ (ap (λ (t : TripData). length t.events) c.behind-table.view_is ∙ ap length c.trip.ensures.events)) in
    from_events c.args.table.now (map (λ row. row.items) c.args.rows.items) c.loop-t.t c.len-events.result c.as_slice-row.result.now c.requires inside row many

pub loop-t-preserved : goal.loop-t-preserved
loop-t-preserved c =
    let inside : c.loop-t.t < length c.args.table.now.trips = rw (← c.trip_count-t-end.ensures) c.loop-t-test.true in
    let row = row_is (λ v. v.items) c.args.rows.items c.loop-t.t _ c.index.result.now c.as_slice-row.result.now c.requires.long inside c.index.ensures c.as_slice-row.ensures.value in
    let same : vec_len c.behind-table.inside.events ≡ length c.behind-table.inside.events.items = grind (arith, common_steps) in
    let many : c.len-events.result ≡ length (events_of c.args.table.now c.loop-t.t) =
    c.len-events.ensures ∙ (same ∙ (ap (λ (t : TripData). length t.events) c.behind-table.view_is ∙ ap length c.trip.ensures.events)) in
    trip_listed c.args.table.now (map (λ row. row.items) c.args.rows.items) c.loop-t.t c.loop-t.trips.items c.push.new.self.items c.in_ok-of.field-0 c.loop-t.invariant
    (c.in_ok-of.ensures.long ∙ many) (λ i. c.in_ok-of.ensures.hops i ∙ ap (λ r. hops_at r i) row) c.in_ok-push.ensures.items
