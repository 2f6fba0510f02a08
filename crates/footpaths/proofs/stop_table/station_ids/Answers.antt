use Rattle.std.proofs.Common.{◌∙◌, ap, sym}
use Rattle.gtfs_rows.specs.StopsFile.{StopData, is_station}
use Rattle.footpaths.proofs.StopPlaces.{kind_more, kind_same}
use Rattle.footpaths.proofs.stop_table.station_ids.Goals as goal
use Rattle.footpaths.proofs.stop_table.station_ids.Goals.{then-is_station+in_ok-add, else-is_station}

pub loop-row-preserved : goal.loop-row-preserved
loop-row-preserved c =
    let kind = sym (ap (λ (s : StopData). is_station s.kind) c.row.view_is) ∙ sym c.is_station.ensures in
    elim c.if-is_station.branch [
      | then-is_station+in_ok-add w ↦
          let id = w.bytes.ensures ∙ ap (λ (s : StopData). s.id) c.row.view_is in
          let added = rw id at w.in_ok-add.ensures.added in
          let fresh = rw id at w.in_ok-add.ensures.fresh in
          rw w.ids-is (kind_more c.loop-row.ids w.add.new.self (λ s. is_station s.kind) c.args.rows.now c.loop-row.row-index c.row-item.result w.in_ok-add.field-0 c.requires c.loop-row.invariant c.loop-row-test.true c.row-item.is (kind ∙ w.if-is_station.true) added fresh)
      | else-is_station w ↦ rw (w.ids-is, kind_same (λ (s : StopData). is_station s.kind) c.args.rows.now c.loop-row.row-index c.row-item.result c.loop-row-test.true c.row-item.is (kind ∙ w.if-is_station.false)) c.loop-row.invariant
    ]
