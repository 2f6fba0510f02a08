use Rattle.std.proofs.Common.{◌∙◌, ap, sym}
use Rattle.std.specs.Prelude.{bytes_eq, position}
use Rattle.gtfs_rows.specs.StopsFile.{StopData, is_platform, is_station}
use Rattle.footpaths.specs.Stops.{parent_station}
use Rattle.footpaths.proofs.StopPlaces.{few_ids, id_place, map_kind_more, kind_same}
use Rattle.footpaths.proofs.stop_table.parents_of.Goals as goal
use Rattle.footpaths.proofs.stop_table.parents_of.Goals.{then-is_platform+in_ok-push, else-is_platform}

pub place_of-requires : goal.place_of-requires
place_of-requires c = few_ids c.args.station_ids.now (λ s. is_station s.kind) c.args.rows.now 100000 c.requires.ids c.requires.few

pub loop-row-preserved : goal.loop-row-preserved
loop-row-preserved c =
    let kind = sym (ap (λ (s : StopData). is_platform s.kind) c.row.view_is) ∙ sym c.is_platform.ensures in
    elim c.if-is_platform.branch [
      | then-is_platform+in_ok-push w ↦
          let id = w.bytes.ensures ∙ ap (λ (s : StopData). s.parent) c.row.view_is in
          let place = w.place_of.ensures ∙ ap (λ id. position (bytes_eq id) c.args.station_ids.now) id ∙ id_place c.args.station_ids.now (λ s. is_station s.kind) c.args.rows.now _ c.requires.ids in
          rw w.parents-is (map_kind_more (parent_station c.args.rows.now) (λ s. is_platform s.kind) c.loop-row.parents.items w.push.new.self.items c.args.rows.now c.loop-row.row-index c.row-item.result w.place_of.result c.loop-row.invariant c.loop-row-test.true c.row-item.is (kind ∙ w.if-is_platform.true) place w.in_ok-push.ensures.items)
      | else-is_platform w ↦ rw (w.parents-is, kind_same (λ (s : StopData). is_platform s.kind) c.args.rows.now c.loop-row.row-index c.row-item.result c.loop-row-test.true c.row-item.is (kind ∙ w.if-is_platform.false)) c.loop-row.invariant
    ]
