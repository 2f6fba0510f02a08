use Rattle.std.proofs.Common.{◌∙◌, [], ap, get_or, length}
use Rattle.std.specs.Prelude.{sum_by}
use Rattle.edition_store.specs.Mirror.{IsMirror}
use Rattle.edition_store.proofs.Sound.{if_ok, is_mirror, is_sound}
use Rattle.edition_store.proofs.mirrored.mirror.Goals as goal

pub new-requires : goal.new-requires
new-requires c = is_sound c.args.table.now _ c.soundness.ensures (record {
  stops = c.in_ok-copy_stops.ensures;
  stations = c.in_ok-copy_stations.ensures;
  trips = c.in_ok-mirrored_trips.ensures;
  change = c.in_ok-copy_change_times.ensures;
  rows = ap length c.into_rows.ensures ∙ c.in_ok-of.ensures.stops;
  paths = λ q inside. ap (λ rows. get_or rows q []) c.into_rows.ensures ∙ c.in_ok-of.ensures.rows q inside;
  total = ap (sum_by (λ row. length row)) c.into_rows.ensures ∙ c.in_ok-of.ensures.total;
})

pub returns : goal.returns
returns c = if_ok (IsMirror c.args.table.now) _ c.new.result c.new.ensures (is_mirror c.args.table.now _ c.soundness.ensures (record {
  stops = c.in_ok-copy_stops.ensures;
  stations = c.in_ok-copy_stations.ensures;
  trips = c.in_ok-mirrored_trips.ensures;
  change = c.in_ok-copy_change_times.ensures;
  rows = ap length c.into_rows.ensures ∙ c.in_ok-of.ensures.stops;
  paths = λ q inside. ap (λ rows. get_or rows q []) c.into_rows.ensures ∙ c.in_ok-of.ensures.rows q inside;
  total = ap (sum_by (λ row. length row)) c.into_rows.ensures ∙ c.in_ok-of.ensures.total;
}))
