use Rattle.std.proofs.Common.{◌∙◌, ap}
use Rattle.std.specs.Prelude.{is_some}
use Rattle.tb_base.proofs.Found.{found}
use Rattle.footpaths.specs.Stops.{has_stop_id}
use Rattle.footpaths.proofs.StopPlaces.{row_place, few_rows, place_below}
use Rattle.footpaths.proofs.stop_table.StopTable.place.Goals as goal

pub place_of-requires : goal.place_of-requires
place_of-requires c = few_rows c.self.inside.ids c.self.inside.rows.items 100000 c.self.invariant.named c.self.invariant.few

pub returns : goal.returns
returns c =
    let place = c.place_of.ensures ∙ row_place c.self.inside.ids c.self.inside.rows.items c.args.id.now c.self.invariant.named in
    rw (← c.self.view_is) (record {
      place = place;
      there = ap is_some place ∙ found (has_stop_id c.args.id.now) c.self.inside.rows.items;
      few = place_below (has_stop_id c.args.id.now) c.self.inside.rows.items 100000 c.place_of.result place c.self.invariant.few;
    })
