use Rattle.std.proofs.Common.{◌∙◌, sym, Some, None, true, false, refl}
use Rattle.gtfs_rows.specs.StopsFile.{is_platform, is_station}
use Rattle.footpaths.proofs.StopPlaces.{few_ids, find_stop-by}
use Rattle.footpaths.proofs.stop_table.StopTable.find_near.Goals as goal

pub place_near-requires : goal.place_near-requires
place_near-requires c = few_ids c.self.inside.platforms (λ s. is_platform s.kind) c.self.inside.rows.items 100000 c.self.invariant.platform c.self.invariant.few

pub place_of-requires : goal.place_of-requires
place_of-requires c = few_ids c.self.inside.stations (λ s. is_station s.kind) c.self.inside.rows.items 100000 c.self.invariant.station c.self.invariant.few

pub returns-in-Some : goal.returns-in-Some
returns-in-Some c =
    let rows = c.self.inside.rows.items in
    rw (← c.self.view_is) (find_stop-by rows c.args.id.now c.self.inside.ids c.self.inside.platforms c.self.inside.stations (Some c.in-Some.place) _ _ c.self.invariant.named c.self.invariant.platform c.self.invariant.station c.in-Some.ensures refl refl)

pub returns-in-Some-place_of : goal.returns-in-Some-place_of
returns-in-Some-place_of c =
    let rows = c.self.inside.rows.items in
    rw (← c.self.view_is) (find_stop-by rows c.args.id.now c.self.inside.ids c.self.inside.platforms c.self.inside.stations None (Some c.in-Some-place_of.place) _ c.self.invariant.named c.self.invariant.platform c.self.invariant.station (sym c.in_default.is ∙ c.place_near.ensures) c.in-Some-place_of.ensures refl)

pub returns-then-contains : goal.returns-then-contains
returns-then-contains c =
    let rows = c.self.inside.rows.items in
    rw (← c.self.view_is) (find_stop-by rows c.args.id.now c.self.inside.ids c.self.inside.platforms c.self.inside.stations None None true c.self.invariant.named c.self.invariant.platform c.self.invariant.station (sym c.in_default.is ∙ c.place_near.ensures) (sym c.in_default-place_of.is ∙ c.place_of.ensures) (sym c.if-contains.true ∙ c.contains.ensures))

pub returns : goal.returns
returns c =
    let rows = c.self.inside.rows.items in
    rw (← c.self.view_is) (find_stop-by rows c.args.id.now c.self.inside.ids c.self.inside.platforms c.self.inside.stations None None false c.self.invariant.named c.self.invariant.platform c.self.invariant.station (sym c.in_default.is ∙ c.place_near.ensures) (sym c.in_default-place_of.is ∙ c.place_of.ensures) (sym c.if-contains.false ∙ c.contains.ensures))
