use Rattle.std.proofs.Common.{◌∙◌, ◌<◌, length, sym, subst}
use Rattle.std.specs.Prelude.{All}
use Rattle.tb_base.specs.TimetableData.{TimetableData}
use Rattle.segment_queue.proofs.LineViews.{trips_from-drop, trips_from-inside}
use Rattle.segment_queue.proofs.view.View.trips_onward.Goals as goal

pub onward-requires : goal.onward-requires
onward-requires c =
    let inside : c.args.trip < length c.self.inside.table.now.trips = rw (← c.self.view_is) at c.requires in
    subst (λ (T : TimetableData). c.args.trip < length T.trips) (sym c.self.invariant.0) inside

pub returns-clause-trips : goal.returns-clause-trips
returns-clause-trips c =
    let lines = c.self.inside.lines.now.lines in
    let rest = c.onward.ensures in
    rw (← c.self.view_is) (rest.rest ∙ sym (trips_from-drop lines c.args.trip rest.place.0 rest.place.1 c.soundness.ensures.divided.once rest.stands))

pub returns-clause-there : goal.returns-clause-there
returns-clause-there c =
    let lines = c.self.inside.lines.now.lines in
    let rest = c.onward.ensures in
    let same = rest.rest ∙ sym (trips_from-drop lines c.args.trip rest.place.0 rest.place.1 c.soundness.ensures.divided.once rest.stands) in
    let all : All (λ u. u < length c.self.inside.lines.now.table.trips) _ = trips_from-inside lines c.args.trip _ c.soundness.ensures.divided.trips in
    rw (← c.self.view_is) (subst (λ (T : TimetableData). All (λ u. u < length T.trips) c.onward.result.now) c.self.invariant.0 (subst (λ xs. All (λ u. u < length c.self.inside.lines.now.table.trips) xs) (sym same) all))
