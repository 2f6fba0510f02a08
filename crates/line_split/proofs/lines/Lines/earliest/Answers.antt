use Rattle.std.proofs.Common.{◌∙◌, sym, ap, arith, ◌<◌, ◌≤◌, length, [], get_or, Some}
use Rattle.std.proofs.lemmas.Int.{to_z-of_z}
use Rattle.std.specs.Int.{w32}
use Rattle.std.proofs.lemmas.Option.{slice_get-get_or, slice_get_past}
use Rattle.tb_base.specs.Transfers.{earliest_trip}
use Rattle.line_split.specs.LinesData.{LinesData}
use Rattle.line_split.proofs.DepartureLemmas.{run_ascends, found_at}
use Rattle.line_split.proofs.lines.Lines.earliest.Goals as goal

pub departures_at-requires-clause-at : goal.departures_at-requires-clause-at
departures_at-requires-clause-at c = rw c.requires.table c.requires.at

pub first_from-place-requires : goal.first_from-place-requires
first_from-place-requires c = rw c.departures_at.ensures (run_ascends c.args.self.now.table c.args.self.now.lines c.args.line c.args.at c.soundness.ensures.divided c.requires.line)

pub returns-then-place-trips : goal.returns-then-place-trips
returns-then-place-trips c =
    let now = c.args.self.now in
    let line = get_or now.lines c.args.line [] in
    let row = c.row-trips.ensures ∙ ap (λ (l : LinesData). get_or l.lines c.index.result []) c.self.view_is ∙ ap (λ i. get_or now.lines i []) c.index.ensures in
    let found = found_at now.table line c.row-trips.result.now c.args.at c.first_from-place.result c.args.time _ c.departures_at.result.now
    (to_z-of_z w32 c.args.time c.ranges.time) c.departures_at.ensures row c.first_from-place.ensures.earlier c.first_from-place.ensures.from in
    let inside : c.first_from-place.result < length c.row-trips.result.now = omega arith in
    sym (ap (λ T. earliest_trip T line c.args.at c.args.time) (sym c.requires.table) ∙ found ∙ slice_get-get_or c.row-trips.result.now c.first_from-place.result c.index-trips-place.result inside ∙ ap (λ t. Some t) (sym c.index-trips-place.is))

pub returns-else-place-trips : goal.returns-else-place-trips
returns-else-place-trips c =
    let now = c.args.self.now in
    let line = get_or now.lines c.args.line [] in
    let row = c.row-trips.ensures ∙ ap (λ (l : LinesData). get_or l.lines c.index.result []) c.self.view_is ∙ ap (λ i. get_or now.lines i []) c.index.ensures in
    let found = found_at now.table line c.row-trips.result.now c.args.at c.first_from-place.result c.args.time _ c.departures_at.result.now
    (to_z-of_z w32 c.args.time c.ranges.time) c.departures_at.ensures row c.first_from-place.ensures.earlier c.first_from-place.ensures.from in
    let past : length c.row-trips.result.now ≤ c.first_from-place.result = omega arith in
    sym (ap (λ T. earliest_trip T line c.args.at c.args.time) (sym c.requires.table) ∙ found ∙ slice_get_past c.row-trips.result.now c.first_from-place.result past)
