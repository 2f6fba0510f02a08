use Rattle.std.proofs.Common.{◌∙◌, sym, ap, arith, ◌<◌, ◌≤◌, length, [], get_or, Some}
use Rattle.std.specs.Prelude.{slice_get}
use Rattle.std.proofs.lemmas.Int.{to_z-of_z}
use Rattle.std.specs.Int.{w32}
use Rattle.std.proofs.lemmas.Option.{slice_get-get_or, slice_get_past}
use Rattle.line_split.specs.LinesData.{LinesData}
use Rattle.line_split.proofs.DepartureLemmas.{run_ascends, found_at}
use Rattle.line_split.proofs.lines.Lines.boarded.Goals as goal

pub first_from-place-requires : goal.first_from-place-requires
first_from-place-requires c = rw c.boarded_at.ensures (run_ascends c.args.self.now.table c.args.self.now.lines c.args.boarding.now.line c.args.boarding.now.at c.soundness.ensures.divided c.requires.berth.line)

pub returns-then-place-trips : goal.returns-then-place-trips
returns-then-place-trips c =
    let now = c.args.self.now in
    let b = c.args.boarding.now in
    let line = get_or now.lines b.line [] in
    let row = c.row-trips.ensures ∙ ap (λ (l : LinesData). get_or l.lines c.index.result []) c.self.view_is ∙ ap (λ i. get_or now.lines i []) c.index.ensures in
    let found = found_at now.table line c.row-trips.result.now b.at c.first_from-place.result c.args.time _ c.boarded_at.result.now
    (to_z-of_z w32 c.args.time c.ranges.time) c.boarded_at.ensures row c.first_from-place.ensures.earlier c.first_from-place.ensures.from in
    let inside : c.first_from-place.result < length c.row-trips.result.now = omega arith in
    let one = slice_get-get_or c.row-trips.result.now c.first_from-place.result c.index-trips-place.result inside ∙ ap (λ t. Some t) (sym c.index-trips-place.is) in
    (found ∙ one, ap (λ xs. slice_get xs c.first_from-place.result) (sym row) ∙ one)

pub returns-else-place-trips : goal.returns-else-place-trips
returns-else-place-trips c =
    let now = c.args.self.now in
    let b = c.args.boarding.now in
    let line = get_or now.lines b.line [] in
    let row = c.row-trips.ensures ∙ ap (λ (l : LinesData). get_or l.lines c.index.result []) c.self.view_is ∙ ap (λ i. get_or now.lines i []) c.index.ensures in
    let found = found_at now.table line c.row-trips.result.now b.at c.first_from-place.result c.args.time _ c.boarded_at.result.now
    (to_z-of_z w32 c.args.time c.ranges.time) c.boarded_at.ensures row c.first_from-place.ensures.earlier c.first_from-place.ensures.from in
    let past : length c.row-trips.result.now ≤ c.first_from-place.result = omega arith in
    found ∙ slice_get_past c.row-trips.result.now c.first_from-place.result past
