use Rattle.std.proofs.Common.{◌∙◌, ◌<◌, length, refl, arith}
use Rattle.std.proofs.lemmas.List.{get_or_read}
use Rattle.line_split.proofs.PlaceLemmas.{notes_more}
use Rattle.line_split.proofs.places.note_line.Goals as goal

pub loop-place-preserved : goal.loop-place-preserved
loop-place-preserved c =
    let is = c.index.ensures ∙ get_or_read c.args.trips.now c.loop-place.place c.index-trips-place.result c.loop-place-test.true c.index-trips-place.is 0 in
    let inside : c.index.result < length c.loop-place.places = omega (arith, is, c.requires.trips c.loop-place.place 0 c.loop-place-test.true, c.loop-place.invariant.long) in
    notes_more c.args.line c.args.trips.now c.loop-place.place c.index.result c.args.places.now c.loop-place.places _ c.loop-place-test.true is inside refl c.loop-place.invariant
