use Rattle.std.proofs.Common.{◌∙◌, sym, ap, subst, arith}
use Rattle.std.proofs.lemmas.List.{with_items_is}
use Rattle.tb_base.specs.TimetableData.{events_of}
use Rattle.tb_base.specs.Lines.{last_trip}
use Rattle.line_split.specs.Bitmaps.{AreBitmapsOf, AreMarked}
use Rattle.line_split.proofs.BitmapLemmas.{bitmaps_marked}
use Rattle.line_split.proofs.bitmaps.bitmaps_of.Goals as goal

pub loop-place-preserved : goal.loop-place-preserved
loop-place-preserved c =
    let T = c.args.table.now in
    let lines = c.args.lines.now in
    let old = c.loop-place.bitmaps in
    let new = c.mark_in.new.bitmaps in
    let place = c.loop-place.place in
    let own = c.events_of-events.ensures ∙ ap (events_of T) (c.last_trip.ensures ∙ ap last_trip c.row.ensures) in
    let marked = subst (λ es. AreMarked place es old.items new) own (subst (λ bitmaps. AreMarked place c.events_of-events.result.now bitmaps new) c.as_mut_slice.ensures.value c.mark_in.ensures) in
    subst (λ bitmaps. AreBitmapsOf T lines c.args.among.now bitmaps) (sym (with_items_is old new (omega (arith, c.mark_in.ensures.many, c.as_mut_slice.ensures.len))))
    (bitmaps_marked T lines c.args.among.now old.items new place c.loop-place-test.true marked c.loop-place.invariant)
