use Rattle.std.proofs.Common.{◌∙◌, sym, ap, set}
use Rattle.std.proofs.lemmas.List.Edits.{map_over_more}
use Rattle.late_edit.specs.Amended.{delayed}
use Rattle.late_edit.proofs.moves.move_all.Goals as goal

pub loop-event-preserved : goal.loop-event-preserved
loop-event-preserved c =
    let secs = c.args.late.now.secs in
    ap (set c.loop-event.events c.loop-event.event-index) (c.moved.ensures ∙ ap (delayed secs) (sym c.event-item.is))
    ∙ map_over_more (delayed secs) c.args.events.now c.loop-event.events c.loop-event.event-index c.event-item.result c.loop-event-test.true c.loop-event.invariant c.event-item.is
