use Rattle.std.proofs.Common.{◌∙◌, sym, ap, set}
use Rattle.std.proofs.lemmas.List.Edits.{map_over_more}
use Rattle.late_edit.specs.Amended.{closed}
use Rattle.late_edit.proofs.closing.close_all.Goals as goal

pub loop-event-preserved : goal.loop-event-preserved
loop-event-preserved c =
    ap (set c.loop-event.events c.loop-event.event-index) (c.closed.ensures ∙ ap closed (sym c.event-item.is))
    ∙ map_over_more closed c.args.events.now c.loop-event.events c.loop-event.event-index c.event-item.result c.loop-event-test.true c.loop-event.invariant c.event-item.is
