use Rattle.std.proofs.Common.{◌∙◌, ◌++◌, ◌∷◌, [], ap}
use Rattle.edition_store.proofs.Trips.{event_more}
use Rattle.edition_store.proofs.turned_trips.mirrored_events.Goals as goal

pub loop-i-preserved : goal.loop-i-preserved
loop-i-preserved c =
    event_more c.events-events.result.now c.loop-i.i c.index-events-back.result c.loop-i.mirrored.items c.push.new.self.items c.loop-i-test.true c.index-events-back.is c.loop-i.invariant
    (c.in_ok-push.ensures.items ∙ ap (λ e. c.loop-i.mirrored.items ++ e ∷ []) c.mirrored_event.ensures)
