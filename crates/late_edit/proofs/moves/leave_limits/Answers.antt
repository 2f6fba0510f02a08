use Rattle.std.proofs.Common.{◌≡◌, ◌∙◌, sym, ap, get_or, true}
use Rattle.late_edit.specs.Amended.{has_time_outside, delayed}
use Rattle.late_edit.proofs.MovedEvents.{outside_at}
use Rattle.late_edit.proofs.moves.leave_limits.Goals as goal

pub returns-then-has_time_outside : goal.returns-then-has_time_outside
returns-then-has_time_outside c =
    let events = c.args.events.now in
    let secs = c.args.late.now.secs in
    let e = c.event-item.result in
    let i = c.loop-event.event-index in
    let at : has_time_outside (delayed secs (get_or events i e)) ≡ true =
    ap (λ x. has_time_outside (delayed secs x)) (sym c.event-item.is) ∙ (ap has_time_outside (sym c.moved.ensures) ∙ sym c.if-has_time_outside.ensures) in
    sym (outside_at secs events i e c.loop-event-test.true at)
