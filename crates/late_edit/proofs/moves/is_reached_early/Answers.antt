use Rattle.std.proofs.Common.{◌≡◌, ◌<◌, ◌≤◌, ◌∙◌, ap, length, arith}
use Rattle.std.specs.Prelude.{int_lt}
use Rattle.late_edit.specs.UpdateData.{LateData}
use Rattle.late_edit.specs.Amended.{is_reached_early, delayed, moved_from}
use Rattle.late_edit.proofs.MovedEvents.{early_is}
use Rattle.late_edit.proofs.moves.is_reached_early.Goals as goal

pub returns-then-from-gt0 : goal.returns-then-from-gt0
returns-then-from-gt0 c =
    let late = c.args.late.now in
    let events = c.args.events.now in
    let from : c.late.inside.from ≡ late.from = ap (λ (l : LateData). l.from) c.late.view_is in
    let inside : late.from < length events = c.requires.from in
    let within : c.late.inside.from ≤ length events = omega (arith, inside, from) in
    let early = early_is c.late.inside.from late.secs events within c.index-events-from.result c.index-events-from-then-from-gt0.result c.if-from-gt0.true (omega (arith, inside, from)) in
    let arr = c.moved.ensures ∙ ap (delayed late.secs) c.index-events-from.is in
    let dep = c.index-events-from-then-from-gt0.is in
    c.is_before.ensures ∙ ((λ i. int_lt (arr i).arr (dep i).dep) ∙ (early ∙ ap (λ k. is_reached_early (moved_from k late.secs events) k) from))
