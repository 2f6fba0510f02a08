use Rattle.std.proofs.Common.{◌<◌, ◌∙◌, sym, ap, length, map}
use Rattle.std.specs.Prelude.{Err}
use Rattle.std.specs.List.{list_any}
use Rattle.late_edit.specs.Amended.{has_time_outside, delayed}
use Rattle.late_edit.specs.UpdateData.{LateData}
use Rattle.late_edit.specs.declared.late.LateFault.TheVariants as fault
use Rattle.late_edit.proofs.MovedEvents.{is_moved, rest_is, leaves_limits, over_a_day, runs_back}
use Rattle.late_edit.proofs.moves.check_move.Goals as goal
use Rattle.late_edit.proofs.moves.check_move.Goals.{then-is_over_a_day-via-then-is_over_a_day, then-is_over_a_day-via-else-is_over_a_day+then-leave_limits}

pub returns-then-is_over_a_day-clause-fault : goal.returns-then-is_over_a_day-clause-fault
returns-then-is_over_a_day-clause-fault c =
    let late = c.args.late.now in
    let events = c.args.events.now in
    let from = ap (λ (l : LateData). l.from) c.late.view_is in
    let line = ap (λ (l : LateData). Err (fault.OutOfRange l.line)) (sym c.late.view_is) in
    let inside : late.from < length events = rw (← c.late.view_is) c.if-from-events.false in
    elim c.then-is_over_a_day.branch [
      | then-is_over_a_day-via-then-is_over_a_day w ↦ over_a_day late events inside (sym c.is_over_a_day.ensures ∙ w.if-is_over_a_day.true) ∙ line
      | then-is_over_a_day-via-else-is_over_a_day+then-leave_limits w ↦
          let rest = ap (λ es. list_any has_time_outside (map (delayed late.secs) es)) (sym (rest_is events c.late.inside.from late.from from)) in
          leaves_limits late events inside (sym c.is_over_a_day.ensures ∙ w.if-is_over_a_day.false) (rest ∙ (sym w.leave_limits.ensures ∙ w.if-leave_limits.true)) ∙ line
    ]

pub returns-then-is_reached_early-clause-fault : goal.returns-then-is_reached_early-clause-fault
returns-then-is_reached_early-clause-fault c =
    let late = c.args.late.now in
    let events = c.args.events.now in
    let from = ap (λ (l : LateData). l.from) c.late.view_is in
    let inside : late.from < length events = rw (← c.late.view_is) c.if-from-events.false in
    let rest = ap (λ es. list_any has_time_outside (map (delayed late.secs) es)) (sym (rest_is events c.late.inside.from late.from from)) in
    runs_back late events inside (sym c.is_over_a_day.ensures ∙ c.if-is_over_a_day.false) (rest ∙ (sym c.leave_limits.ensures ∙ c.if-leave_limits.false)) (sym c.is_reached_early.ensures ∙ c.if-is_reached_early.true)
    ∙ ap (λ (l : LateData). Err (fault.TimeRunsBack l.line)) (sym c.late.view_is)

pub returns-clause-fault : goal.returns-clause-fault
returns-clause-fault c =
    let late = c.args.late.now in
    let events = c.args.events.now in
    let from = ap (λ (l : LateData). l.from) c.late.view_is in
    let inside : late.from < length events = rw (← c.late.view_is) c.if-from-events.false in
    let rest = ap (λ es. list_any has_time_outside (map (delayed late.secs) es)) (sym (rest_is events c.late.inside.from late.from from)) in
    is_moved late events inside (sym c.is_over_a_day.ensures ∙ c.if-is_over_a_day.false) (rest ∙ (sym c.leave_limits.ensures ∙ c.if-leave_limits.false)) (sym c.is_reached_early.ensures ∙ c.if-is_reached_early.false)
