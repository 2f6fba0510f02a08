use Rattle.std.proofs.Common.{◌≡◌, ◌∙◌, ◌<◌, ap, sym, length, arith, false}
use Rattle.tb_base.specs.TimetableData.{TimetableData, events_of}
use Rattle.line_split.specs.LinesData.{LinesData}
use Rattle.late_edit.specs.Touched.{has_other_events}
use Rattle.late_edit.specs.Updated.{AmendmentData}
use Rattle.late_edit.proofs.TouchedEvents.{touched, untouched}
use Rattle.late_edit.proofs.amendment.Amendment.is_touched.Goals as goal

pub returns-then-touched : goal.returns-then-touched
returns-then-touched c =
    let L = c.args.self.now.before in
    let M = c.args.self.now.after in
    let same : has_other_events L.table M.table c.args.trip ≡ false = ap (λ (d : AmendmentData). has_other_events d.before.table d.after.table c.args.trip) (sym c.self.view_is) ∙ (sym c.has_other_events.ensures ∙ c.if-has_other_events.false) in
    let many : c.event_count-at-end.result ≡ length (events_of L.table c.args.trip)
    = c.event_count-at-end.ensures ∙ ap (λ (N : LinesData). length (events_of N.table c.args.trip)) (c.before-2.ensures ∙ ap (λ (d : AmendmentData). d.before) c.self.view_is) in
    let below : c.loop-at.at < length (events_of L.table c.args.trip) = omega (arith, c.loop-at-test.true, many) in
    sym (touched L M c.args.trip same c.loop-at.at below (sym c.in_ok-touched.ensures ∙ c.if-touched.true))

pub returns : goal.returns
returns c =
    let L = c.args.self.now.before in
    let M = c.args.self.now.after in
    let same : has_other_events L.table M.table c.args.trip ≡ false = ap (λ (d : AmendmentData). has_other_events d.before.table d.after.table c.args.trip) (sym c.self.view_is) ∙ (sym c.has_other_events.ensures ∙ c.if-has_other_events.false) in
    let many : c.event_count-at-end.result ≡ length (events_of L.table c.args.trip)
    = c.event_count-at-end.ensures ∙ ap (λ (N : LinesData). length (events_of N.table c.args.trip)) (c.before-2.ensures ∙ ap (λ (d : AmendmentData). d.before) c.self.view_is) in
    sym (untouched L M c.args.trip same (λ i below. c.loop-at.invariant i (omega (arith, below, many, c.loop-at-test.false))))
