use Rattle.std.proofs.Common.{◌≡◌, ◌∙◌, ◌<◌, ap, length, arith}
use Rattle.tb_base.specs.TimetableData.{TimetableData, events_of}
use Rattle.tb_base.specs.Transfers.{kept_hops}
use Rattle.transfer_pack.specs.Packed.{packed}
use Rattle.late_edit.proofs.KeptRows.{hops_counted, none_counted}
use Rattle.late_edit.proofs.rows.kept_count.Goals as goal

pub returns-then-events-eq0 : goal.returns-then-events-eq0
returns-then-events-eq0 c =
    let e = c.args.edition.now in
    none_counted e.table (kept_hops e.table e.lines c.args.trip) c.args.trip c.event_count-events.result
    (c.event_count-events.ensures ∙ ap (λ (T : TimetableData). length (events_of T c.args.trip)) c.set-set.ensures.table) c.if-events-eq0.true

pub returns : goal.returns
returns c =
    let e = c.args.edition.now in
    let some : 0 < c.event_count-events.result = omega (arith, c.if-events-eq0.false) in
    c.count.ensures ∙ (ap length c.hops_over.ensures
    ∙ hops_counted e.table (kept_hops e.table e.lines c.args.trip) (packed c.set-set.result.now c.args.trip) c.args.trip c.event_count-events.result
    (c.event_count-events.ensures ∙ ap (λ (T : TimetableData). length (events_of T c.args.trip)) c.set-set.ensures.table) some (c.set-set.ensures.kept c.args.trip))
