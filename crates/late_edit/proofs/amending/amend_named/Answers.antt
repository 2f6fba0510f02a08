use Rattle.std.proofs.Common.{◌≡◌, ◌∙◌, sym, ap, length, arith}
use Rattle.tb_base.specs.TimetableData.{TimetableData, events_of}
use Rattle.late_edit.specs.Amended.{amended}
use Rattle.late_edit.proofs.OnlyEvents.{is_updated, marks_others}
use Rattle.late_edit.proofs.SameEvents.{same_length, same_trip}
use Rattle.late_edit.proofs.amending.amend_named.Goals as goal

pub split_again-requires-clause-trips : goal.split_again-requires-clause-trips
split_again-requires-clause-trips c =
    let made = ap (λ (T : TimetableData). amended T c.args.updates.now) (sym c.table.ensures) ∙ c.in_ok-table.ensures.table in
    ap (λ (T : TimetableData). length T.trips) c.table-2.ensures
    ∙ same_length c.args.old.now.table c.in_ok-table.table (is_updated c.args.old.now.table c.in_ok-table.table c.args.updates.now made)

pub split_again-requires-clause-long : goal.split_again-requires-clause-long
split_again-requires-clause-long c =
    let made = ap (λ (T : TimetableData). amended T c.args.updates.now) (sym c.table.ensures) ∙ c.in_ok-table.ensures.table in
    (marks_others c.args.old.now.table c.in_ok-table.table c.args.updates.now c.args.named.now c.args.marks.now made c.requires.named c.requires.marks).long
    ∙ same_length c.args.old.now.table c.in_ok-table.table (is_updated c.args.old.now.table c.in_ok-table.table c.args.updates.now made)

pub split_again-requires-clause-same : goal.split_again-requires-clause-same
split_again-requires-clause-same c =
    let made = ap (λ (T : TimetableData). amended T c.args.updates.now) (sym c.table.ensures) ∙ c.in_ok-table.ensures.table in
    let others = marks_others c.args.old.now.table c.in_ok-table.table c.args.updates.now c.args.named.now c.args.marks.now made c.requires.named c.requires.marks in
    let long = same_length c.args.old.now.table c.in_ok-table.table (is_updated c.args.old.now.table c.in_ok-table.table c.args.updates.now made) in
    λ t h clear.
    ap (λ (T : TimetableData). events_of T t) c.table-2.ensures
    ∙ same_trip c.args.old.now.table c.in_ok-table.table t (others.same t (omega (arith, h, long)) clear)

pub amended_over-requires-clause-updated : goal.amended_over-requires-clause-updated
amended_over-requires-clause-updated c =
    is_updated c.args.old.now.table c.in_ok-table.table c.args.updates.now (ap (λ (T : TimetableData). amended T c.args.updates.now) (sym c.table.ensures) ∙ c.in_ok-table.ensures.table)

pub amended_over-requires-clause-others : goal.amended_over-requires-clause-others
amended_over-requires-clause-others c =
    marks_others c.args.old.now.table c.in_ok-table.table c.args.updates.now c.args.named.now c.args.marks.now (ap (λ (T : TimetableData). amended T c.args.updates.now) (sym c.table.ensures) ∙ c.in_ok-table.ensures.table) c.requires.named c.requires.marks
