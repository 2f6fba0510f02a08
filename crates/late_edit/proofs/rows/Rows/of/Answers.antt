use Rattle.std.proofs.Common.{◌∙◌}
use Rattle.late_edit.proofs.KeptRows.{edition_lines_are}
use Rattle.late_edit.proofs.rows.Rows.of.Goals as goal

pub add_trips-added-requires-clause-before : goal.add_trips-added-requires-clause-before
add_trips-added-requires-clause-before c = c.in_ok-amendment.ensures.before ∙ (c.new-before.ensures ∙ edition_lines_are c.args.old.now c.lines.result.now (c.lines.ensures.table) c.lines.ensures.lines)

pub add_trips-added-requires-clause-after : goal.add_trips-added-requires-clause-after
add_trips-added-requires-clause-after c = c.in_ok-amendment.ensures.after ∙ c.new-after.ensures
