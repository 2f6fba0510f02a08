use Rattle.line_split.proofs.LineLaws.{lines_divide}
use Rattle.line_split.proofs.lines.Lines.soundness.Goals as goal

pub returns-clause-divided : goal.returns-clause-divided
returns-clause-divided c = rw (← c.self.view_is) (lines_divide c.self.inside.table.value c.self.inside.lines c.self.invariant.lines)
