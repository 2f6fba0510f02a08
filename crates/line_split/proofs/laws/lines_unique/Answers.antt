use Rattle.line_split.proofs.OrderLaws.{lines_unique}
use Rattle.line_split.proofs.laws.lines_unique.Goals as goal

pub returns : goal.returns
returns c = lines_unique
