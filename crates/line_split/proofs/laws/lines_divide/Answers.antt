use Rattle.line_split.proofs.LineLaws.{lines_divide}
use Rattle.line_split.proofs.laws.lines_divide.Goals as goal

pub returns : goal.returns
returns c = lines_divide
