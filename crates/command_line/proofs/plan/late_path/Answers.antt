use Rattle.command_line.proofs.LatePath.{path_behind}
use Rattle.command_line.proofs.plan.late_path.Goals as goal

pub returns : goal.returns
returns c = path_behind c.args.word.now c.strip_prefix.result c.strip_prefix.ensures.cases
