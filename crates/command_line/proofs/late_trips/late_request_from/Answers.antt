use Rattle.command_line.proofs.Days.{too_few_late}
use Rattle.command_line.proofs.late_trips.late_request_from.Goals as goal

pub returns-in_default : goal.returns-in_default
returns-in_default c = too_few_late c.args.settings c.args.words.now c.in_default.len_below
