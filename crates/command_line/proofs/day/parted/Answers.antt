use Rattle.command_line.proofs.Days.{two_or_more}
use Rattle.command_line.proofs.day.parted.Goals as goal

pub returns-in-len2-up : goal.returns-in-len2-up
returns-in-len2-up c = two_or_more c.args.words.now _ _ c.in-len2-up.len_at_least
