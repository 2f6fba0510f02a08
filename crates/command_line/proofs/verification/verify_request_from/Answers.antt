use Rattle.command_line.proofs.Days.{too_few_claimed}
use Rattle.command_line.proofs.verification.verify_request_from.Goals as goal

pub returns-in_default : goal.returns-in_default
returns-in_default c = too_few_claimed c.args.settings c.args.words.now c.in_default.len_below
