use Rattle.std.proofs.Common.{arith, rules}
use Rattle.command_line.proofs.LastAt.{parted_last}
use Rattle.command_line.proofs.plan.planned_day.Goals as goal

pub returns-in_err-dir : goal.returns-in_err-dir
returns-in_err-dir c =
    let split = parted_last 64 c.args.word.now _ c.rsplit_once.ensures.cases (omega arith) in
    rw (← split) (grind rules)

pub returns-then-is_empty : goal.returns-then-is_empty
returns-then-is_empty c =
    let split = parted_last 64 c.args.word.now _ c.rsplit_once.ensures.cases (omega arith) in
    rw (← split) (grind rules)

pub returns-in-Ok : goal.returns-in-Ok
returns-in-Ok c =
    let split = parted_last 64 c.args.word.now _ c.rsplit_once.ensures.cases (omega arith) in
    rw (← split) (grind rules)

pub returns-in-Err : goal.returns-in-Err
returns-in-Err c =
    let split = parted_last 64 c.args.word.now _ c.rsplit_once.ensures.cases (omega arith) in
    rw (← split) (grind rules)
