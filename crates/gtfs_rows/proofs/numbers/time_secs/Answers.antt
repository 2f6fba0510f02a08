use Rattle.std.proofs.Common.{◌≡◌, ◌∙◌, get_or, arith, rules}
use Rattle.gtfs_rows.specs.Numbers.{time_of}
use Rattle.gtfs_rows.proofs.NumberTests.{eight_timed, seven_timed, secs_by_time}
use Rattle.gtfs_rows.proofs.numbers.time_secs.Goals as goal

pub returns-in-58-clause-time : goal.returns-in-58-clause-time
returns-in-58-clause-time c =
    let text = c.args.text.now in
    let first : get_or text 2 0 ≡ 58 = search rules in
    let second : get_or text 5 0 ≡ 58 = search rules in
    c.clock_secs-in-58.ensures.time ∙ eight_timed text (omega (arith, c.in-58.len_at_least, c.in-58.len_below)) first second

pub returns-in-58-clause-secs : goal.returns-in-58-clause-secs
returns-in-58-clause-secs c = secs_by_time c.clock_secs-in-58.result (time_of c.args.text.now) (returns-in-58-clause-time c)

pub returns-in-58-2-clause-time : goal.returns-in-58-2-clause-time
returns-in-58-2-clause-time c =
    let text = c.args.text.now in
    let first : get_or text 1 0 ≡ 58 = search rules in
    let second : get_or text 4 0 ≡ 58 = search rules in
    c.clock_secs.ensures.time ∙ seven_timed text (omega (arith, c.in-58-2.len_at_least, c.in-58-2.len_below)) first second

pub returns-in-58-2-clause-secs : goal.returns-in-58-2-clause-secs
returns-in-58-2-clause-secs c = secs_by_time c.clock_secs.result (time_of c.args.text.now) (returns-in-58-2-clause-time c)
