use Rattle.gtfs_rows.proofs.ClockTests.{clock_read}
use Rattle.gtfs_rows.proofs.numbers.eight_secs.Goals as goal

pub returns-clause-time : goal.returns-clause-time
returns-clause-time c = let a = c.two_digits-hours.ensures in let b = c.two_digits-minutes.ensures in let d = c.two_digits-seconds.ensures in rw (a, b, d) (clock_read c.args.text.now c.requires.eight c.requires.clock)
