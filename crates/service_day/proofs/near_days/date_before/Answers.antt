use Rattle.std.proofs.Common.{arith, ◌-◌, ◌/◌, ◌%◌}
use Rattle.service_day.proofs.NearDays.{good, earlier_day, earlier_month, earlier_year, last_known}
use Rattle.service_day.proofs.near_days.date_before.Goals as goal

pub returns-then-date-gt1-clause-number : goal.returns-then-date-gt1-clause-number
returns-then-date-gt1-clause-number c = earlier_day c.args.date c.requires c.if-date-gt1.true

pub returns-then-month-gt1-clause-known : goal.returns-then-month-gt1-clause-known
returns-then-month-gt1-clause-known c =
    let g = good c.args.date c.requires in
    rw c.last_of.ensures
    (last_known (c.args.date / 10000) (c.args.date / 100 % 100 - 1) g.year_low g.year_high (omega (arith, c.if-month-gt1.true)) (omega (arith, g.month_high)))

pub returns-then-month-gt1-clause-number : goal.returns-then-month-gt1-clause-number
returns-then-month-gt1-clause-number c =
    rw c.last_of.ensures (earlier_month c.args.date c.requires c.if-date-gt1.false c.if-month-gt1.true)

pub returns-then-year-gt1-clause-number : goal.returns-then-year-gt1-clause-number
returns-then-year-gt1-clause-number c =
    rw c.last_of-then-year-gt1.ensures (earlier_year c.args.date c.requires c.if-date-gt1.false c.if-month-gt1.false c.if-year-gt1.true)
