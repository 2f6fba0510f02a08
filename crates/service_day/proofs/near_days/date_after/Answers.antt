use Rattle.service_day.proofs.NearDays.{next_day, next_known, next_month, next_year}
use Rattle.service_day.proofs.near_days.date_after.Goals as goal

pub returns-then-date-last-clause-known : goal.returns-then-date-last-clause-known
returns-then-date-last-clause-known c = next_known c.args.date c.requires (let less = c.if-date-last.true in rw c.last_of-last.ensures at less)

pub returns-then-date-last-clause-number : goal.returns-then-date-last-clause-number
returns-then-date-last-clause-number c = next_day c.args.date c.requires (let less = c.if-date-last.true in rw c.last_of-last.ensures at less)

pub returns-then-month-lt12-clause-number : goal.returns-then-month-lt12-clause-number
returns-then-month-lt12-clause-number c =
    rw c.first_of.ensures (next_month c.args.date c.requires (let past = c.if-date-last.false in rw c.last_of-last.ensures at past) c.if-month-lt12.true)

pub returns-then-year-lt9999-clause-number : goal.returns-then-year-lt9999-clause-number
returns-then-year-lt9999-clause-number c =
    rw c.first_of-then-year-lt9999.ensures (next_year c.args.date c.requires (let past = c.if-date-last.false in rw c.last_of-last.ensures at past) c.if-month-lt12.false)
