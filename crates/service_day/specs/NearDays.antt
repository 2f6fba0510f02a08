-- The days near a day, all as the numbers that their eight digits write.
use Rattle.std.specs.Prelude.{ℕ, ◌+◌, ◌-◌, ◌*◌, ◌/◌, ◌%◌, nat_lt, pos, Option, Some, None, option_and_then, if◌then◌else◌}
use Rattle.jiff_core.specs.Calendar.{days_in_month}
use Rattle.tb_base.specs.declared.days.ServiceDay.{ServiceDay}
use Rattle.tb_base.specs.declared.days.ServiceDay.TheVariants as day

-- the last day of a month
abbrev pub last_of : ℕ → ℕ → ℕ
last_of year month = year * 10000 + month * 100 + days_in_month (pos year) month

-- the day before in its month, or the last day of the month before, or that of the year before; the
-- first day of the year 1 has none
abbrev pub day_before : ℕ → Option ℕ
day_before date =
    if nat_lt 1 (date % 100) then Some (date - 1)
    else if nat_lt 1 (date / 100 % 100) then Some (last_of (date / 10000) (date / 100 % 100 - 1))
    else if nat_lt 1 (date / 10000) then Some (last_of (date / 10000 - 1) 12)
    else None

-- the first day of a month
abbrev pub first_of : ℕ → ℕ → ℕ
first_of year month = year * 10000 + month * 100 + 1

-- the day after in its month, or the first day of the month after, or that of the year after; the
-- last day of the year 9999 has none
abbrev pub day_after : ℕ → Option ℕ
day_after date =
    if nat_lt date (last_of (date / 10000) (date / 100 % 100)) then Some (date + 1)
    else if nat_lt (date / 100 % 100) 12
    then Some (first_of (date / 10000) (date / 100 % 100 + 1))
    else if nat_lt (date / 10000) 9999 then Some (first_of (date / 10000 + 1) 1)
    else None

-- the date of a service day of a timetable whose own date is given, if there is such a date
abbrev pub date_of_day : ServiceDay → ℕ → Option ℕ
date_of_day day.Before date = day_before date
date_of_day day.Date date = Some date
date_of_day day.After date = day_after date
date_of_day day.SecondAfter date = option_and_then day_after (day_after date)
