-- The service days whose trips a timetable has, as seen from its date.
use Rattle.std.specs.Prelude.{ℕ, List, [], ◌∷◌, codes, bytes_eq, Bool, Option, Some, None, ℤ, pos, negsuc, if◌then◌else◌}
use Rattle.std.specs.Ordering.{int_eq}
use Rattle.tb_base.specs.declared.days.ServiceDay.{ServiceDay}
use Rattle.tb_base.specs.declared.days.ServiceDay.TheVariants as day
use Rattle.tb_base.specs.declared.days.Horizon.{Horizon}
use Rattle.tb_base.specs.declared.days.Horizon.TheVariants as horizon

-- how many days a service day is after the date
abbrev pub days_after : ServiceDay → ℤ
days_after day.Before = negsuc 0
days_after day.Date = pos 0
days_after day.After = pos 1
days_after day.SecondAfter = pos 2

-- the seconds that times of a service day gain when they are told as times of the date
abbrev pub seconds_after : ServiceDay → ℤ
seconds_after day.Before = negsuc 86399
seconds_after day.Date = pos 0
seconds_after day.After = pos 86400
seconds_after day.SecondAfter = pos 172800

-- two service days are the same
abbrev pub same_day : ServiceDay → ServiceDay → Bool
same_day a b = int_eq (days_after a) (days_after b)

-- the service day that a word names
abbrev pub day_named : List ℕ → Option ServiceDay
day_named word =
    if bytes_eq word (codes "day-before") then Some day.Before
    else if bytes_eq word (codes "day-after") then Some day.After
    else if bytes_eq word (codes "day+2") then Some day.SecondAfter
    else None

-- the service day that the words behind a trip name: the date itself where there are none
abbrev pub day_by : List (List ℕ) → Option ServiceDay
day_by [] = Some day.Date
day_by (word ∷ []) = day_named word
day_by (word ∷ more ∷ words) = None

-- the service days beside its date: the days after it up to the horizon, and then the day before
abbrev pub other_days : Horizon → List ServiceDay
other_days horizon.OneDay = day.Before ∷ []
other_days horizon.TwoDays = day.After ∷ day.Before ∷ []
other_days horizon.ThreeDays = day.After ∷ day.SecondAfter ∷ day.Before ∷ []

-- the service days whose trips a timetable has, in the order in which it has them
abbrev pub service_days : Horizon → List ServiceDay
service_days horizon = day.Date ∷ other_days horizon
