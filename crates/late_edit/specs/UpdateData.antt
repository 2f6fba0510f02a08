-- What is said of a trip.
use Rattle.std.specs.Prelude.{ℕ, ℤ, List}
use Rattle.tb_base.specs.declared.days.ServiceDay.{ServiceDay}

-- a late: the line that says it, the trip's name and service day, the first event that is moved, and
-- by how many seconds
pub record LateData : Type 0 where
  pub line : ℕ
  pub trip : List ℕ
  pub day : ServiceDay
  pub from : ℕ
  pub secs : ℤ

-- a cancelled trip: the line that says it, its name and service day
pub record CancelData : Type 0 where
  pub line : ℕ
  pub trip : List ℕ
  pub day : ServiceDay

-- a skipped stop: the same, and the event
pub record SkipData : Type 0 where
  pub line : ℕ
  pub trip : List ℕ
  pub day : ServiceDay
  pub at : ℕ
