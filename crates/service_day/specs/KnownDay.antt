-- What is kept of a day.
use Rattle.std.specs.Prelude.{◌≡◌, ℕ, ◌<◌, ℤ, true}
use Rattle.gtfs_rows.specs.Dates.{is_date, day_number, weekday_of}

-- a date, with its day number and its day of the week
pub record IsKnown (date : ℕ) (number : ℤ) (weekday : ℕ) : Type 0 where
  pub day : is_date date ≡ true
  pub counted : number ≡ day_number date
  pub named : weekday ≡ weekday_of date
  pub below : weekday < 7
