-- A day of a feed that words name.
use Rattle.std.specs.Prelude.{ℕ}
use Rattle.clap.specs.Words.{Text}

-- a day of a feed: the folder, and the date
pub record PlannedDayData : Type 0 where
  pub dir : Text
  pub date : ℕ
