-- A day of a feed.
use Rattle.std.specs.Prelude.{ℕ, List}

-- a directory of the folder that has a feed, and the day
pub record FeedDayData : Type 0 where
  pub dir : List ℕ
  pub day : ℕ
