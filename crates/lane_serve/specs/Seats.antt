-- Lanes that have run.
use Rattle.std.specs.Prelude.{◌≡◌, ℕ, List, ◌<◌, length, slice_index_or}
use Rattle.lane_serve.specs.Script.{LaneData}
use Rattle.lane_serve.specs.Served.{HasRun}
use Rattle.lane_serve.specs.declared.run.Seated.{Seated}

-- each lane has run, at its own seat
pub record HaveRun {J : Type 0} (lanes : List LaneData) (seats : List (Seated J)) : Type 0 where
  pub len : length seats ≡ length lanes
  pub at : (i : ℕ) (l : LaneData) (d : Seated J) → i < length lanes →
      HasRun (LaneData.lines (slice_index_or lanes i l)) (slice_index_or seats i d).caller.kept
      (slice_index_or seats i d).replies
