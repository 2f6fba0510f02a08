-- Where segments are clipped.
use Rattle.std.specs.Prelude.{◌≡◌, ℕ, ◌-◌, ◌<◌, ◌≤◌, List, Option, Some, slice_get, slice_index_or}
use Rattle.tb_base.specs.Network.{NetData}
use Rattle.segment_queue.specs.declared.desk.Segment.{Segment}
use Rattle.segment_queue.specs.Queue.{IsClipped}

-- by these ends the segments with numbers from one up to another are clipped, in order
abbrev pub AreClipped : NetData → List (Option ℕ) → List Segment → ℕ → ℕ → List ℕ → Type 0
AreClipped N marks segments from to ends = (n : ℕ) (s : Segment) → from ≤ n → n < to →
    slice_get segments n ≡ Some s → IsClipped N marks s (slice_index_or ends (n - from) 0)
