-- Parts of the segments of a search.
use Rattle.std.specs.Prelude.{◌≡◌, ℕ, ◌<◌, ◌≤◌, List, length, Contains}
use Rattle.tb_base.specs.Search.{RoundSegment, segment_at}

-- one of the segments, or a first part of it
pub record IsPartOf (segments : List RoundSegment) (p : RoundSegment) : Type 0 where
  pub of : ℕ
  pub inside : of < length segments
  pub trip : p.trip ≡ (segment_at segments of).trip
  pub board : p.board ≡ (segment_at segments of).board
  pub round : p.round ≡ (segment_at segments of).round
  pub end : p.end ≤ (segment_at segments of).end

-- each of these is one of the segments, or a first part of it
abbrev pub ArePartsOf : List RoundSegment → List RoundSegment → Type 0
ArePartsOf segments parts = (p : RoundSegment) → Contains parts p → IsPartOf segments p
