-- A search whose first segments have been ridden.
use Rattle.std.specs.Prelude.{◌≡◌, ℕ, ◌+◌, ◌<◌, ◌≤◌, ◌⊎◌, length, Some, All, AllPairs, Contains, pos, ◌+ℤ◌}
use Rattle.tb_base.specs.Network.{NetData}
use Rattle.tb_base.specs.TimetableData.{arrival_at}
use Rattle.tb_base.specs.Walking.{walk}
use Rattle.tb_base.specs.BestValues.{IsStep, QueryData}
use Rattle.segment_queue.specs.declared.desk.Hit.{Hit}
use Rattle.segment_queue.specs.Queue.{DeskData}
use Rattle.segment_queue.specs.Traced.{IsTracedHit, round_of, segment_of}
use Rattle.earliest_query.specs.UnderWay.{AreBoarded, Covers, IsFollowed, IsHit, IsArrivalOffered, IsOutdone, IsQueue}

-- all has been made of index i of segment n: each hop from there has been followed, or some hit is
-- no worse than to get there; and some hit is no worse than to alight there
pub record IsIndexServed (N : NetData) (Q : QueryData) (D : DeskData) (n i : ℕ) : Type 0 where
  pub followed : IsFollowed N D n i
      ⊎ IsHit D.hits (record {
        arrive = arrival_at N.table (segment_of D.segments n).trip i;
        rides = round_of D.segments n;
      })
  pub values : (q secs : ℕ) → IsArrivalOffered N.table Q D n i q secs →
      IsHit D.hits
      (record {
        arrive = arrival_at N.table (segment_of D.segments n).trip i +ℤ pos secs;
        rides = round_of D.segments n;
      })

-- The segments before this number have been ridden, and those from it on are of this round.
pub record IsRidden (N : NetData) (Q : QueryData) (D : DeskData) (from round : ℕ) : Type 0 where
  pub queue : IsQueue N Q D round
  pub some_round : 1 ≤ round
  pub few_rounds : round ≤ from + 1
  pub within : from ≤ length D.segments
  pub this_round : (n : ℕ) → from ≤ n → n < length D.segments → round_of D.segments n ≡ round
  -- whoever may be boarded first has been reached
  pub boarded : (place : ℕ) → place < length Q.from → AreBoarded N.table Q D place
  -- all has been made of what they cover, where it isn't outdone
  pub served : (n i : ℕ) → n < from → Covers D n i →
      IsIndexServed N Q D n i ⊎ IsOutdone N D.segments n i
  -- some hit is no worse than each walk
  pub walks : (p q secs : ℕ) → Contains Q.from p → Contains Q.to q → walk N.table p q ≡ Some secs →
      IsHit D.hits (record { arrive = Q.leave +ℤ pos secs; rides = 0 })
  pub traced : All (IsTracedHit N.table Q D.segments) D.hits
  pub stairs : AllPairs (λ (h k : Hit). IsStep h.value k.value) D.hits
  pub fewer : All (λ (h : Hit). h.value.rides < round) D.hits
  pub few_hits : length D.hits ≤ round
