-- When one can leave an origin for a first ride.
use Rattle.std.specs.Prelude.{◌≡◌, ℕ, ◌+◌, ◌<◌, ◌⊎◌, List, length, slice_index_or, ℤ, pos, ◌+ℤ◌, ◌≤ℤ◌, ◌<ℤ◌, Option, Some, All, AllPairs, Contains}
use Rattle.std.specs.Option.{option_map}
use Rattle.tb_base.specs.Network.{NetData}
use Rattle.tb_base.specs.TimetableData.{TimetableData, departure_at, events_of, stop_at, MayBoard}
use Rattle.tb_base.specs.Walking.{walk}
use Rattle.tb_base.specs.Profiles.{WindowData}
use Rattle.tb_base.specs.declared.transfer.Hop.{Hop}
use Rattle.segment_queue.specs.Scans.{boarding_hop, line_indices_at, no_line_index}

-- a trip departs at the stop at the time, may be boarded there and goes on
pub record DepartsAt (T : TimetableData) (stop : ℕ) (time : ℤ) : Type 0 where
  pub trip : ℕ
  pub board : ℕ
  pub boards : MayBoard T trip board
  pub not_last : board + 1 < length (events_of T trip)
  pub here : stop_at T trip board ≡ stop
  pub departs : departure_at T trip board ≡ time

-- when the hop departs by which the line index with this number is boarded at the stop, from the
-- time on
abbrev pub line_departure : NetData → ℕ → ℤ → ℕ → Option ℤ
line_departure N stop time berth =
    option_map (λ (h : Hop). departure_at N.table h.trip h.at)
    (boarding_hop N.table
    (slice_index_or (line_indices_at N.table N.lines stop) berth no_line_index) time)

-- who leaves the origin at the time comes on foot to a stop just when a trip departs
pub record LeavesFor (T : TimetableData) (origin : ℕ) (time : ℤ) : Type 0 where
  pub stop : ℕ
  pub secs : ℕ
  pub walks : walk T origin stop ≡ Some secs
  pub departs : DepartsAt T stop (time +ℤ pos secs)

-- a leaving time: so it is from one of the origins
abbrev pub IsLeavingTime : TimetableData → List ℕ → ℤ → Type 0
IsLeavingTime T origins time = (origin : ℕ) × Contains origins origin × LeavesFor T origin time

-- a time within the window
abbrev pub IsWithin : WindowData → ℤ → Type 0
IsWithin W time = (W.first ≤ℤ time) × (time ≤ℤ W.last)

-- just at the time one departs at the stop by the line index with this number
abbrev pub IsLineDeparture : NetData → ℕ → ℕ → ℤ → Type 0
IsLineDeparture N stop berth time = line_departure N stop time berth ≡ Some time

-- all times of which P holds, and no others, have joined these, in any order and number
pub record HaveJoined (P : ℤ → Type 0) (old new : List ℤ) : Type 0 where
  pub kept : (time : ℤ) → Contains old time → Contains new time
  pub further : (time : ℤ) → Contains new time → Contains old time ⊎ P time
  pub complete : (time : ℤ) → P time → Contains new time

-- a leaving time within the window, before the end
pub record IsLeavingBefore (T : TimetableData) (W : WindowData) (end time : ℤ) : Type 0 where
  pub leaves : IsLeavingTime T W.from time
  pub not_before : W.first ≤ℤ time
  pub not_after : time ≤ℤ W.last
  pub before : time <ℤ end

-- the leaving times within the window that are before the end, all of them, in order
pub record AreLeavingTimes (T : TimetableData) (W : WindowData) (end : ℤ)
    (times : List ℤ) : Type 0 where
  pub all : All (IsLeavingBefore T W end) times
  pub complete : (time : ℤ) → IsLeavingBefore T W end time → Contains times time
  pub ordered : AllPairs (λ m n. m <ℤ n) times
