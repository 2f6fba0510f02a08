-- Where one is by when, by the earliest arrivals at the stops and on foot from there.
use Rattle.std.specs.Prelude.{◌≡◌, ◌⊎◌, ◌↔◌, ℕ, ◌<◌, ◌≤◌, List, length, ℤ, pos, ◌+ℤ◌, ◌≤ℤ◌, Option, None, Some, IsSomeAnd, IsTrue, filter, drop, ◌+◌, slice_index_or}
use Rattle.tb_base.specs.declared.table.Event.{Event}
use Rattle.tb_base.specs.declared.transfer.Transfer.{Transfer}
use Rattle.tb_base.specs.TimetableData.{TimetableData, event_at, events_of}
use Rattle.tb_base.specs.Walking.{walk}
use Rattle.tb_laws.specs.Labels.{label}

-- by these times, one a stop, one is at stop p by the time
abbrev pub IsBy : List (Option ℤ) → ℕ → ℤ → Type 0
IsBy times p time = IsSomeAnd (slice_index_or times p None) (λ t. t ≤ℤ time)

-- the same, on foot from some stop
pub record IsReachedOnFoot (T : TimetableData) (times : List (Option ℤ)) (p : ℕ) (time : ℤ) : Type 0
  where
    pub from : ℕ
    pub since : ℤ
    pub secs : ℕ
    pub there : slice_index_or times from None ≡ Some since
    pub way : walk T from p ≡ Some secs
    pub in_time : (since +ℤ pos secs) ≤ℤ time

-- one is at every stop by a time exactly where these alternatives bring one there by then
abbrev pub AreShown : TimetableData → List (Option ℤ) → List (List Event) → Type 0
AreShown T times earlier = (p : ℕ) (time : ℤ) → p < length T.stops →
    IsReachedOnFoot T times p time ↔ IsSomeAnd (label (walk T) earlier p) (λ y. y ≤ℤ time)

-- where one may alight from trip t between two indexes one is by then
abbrev pub AreReached : TimetableData → List (Option ℤ) → ℕ → ℕ → ℕ → Type 0
AreReached T times t from to = (i : ℕ) → from ≤ i → i < to → IsTrue (event_at T t i).alight →
    IsReachedOnFoot T times (event_at T t i).stop (event_at T t i).arr

-- one may alight from trip t between two indexes, at stop p by the time
pub record IsAlighting (T : TimetableData) (t from to p : ℕ) (time : ℤ) : Type 0 where
  pub at : ℕ
  pub first : from ≤ at
  pub last : at < to
  pub alights : IsTrue (event_at T t at).alight
  pub stop : (event_at T t at).stop ≡ p
  pub by : (event_at T t at).arr ≤ℤ time

-- besides what was so before, one is at a stop by a time where one may so alight
abbrev pub AreLowered : TimetableData → ℕ → ℕ → ℕ → List (Option ℤ) → List (Option ℤ) → Type 0
AreLowered T t from to before after = (p : ℕ) (time : ℤ) →
    IsBy after p time ↔ (IsBy before p time ⊎ IsAlighting T t from to p time)

-- the events where one may alight from the trip that a transfer leads to
abbrev pub hop_alightings : TimetableData → Transfer → List Event
hop_alightings T r = filter (λ e. e.alight) (drop (r.to_at + 1) (events_of T r.to_trip))
