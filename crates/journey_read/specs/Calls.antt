-- The calls of a trip by stop and time.
use Rattle.std.specs.Prelude.{◌≡◌, ℕ, ◌+◌, ◌<◌, ◌≤◌, ◌==◌, ◌&&◌, ℤ, Bool, List, length, All, Contains, Option, None, IfSome, MatchOption, slice_index_or}
use Rattle.std.specs.List.Sorted.{IsSorted}
use Rattle.std.specs.Ordering.{int_cmp, int_eq, nat_cmp, ordering_then}
use Rattle.std.specs.declared.cmp.Ordering.{Ordering}
use Rattle.tb_base.specs.declared.table.Event.{Event}
use Rattle.tb_base.specs.TimetableData.{TripData, no_event, no_trip}
use Rattle.journey_read.specs.declared.calls.Call.{Call}
use Rattle.journey_read.specs.declared.calls.EventTime.{EventTime}
use Rattle.journey_read.specs.declared.calls.EventTime.TheVariants as which
use Rattle.journey_read.specs.declared.calls.TripCalls.{TripCalls}
use Rattle.journey_read.specs.declared.rides.Ends.{Ends}

-- the order of calls: by their stops, then by their times, then by their indexes
abbrev pub compare_calls : Call → Call → Ordering
compare_calls c d =
    ordering_then (ordering_then (nat_cmp c.stop d.stop) (int_cmp c.time d.time))
    (nat_cmp c.at d.at)

-- a call has the stop and the time of another
abbrev pub is_at : Call → Call → Bool
is_at c d = (c.stop == d.stop) && int_eq c.time d.time

-- one of the two times of an event
abbrev pub time_by : EventTime → Event → ℤ
time_by which.Departure e = e.dep
time_by which.Arrival e = e.arr

-- the call at an event, by its index, with one of its times
abbrev pub call_at : (Event → ℤ) → List Event → ℕ → Call
call_at time events i = record {
  stop = (slice_index_or events i no_event).stop;
  time = time (slice_index_or events i no_event);
  at = i;
}

-- the calls at the first n events, in any order
pub record AreCalls (time : Event → ℤ) (events : List Event) (n : ℕ) (calls : List Call) : Type 0 where
  pub each : (i : ℕ) → i < n → Contains calls (call_at time events i)
  pub real : All (λ c. (c.at < n) × (c ≡ call_at time events c.at)) calls

-- all calls, in order
pub record AreInOrder (time : Event → ℤ) (events : List Event) (calls : List Call) : Type 0 where
  pub all : AreCalls time events (length events) calls
  pub order : IsSorted compare_calls calls

-- the calls of a trip with these events, by departure and by arrival
pub record HoldsCalls (events : List Event) (calls : TripCalls) : Type 0 where
  pub departures : AreInOrder (time_by which.Departure) events calls.departures.items
  pub arrivals : AreInOrder (time_by which.Arrival) events calls.arrivals.items

-- for each trip its calls, or nothing
pub record HaveCalls (trips : List TripData) (calls : List (Option TripCalls)) : Type 0 where
  pub many : length calls ≡ length trips
  pub each : (t : ℕ) → t < length calls →
      IfSome (slice_index_or calls t None)
      (HoldsCalls (TripData.events (slice_index_or trips t no_trip)))

-- the call with the same stop and time, at another index
abbrev pub moved_call : Call → ℕ → Call
moved_call c i = record { stop = c.stop; time = c.time; at = i }

-- the least index, no less than that of a call, at which a call has its stop and time
abbrev pub IsFirstCall : List Call → Call → Option ℕ → Type 0
IsFirstCall calls wanted result =
    MatchOption result
    ((i : ℕ) → wanted.at ≤ i → Contains calls (moved_call wanted i) → ⊥)
    (λ at. (wanted.at ≤ at) × Contains calls (moved_call wanted at)
    × ((i : ℕ) → wanted.at ≤ i → Contains calls (moved_call wanted i) → at ≤ i))

-- the first call at which a ride can begin
abbrev pub first_begin : Ends → Call
first_begin ends = record { stop = ends.from; time = ends.departure; at = 0 }

-- the first at which it can end, where it begins at an index
abbrev pub first_end : Ends → ℕ → Call
first_end ends board = record { stop = ends.to; time = ends.arrival; at = board + 1 }
