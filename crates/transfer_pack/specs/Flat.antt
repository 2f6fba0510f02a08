-- The calls of all trips, one behind the other.
use Rattle.std.specs.Prelude.{◌≡◌, ℕ, suc, ◌+◌, ◌<◌, ◌≤◌, List, length, slice_index_or}
use Rattle.tb_base.specs.TimetableData.{TimetableData, event_at, events_of}
use Rattle.transfer_pack.specs.declared.calls.Call.{Call}
use Rattle.transfer_pack.specs.CallsOf.{call_of, no_call}

-- these are the calls of the first n trips: those of each begin at its bound, and end at the next
pub record AreFlat (T : TimetableData) (n : ℕ) (bounds : List ℕ) (calls : List Call) : Type 0 where
  pub long : length bounds ≡ suc n
  pub ends : (t : ℕ) → t < n →
      slice_index_or bounds (suc t) 0 ≡ slice_index_or bounds t 0 + length (events_of T t)
  pub inside : (t : ℕ) → t < n →
      slice_index_or bounds t 0 + length (events_of T t) ≤ length calls
  pub each : (t i : ℕ) → t < n → i < length (events_of T t) →
      slice_index_or calls (slice_index_or bounds t 0 + i) no_call ≡ call_of (event_at T t i)
