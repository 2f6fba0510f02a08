-- The calls of all events, and where the hops of each end.
use Rattle.std.specs.Prelude.{◌≡◌, ℕ, suc, ◌+◌, ◌<◌, List, length, map, slice_index_or}
use Rattle.tb_base.specs.TimetableData.{TimetableData, event_at, events_of}
use Rattle.transfer_pack.specs.declared.calls.Call.{Call}
use Rattle.transfer_pack.specs.declared.set.Spot.{Spot}
use Rattle.transfer_pack.specs.CallsOf.{call_of, no_call}
use Rattle.transfer_pack.specs.PackedCalls.{spot_call}

-- where the hops of each spot end
abbrev pub ends_in : List Spot → List ℕ
ends_in spots = map (λ (s : Spot). s.end) spots

-- the calls that stand beside them
abbrev pub calls_beside : List Spot → List Call
calls_beside spots = map (λ (s : Spot). spot_call s.packed) spots

-- Behind the first, these are the calls of all events, where each trip's begin at its start.
abbrev pub AreCalls : TimetableData → List ℕ → List Call → Type 0
AreCalls T starts calls = (t i : ℕ) → t < length T.trips → i < length (events_of T t) →
    slice_index_or calls (suc (slice_index_or starts t 0 + i)) no_call ≡ call_of (event_at T t i)
