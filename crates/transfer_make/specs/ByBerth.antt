-- The candidates of an alighting, where lines call.
use Rattle.std.specs.Prelude.{◌≡◌, ℕ, ◌<◌, List, [], length, filter_map, ℤ, pos, negsuc, ◌+ℤ◌, ◌≤ℤ◌, if◌then◌else◌, Option, None, Some, slice_index_or}
use Rattle.std.specs.Option.{option_map, option_and_then}
use Rattle.tb_base.specs.declared.transfer.Hop.{Hop}
use Rattle.tb_base.specs.declared.transfer.Transfer.{Transfer}
use Rattle.tb_base.specs.TimetableData.{TimetableData, events_of, arrival_at}
use Rattle.tb_base.specs.Transfers.{earliest_trip, is_own_line_onward, may_be_boarded}
use Rattle.tb_base.specs.Walking.{change_time}
use Rattle.line_split.specs.declared.lines.Berth.{Berth}
use Rattle.line_split.specs.LinesOf.{StandsAt, berths_at}
use Rattle.transfer_make.specs.declared.alighting.Alighting.{Alighting}

-- an event past the first one of a trip, with its arrival and the place of its trip
pub record IsAlighting (T : TimetableData) (lines : List (List ℕ)) (a : Alighting) : Type 0 where
  pub trip : a.trip < length T.trips
  pub event : a.at < length (events_of T a.trip)
  pub later : 0 < a.at
  pub arr : a.arr ≡ arrival_at T a.trip a.at
  pub earliest : negsuc 86399 ≤ℤ a.arr
  pub latest : a.arr ≤ℤ pos 359999
  pub placed : StandsAt lines a.trip (a.line, a.place)

-- from t@i onto the line where it calls, no earlier than the time: its first trip, unless staying
-- does as well
abbrev pub hop_at : TimetableData → List (List ℕ) → ℕ → ℕ → ℤ → Berth → Option ℕ
hop_at T lines t i time b =
    let line = slice_index_or lines b.line [] in
    if may_be_boarded T (slice_index_or line 0 0) b.at
    then option_and_then (λ u. if is_own_line_onward line t i u b.at then None else Some u)
    (earliest_trip T line b.at time)
    else None

-- the transfer from t@i onto the line where it calls
abbrev pub row_by : TimetableData → List (List ℕ) → ℕ → ℕ → ℤ → Berth → Option Transfer
row_by T lines t i time b =
    option_map (λ u. record { trip = t; at = i; to_trip = u; to_at = b.at })
    (hop_at T lines t i time b)

-- the transfers from t@i onto the lines at stop q, where the change takes so many seconds
abbrev pub rows_at : TimetableData → List (List ℕ) → ℕ → ℕ → ℕ → ℕ → ℤ → List Transfer
rows_at T lines t i q secs arr =
    filter_map (row_by T lines t i (arr +ℤ pos secs)) (berths_at T lines q)

-- those at a stop, where one can change to it
abbrev pub rows_after : TimetableData → List (List ℕ) → ℕ → ℕ → ℕ → ℤ → Option ℕ → List Transfer
rows_after T lines t i q arr None = []
rows_after T lines t i q arr (Some secs) = rows_at T lines t i q secs arr

-- those at the stop itself, where it has a change time
abbrev pub own_rows : TimetableData → List (List ℕ) → ℕ → ℕ → ℕ → ℤ → List Transfer
own_rows T lines t i p arr = rows_after T lines t i p arr (change_time T.footpaths p)
