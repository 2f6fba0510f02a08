-- Sets of transfers: a list of hops for each event of a timetable.
use Rattle.std.specs.Prelude.{◌≡◌, ℕ, ◌<◌, ◌==◌, List, [], length, map, filter, slice_index_or, All}
use Rattle.tb_base.specs.declared.transfer.Hop.{Hop}
use Rattle.tb_base.specs.declared.transfer.Transfer.{Transfer}
use Rattle.tb_base.specs.TimetableData.{TimetableData, events_of}

-- the hops of a trip's transfers from event i, in their order
abbrev pub hops_at : List Transfer → ℕ → List Hop
hops_at row i = map (λ r. record { trip = r.to_trip; at = r.to_at }) (filter (λ r. r.at == i) row)

-- the transfers from trip t, none where there is no such trip
abbrev pub row_of : List (List Transfer) → ℕ → List Transfer
row_of rows t = slice_index_or rows t []

-- a transfer from an event of trip t to an event of the timetable
pub record IsTransferOf (T : TimetableData) (t : ℕ) (r : Transfer) : Type 0 where
  pub trip : r.trip ≡ t
  pub at : r.at < length (events_of T t)
  pub to_trip : r.to_trip < length T.trips
  pub to_at : r.to_at < length (events_of T r.to_trip)

-- one list for each trip, of transfers from its events
pub record AreRowsOf (T : TimetableData) (rows : List (List Transfer)) : Type 0 where
  pub long : length rows ≡ length T.trips
  pub own : (t : ℕ) → t < length T.trips → All (IsTransferOf T t) (row_of rows t)

-- the lists of hops of a timetable, by trip and event
pub record ListedHops : Type 0 where
  pub table : TimetableData
  pub lists : List (List (List Hop))

-- the hops from event i of trip t
abbrev pub listed : ListedHops → ℕ → ℕ → List Hop
listed S t i = slice_index_or (slice_index_or S.lists t []) i []

-- each event of the timetable has a list
pub record FitsTable (S : ListedHops) : Type 0 where
  pub trips : length S.lists ≡ length S.table.trips
  pub events : (t : ℕ) → t < length S.table.trips →
      length (slice_index_or S.lists t []) ≡ length (events_of S.table t)
