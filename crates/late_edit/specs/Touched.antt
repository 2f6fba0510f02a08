-- The trips that a change of times touches.
use Rattle.std.specs.Prelude.{ℕ, ◌==◌, ◌&&◌, ◌||◌, not, Bool, List, length, filter, map, slice_index_or, false, ◌≡◌, ◌<◌}
use Rattle.std.specs.List.{list_any}
use Rattle.std.specs.Ordering.{int_eq}
use lib.Pointwise.{pointwise}
use Rattle.tb_base.specs.declared.table.Event.{Event}
use Rattle.tb_base.specs.declared.transfer.Transfer.{Transfer}
use Rattle.tb_base.specs.Lines.{same_mark}
use Rattle.tb_base.specs.TimetableData.{TimetableData, events_of}
use Rattle.tb_base.specs.Transfers.{candidates, numbers_below, transfers_of}
use Rattle.tb_laws.specs.Rows.{transfer_by_hop}
use Rattle.line_split.specs.LinesData.{LinesData}

-- two events have the same stop, times and marks
abbrev pub same_event : Event → Event → Bool
same_event e f =
    (e.stop == f.stop) && int_eq e.arr f.arr && int_eq e.dep f.dep
    && same_mark e.board f.board && same_mark e.alight f.alight

-- trip t has other events in the two timetables
abbrev pub has_other_events : TimetableData → TimetableData → ℕ → Bool
has_other_events T U t = not (pointwise same_event (events_of T t) (events_of U t))

-- two transfers lead from the same event to the same event
abbrev pub same_transfer : Transfer → Transfer → Bool
same_transfer r s =
    (r.trip == s.trip) && (r.at == s.at) && (r.to_trip == s.to_trip) && (r.to_at == s.to_at)

-- the candidates of trip t, from its last event down
abbrev pub candidates_of : LinesData → ℕ → List Transfer
candidates_of L t = transfers_of L.table (candidates L.table L.lines t) t

-- Trip t is touched by the change from one timetable with its lines to another: it has other events,
-- or another list of candidates, or a trip in that list has other events.
abbrev pub is_touched : LinesData → LinesData → ℕ → Bool
is_touched L M t =
    has_other_events L.table M.table t
    || not (pointwise same_transfer (candidates_of L t) (candidates_of M t))
    || list_any (λ r. has_other_events L.table M.table r.to_trip) (candidates_of L t)

-- the candidates of event i of trip t
abbrev pub candidates_at : LinesData → ℕ → ℕ → List Transfer
candidates_at L t i = map (transfer_by_hop t i) (candidates L.table L.lines t i)

-- event i of trip t touches it: it has other candidates, or a trip among them has other events
abbrev pub is_touched_at : LinesData → LinesData → ℕ → ℕ → Bool
is_touched_at L M t i =
    not (pointwise same_transfer (candidates_at L t i) (candidates_at M t i))
    || list_any (λ r. has_other_events L.table M.table r.to_trip) (candidates_at L t i)

-- how many trips are touched
abbrev pub touched_count : LinesData → LinesData → ℕ
touched_count L M = length (filter (is_touched L M) (numbers_below (length L.table.trips)))

-- for each trip, whether it has other events
pub record TellsOtherEvents (T U : TimetableData) (others : List Bool) : Type 0 where
  pub long : length others ≡ length T.trips
  pub told : (t : ℕ) → t < length T.trips →
      slice_index_or others t false ≡ has_other_events T U t

-- each trip without a mark has the same events in the two timetables
pub record MarksOthers (T U : TimetableData) (marks : List Bool) : Type 0 where
  pub long : length marks ≡ length T.trips
  pub same : (t : ℕ) → t < length T.trips → slice_index_or marks t false ≡ false →
      has_other_events T U t ≡ false
