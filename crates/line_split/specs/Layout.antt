-- How the lines of a timetable are laid out, for each thing that is looked up.
use Rattle.std.specs.Prelude.{◌≡◌, ℕ, ◌+◌, ◌-◌, ◌*◌, ◌<◌, ◌≤◌, ◌^◌, List, [], Option, length, map, filter, flat_map, take, drop, ℤ, All, true, slice_index_or}
use Rattle.std.specs.List.{range_with_len}
use Rattle.tb_base.specs.TimetableData.{TimetableData, departure_at}
use Rattle.tb_base.specs.Lines.{AreLines}
use Rattle.tb_base.specs.Transfers.{numbers_below}
use Rattle.line_split.specs.declared.lines.Berth.{Berth}
use Rattle.line_split.specs.declared.boardings.Boarding.{Boarding}
use Rattle.line_split.specs.LinesOf.{IsBerth, IsRestOfLine, StandsAt, berths_at, is_boarded, line_events, trip_before}

-- The trips of each line; for each trip its line and its place in it; all trips, line after line,
-- and for each trip where its line from it on begins and ends there, and the trip just before it;
-- for each stop where lines call, and where they may be boarded; and the departures, line after
-- line and within a line index after index, with the place where each line's begin.
pub record LinesLayout : Type 0 where
  pub lines : List (List ℕ)
  pub places : List (ℕ × ℕ)
  pub in_order : List ℕ
  pub runs : List (ℕ × ℕ)
  pub before : List (Option ℕ)
  pub berths : List (List Berth)
  pub boardings : List (List Boarding)
  pub starts : List ℕ
  pub departures : List ℤ

-- the departures of a line's trips at index j
abbrev pub departures_at : TimetableData → List ℕ → ℕ → List ℤ
departures_at T line j = map (λ u. departure_at T u j) line

-- the departures of a line, index after index
abbrev pub line_departures : TimetableData → List ℕ → List ℤ
line_departures T line =
    flat_map (departures_at T line) (numbers_below (length (line_events T line)))

-- how many departures the first l lines have
abbrev pub start_of : TimetableData → List (List ℕ) → ℕ → ℕ
start_of T lines l = length (flat_map (line_departures T) (take l lines))

-- how many trips the first l lines have
abbrev pub order_start : List (List ℕ) → ℕ → ℕ
order_start lines l = length (flat_map (λ line. line) (take l lines))

-- this run of the trips is a line from trip t on
pub record IsRunFrom (lines : List (List ℕ)) (in_order : List ℕ) (t : ℕ) (run : ℕ × ℕ) : Type 0
  where
    pub ascends : run.0 ≤ run.1
    pub within : run.1 ≤ length in_order
    pub rest : IsRestOfLine lines t (take (run.1 - run.0) (drop run.0 in_order))

-- where the line of a boarding calls
abbrev pub berth_of : Boarding → Berth
berth_of b = record { line = b.line; at = b.at }

-- a line that may be boarded at an index, with the run of its departures there
pub record IsBoarding (T : TimetableData) (lines : List (List ℕ)) (b : Boarding) : Type 0 where
  pub berth : IsBerth T lines (berth_of b)
  pub boarded : is_boarded T lines (berth_of b) ≡ true
  pub start : b.start ≡ start_of T lines b.line + b.at * length (slice_index_or lines b.line [])
  pub count : b.count ≡ length (slice_index_or lines b.line [])

-- these are the boardings where lines call
pub record AreBoardings (T : TimetableData) (lines : List (List ℕ)) (berths : List Berth)
    (row : List Boarding) : Type 0 where
  pub called : map berth_of row ≡ filter (is_boarded T lines) berths
  pub each : All (IsBoarding T lines) row

-- the lines of a timetable, with all that is looked up in them
pub record AreLaidOut (T : TimetableData) (L : LinesLayout) : Type 0 where
  pub lines : AreLines T L.lines
  pub fits : length L.lines < 2 ^ 32
  pub trips : length L.places ≡ length T.trips
  pub places : (t : ℕ) → t < length T.trips →
      StandsAt L.lines t (slice_index_or L.places t (0, 0))
  pub counted : length L.runs ≡ length T.trips
  pub runs : (t : ℕ) → t < length T.trips →
      IsRunFrom L.lines L.in_order t (slice_index_or L.runs t (0, 0))
  pub before : L.before ≡ map (trip_before L.lines) L.places
  pub stops : length L.berths ≡ length T.stops
  pub berths : (q : ℕ) → q < length T.stops →
      slice_index_or L.berths q [] ≡ berths_at T L.lines q
  pub boarded : length L.boardings ≡ length T.stops
  pub boardings : (q : ℕ) → q < length T.stops →
      AreBoardings T L.lines (berths_at T L.lines q) (slice_index_or L.boardings q [])
  pub starts : L.starts ≡ map (start_of T L.lines) (range_with_len 0 (length L.lines))
  pub departures : L.departures ≡ flat_map (line_departures T) L.lines
