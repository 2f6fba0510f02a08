-- Travel times from some origins to every stop, over several departures.
use Rattle.std.specs.Prelude.{◌≡◌, ℕ, ◌+◌, ◌*◌, ◌/◌, ◌<◌, ◌≤◌, ◌↔◌, List, Bool, false, ℤ, pos, ◌+ℤ◌, ◌≤ℤ◌, int_le, Option, Some, None, IfSome, length, count_by, is_some, slice_index_or}
use Rattle.tb_base.specs.declared.query.Value.{Value}
use Rattle.tb_base.specs.BestValues.{IsAttained, IsLeast}
use Rattle.tb_base.specs.TimetableData.{TimetableData}
use Rattle.reach_all.specs.Reach.{query_to}
use Rattle.reach_all.specs.declared.departures.Departures.{Departures}
use Rattle.reach_all.specs.declared.figures.Figures.{Figures}

-- the times of departures, in order
pub record AreDepartures (d : Departures) (times : List ℤ) : Type 0 where
  pub each : (k : ℕ) (t : ℤ) → k < length times →
      slice_index_or times k t ≡ d.first +ℤ pos (k * d.step)
  pub all : (k : ℕ) → (k < length times) ↔ ((d.first +ℤ pos (k * d.step)) ≤ℤ d.last)

-- at most so many rides, where there is a limit
abbrev pub IsWithin : Option ℕ → ℕ → Type 0
IsWithin most rides = IfSome most (λ n. rides ≤ n)

-- A journey to the stop that leaves no earlier than the departure, with no more rides than the
-- limit, arrives so many seconds after the departure.
abbrev pub Takes : TimetableData → List ℕ → Option ℕ → ℤ → ℕ → ℤ → Type 0
Takes T from most leave stop secs = (v : Value) × IsAttained T (query_to from leave stop) v
    × IsWithin most v.rides × (v.arrive ≡ leave +ℤ secs)

-- the travel time of a departure: the least of them
abbrev pub IsTravelTime : TimetableData → List ℕ → Option ℕ → ℤ → ℕ → Option ℤ → Type 0
IsTravelTime T from most leave stop time = IsLeast (Takes T from most leave stop) time

-- the travel times of a stop, one a departure
pub record AreTravelTimes (T : TimetableData) (from : List ℕ) (most : Option ℕ)
    (departures : List ℤ) (stop : ℕ) (times : List (Option ℤ)) : Type 0 where
  pub each_departure : length times ≡ length departures
  pub travel : (k : ℕ) (t : ℤ) (o : Option ℤ) → k < length departures →
      IsTravelTime T from most (slice_index_or departures k t) stop (slice_index_or times k o)

-- a travel time, and one of at most so many seconds
abbrev pub is_within : ℤ → Option ℤ → Bool
is_within secs None = false
is_within secs (Some time) = int_le time secs

-- The travel time of a rank, by length and counted from 1: the least in which so many departures
-- reach the stop. None if there are fewer, so one that doesn't reach it counts as the greatest.
abbrev pub IsRanked : ℕ → List (Option ℤ) → Option ℤ → Type 0
IsRanked rank times time = IsLeast (λ secs. rank ≤ count_by (is_within secs) times) time

-- the least rank that is no less than so many percent of all
abbrev pub nearest_rank : ℕ → ℕ → ℕ
nearest_rank percent count = (percent * count + 99) / 100

abbrev pub IsPercentile : ℕ → List (Option ℤ) → Option ℤ → Type 0
IsPercentile percent times time = IsRanked (nearest_rank percent (length times)) times time

-- the figures of travel times, one a departure
pub record AreFigures (times : List (Option ℤ)) (f : Figures) : Type 0 where
  pub reached : f.reached ≡ count_by (λ time. is_some time) times
  pub least : IsRanked 1 times f.least
  pub percentile_5 : IsPercentile 5 times f.percentile_5
  pub percentile_25 : IsPercentile 25 times f.percentile_25
  pub percentile_50 : IsPercentile 50 times f.percentile_50
  pub percentile_75 : IsPercentile 75 times f.percentile_75
  pub percentile_95 : IsPercentile 95 times f.percentile_95
  pub greatest : IsRanked (length times) times f.greatest

-- For each stop, in order, the figures of its travel times, one a departure.
pub record HaveFigures (T : TimetableData) (from : List ℕ) (most : Option ℕ)
    (departures : List ℤ) (figures : List Figures) : Type 0 where
  pub each_stop : length figures ≡ length T.stops
  pub stop : (p : ℕ) (f : Figures) → p < length T.stops → (times : List (Option ℤ))
      × AreTravelTimes T from most departures p times
      × AreFigures times (slice_index_or figures p f)

-- So many departures there are, and the figures are those of their travel times.
pub record AreFiguresOver (T : TimetableData) (from : List ℕ) (most : Option ℕ) (d : Departures)
    (count : ℕ) (figures : List Figures) : Type 0 where
  pub times : List ℤ
  pub departures : AreDepartures d times
  pub counted : count ≡ length times
  pub have : HaveFigures T from most times figures
