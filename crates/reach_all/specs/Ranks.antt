-- Travel times by stops, and figures from travel times in order.
use Rattle.std.specs.Prelude.{◌≡◌, ◌<◌, ℕ, ◌-◌, List, [], ◌∷◌, ℤ, ◌+ℤ◌, Option, Some, None, Contains, length, slice_get, slice_index_or}
use Rattle.tb_base.specs.declared.query.Value.{Value}
use Rattle.tb_base.specs.BestValues.{IsLeast}
use Rattle.tb_base.specs.TimetableData.{TimetableData}
use Rattle.reach_all.specs.declared.figures.Figures.{Figures}
use Rattle.reach_all.specs.TravelTimes.{IsTravelTime, nearest_rank}

-- the travel times of the departures that reach a stop
abbrev pub reached_times : List (Option ℤ) → List ℤ
reached_times [] = []
reached_times (None ∷ times) = reached_times times
reached_times (Some time ∷ times) = time ∷ reached_times times

-- the time of a rank, of times in order
abbrev pub ranked : ℕ → List ℤ → Option ℤ
ranked rank times = slice_get times (rank - 1)

-- the figures of so many departures, by the times in order of those that reach the stop
abbrev pub figures_in_order : List ℤ → ℕ → Figures
figures_in_order times count = record {
  reached = length times;
  least = ranked 1 times;
  percentile_5 = ranked (nearest_rank 5 count) times;
  percentile_25 = ranked (nearest_rank 25 count) times;
  percentile_50 = ranked (nearest_rank 50 count) times;
  percentile_75 = ranked (nearest_rank 75 count) times;
  percentile_95 = ranked (nearest_rank 95 count) times;
  greatest = ranked count times;
}

-- the least time after the departure at which one of the values arrives
abbrev pub IsTimeOf : List Value → ℤ → Option ℤ → Type 0
IsTimeOf values leave time = IsLeast (λ secs. (v : Value) × Contains values v
    × (v.arrive ≡ leave +ℤ secs)) time

-- the travel times of a departure, by stops
pub record AreTimesAt (T : TimetableData) (from : List ℕ) (most : Option ℕ) (leave : ℤ)
    (times : List (Option ℤ)) : Type 0 where
  pub each_stop : length times ≡ length T.stops
  pub travel : (p : ℕ) (o : Option ℤ) → p < length T.stops →
      IsTravelTime T from most leave p (slice_index_or times p o)
