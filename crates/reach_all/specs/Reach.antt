-- The best values to every stop.
use Rattle.std.specs.Prelude.{ℕ, ◌≡◌, ◌<◌, ℤ, List, [], ◌∷◌, length, slice_index_or}
use Rattle.tb_base.specs.declared.query.Value.{Value}
use Rattle.tb_base.specs.BestValues.{AreBestValues, QueryData}
use Rattle.tb_base.specs.TimetableData.{TimetableData}

-- the query with the stop as its only target
abbrev pub query_to : List ℕ → ℤ → ℕ → QueryData
query_to from leave stop = record { from = from; to = stop ∷ []; leave = leave }

-- what a list by stops has for a stop
abbrev pub values_at : List (List Value) → ℕ → List Value
values_at lists stop = slice_index_or lists stop []

-- For each stop, in order, the best values of the query with these origins, this time, and that
-- stop as its only target.
pub record IsReach (T : TimetableData) (from : List ℕ) (leave : ℤ)
    (lists : List (List Value)) : Type 0 where
  pub each_stop : length lists ≡ length T.stops
  pub best : (stop : ℕ) → stop < length T.stops →
      AreBestValues T (query_to from leave stop) (values_at lists stop)
