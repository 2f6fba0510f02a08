-- The network of a day, as a search sees it.
use Rattle.std.specs.Prelude.{ℕ, List}
use Rattle.tb_base.specs.declared.transfer.Hop.{Hop}
use Rattle.tb_base.specs.TimetableData.{TimetableData}

-- a timetable, its lines as lists of trips, and for each event, by its trip and index, the hops by
-- which a search goes on from there
pub record NetData : Type 0 where
  pub table : TimetableData
  pub lines : List (List ℕ)
  pub hops : ℕ → ℕ → List Hop
