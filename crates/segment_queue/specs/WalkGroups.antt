-- Stops in groups that no walk leads out of.
use Rattle.std.specs.Prelude.{◌≡◌, ℕ, ◌<◌, List, length, Some, slice_get, slice_index_or}
use Rattle.tb_base.specs.declared.table.Path.{Path}
use Rattle.tb_base.specs.TimetableData.{TimetableData}
use Rattle.tb_base.specs.Walking.{walk}

-- each stop has a group, and where there is a walk from one to another they have the same
pub record AreWalkGroups (T : TimetableData) (groups : List ℕ) : Type 0 where
  pub stops : length groups ≡ length T.stops
  pub same : (p q secs : ℕ) → p < length T.stops → walk T p q ≡ Some secs →
      slice_get groups q ≡ Some (slice_index_or groups p 0)

-- the footpath leads to a stop of this group
abbrev pub StaysIn : List ℕ → ℕ → Path → Type 0
StaysIn groups group f = slice_get groups f.to ≡ Some group
