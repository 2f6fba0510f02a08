-- Rows of footpaths, one behind the other.
use Rattle.std.specs.Prelude.{◌≡◌, ℕ, suc, ◌-◌, ◌<◌, ◌≤◌, List, [], drop, length, slice_index_or, take}
use Rattle.tb_base.specs.declared.table.Path.{Path}

-- these are the first n rows: each stands from its bound up to the next
pub record ArePacked (rows : List (List Path)) (n : ℕ) (bounds : List ℕ) (paths : List Path) :
    Type 0 where
  pub long : length bounds ≡ suc n
  pub up : (q : ℕ) → q < n → slice_index_or bounds q 0 ≤ slice_index_or bounds (suc q) 0
  pub inside : (q : ℕ) → q < n → slice_index_or bounds (suc q) 0 ≤ length paths
  pub each : (q : ℕ) → q < n →
      take (slice_index_or bounds (suc q) 0 - slice_index_or bounds q 0)
      (drop (slice_index_or bounds q 0) paths) ≡ slice_index_or rows q []
