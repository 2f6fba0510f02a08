-- What chains lead to from each stop, by their numbers.
use Rattle.std.specs.Prelude.{◌≡◌, ◌≤◌, ℕ, List, length, map, Option, Some}
use Rattle.tb_base.specs.declared.table.Path.{Path}
use Rattle.footpaths.specs.Footpaths.{path_to, numbers, paths_of}
use Rattle.tb_base.specs.TimetableData.{FootpathData, path_total}
use Rattle.tb_base.specs.Soundness.{IsSoundFootpaths}
use Rattle.foot_close.specs.declared.search.Reached.{Reached}
use Rattle.foot_close.specs.Searching.{reached_of}
use Rattle.foot_close.specs.Shortest.{closure_of}

-- the footpath from a stop to one that was reached, where it is another
abbrev pub path_of : ℕ → Reached → Option Path
path_of p r = path_to p r.stop (Some r.secs)

-- what chains of given changes lead to from a stop
abbrev pub reached_from : FootpathData → ℕ → List Reached
reached_from P p = reached_of (length P.change) (closure_of P p)

pub record IsTable (P : FootpathData) (rows : List (List Reached)) : Type 0 where
  pub sound : IsSoundFootpaths P
  pub reached : rows ≡ map (reached_from P) (numbers (length P.change))
  pub few : path_total (paths_of (length P.change) (closure_of P)) ≤ 2000000
