use Rattle.std.proofs.Common.{◌≡◌, length, map}
use Rattle.footpaths.specs.Footpaths.{numbers, paths_from}
use Rattle.foot_close.specs.Shortest.{closure_of}
use Rattle.foot_close.proofs.table.Table.closed_paths.Given as goal

abbrev pub invariant-loop-from : goal.invariant-loop-from
invariant-loop-from l = record {
  change : l.change.items ≡ map (λ p. closure_of l.self p p) (numbers l.from);
  paths : map (λ row. row.items) l.paths.items ≡ map (paths_from (length l.self.change) (closure_of l.self)) (numbers l.from);
}
