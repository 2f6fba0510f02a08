use Rattle.std.proofs.Common.{◌≡◌, ◌++◌, take, flat_map}
use Rattle.transfer_make.specs.ByBerth.{rows_at}
use Rattle.transfer_make.proofs.events.add_paths.Given as goal

abbrev pub invariant-loop-path : goal.invariant-loop-path
invariant-loop-path l =
    l.rows.items ≡ l.initial.rows.items ++ flat_map (λ f. rows_at l.lines.table l.lines.lines l.from.trip l.from.at f.to f.secs l.from.arr) (take l.path-index l.paths)
