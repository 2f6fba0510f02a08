use Rattle.std.proofs.Common.{◌≡◌, ◌≤◌, ◌++◌, take, flat_map, length}
use Rattle.std.specs.Prelude.{filter}
use Rattle.gtfs_rows.specs.Told.{most_kept}
use Rattle.router_cli.specs.Warnings.{of_kind, warning_line}
use Rattle.router_cli.proofs.warned.add_kind.Given as goal

abbrev pub invariant-loop-warning : goal.invariant-loop-warning
invariant-loop-warning l = record {
  few : l.count ≤ l.warning-index;
  counted : l.count ≡ length (filter (of_kind l.name) (take l.warning-index l.warnings));
  told : l.text ≡ l.fn.text ++ flat_map (warning_line l.json) (take most_kept (filter (of_kind l.name) (take l.warning-index l.warnings)));
}
