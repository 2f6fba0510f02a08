use Rattle.std.proofs.Common.{◌≡◌}
use Rattle.gtfs_rows.specs.Told.{none_told, tell_all}
use Rattle.router_cli.proofs.checking.told_of.Given as goal

abbrev pub invariant-loop-fault : goal.invariant-loop-fault
invariant-loop-fault l = tell_all none_told l.fn.faults.items ≡ tell_all l.told l.fault-iterator.rest.items
