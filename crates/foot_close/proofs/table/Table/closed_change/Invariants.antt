use Rattle.std.proofs.Common.{◌≡◌, drop, find}
use Rattle.std.specs.Prelude.{◌==◌}
use Rattle.foot_close.specs.Tables.{reached_from}
use Rattle.foot_close.specs.declared.search.Reached.{Reached}
use Rattle.foot_close.proofs.table.Table.closed_change.Given as goal

abbrev pub invariant-loop-reached : goal.invariant-loop-reached
invariant-loop-reached l = find (λ r. Reached.stop r == l.from) (reached_from l.self l.from) ≡ find (λ r. Reached.stop r == l.from) (drop l.reached-index (reached_from l.self l.from))
