use Rattle.std.proofs.Common.{◌≡◌, ◌≤◌, Some, take}
use Rattle.std.specs.Prelude.{count_by}
use Rattle.tb_base.specs.Walking.{change_between}
use Rattle.foot_close.specs.Closing.{is_lowered}
use Rattle.foot_close.specs.Tables.{reached_from}
use Rattle.foot_close.specs.declared.search.Reached.{Reached}
use Rattle.foot_close.proofs.table.Table.lowered_from.Given as goal

abbrev pub invariant-loop-reached : goal.invariant-loop-reached
invariant-loop-reached l = record {
  count : l.count ≡ count_by (λ r. is_lowered (change_between l.self l.from (Reached.stop r)) (Some (Reached.secs r))) (take l.reached-index (reached_from l.self l.from));
  bound : l.count ≤ l.reached-index;
}
