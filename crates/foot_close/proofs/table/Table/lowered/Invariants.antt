use Rattle.std.proofs.Common.{◌≡◌, ◌≤◌, ◌*◌, length}
use Rattle.std.specs.Prelude.{count_by, sum_by}
use Rattle.footpaths.specs.Footpaths.{numbers}
use Rattle.tb_base.specs.Walking.{change_between}
use Rattle.foot_close.specs.Shortest.{closure_of}
use Rattle.foot_close.specs.Closing.{is_lowered}
use Rattle.foot_close.proofs.table.Table.lowered.Given as goal

abbrev pub invariant-loop-from : goal.invariant-loop-from
invariant-loop-from l = record {
  count : l.count ≡ sum_by (λ p. count_by (λ q. is_lowered (change_between l.self p q) (closure_of l.self p q)) (numbers (length l.self.change))) (numbers l.from);
  bound : l.count ≤ 100000 * l.from;
}
